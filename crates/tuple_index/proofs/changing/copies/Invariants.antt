use Rattle.std.proofs.Common.{◌≡◌, ◌≤◌, take, length, All}
use Rattle.std.specs.List.{count_by}
use Rattle.flow_table.specs.Change.{means}
use Rattle.tuple_index.proofs.changing.copies.Given as goal

abbrev pub invariant-loop-entry : goal.invariant-loop-entry
invariant-loop-entry l = record {
  enough : count_by (means l.m) (take l.entry-index l.entries) ≤ length l.copies.items;
  same : All (λ c. c ≡ l.m.actions) l.copies.items;
}
