use Rattle.std.proofs.Common.{◌≡◌, ◌≤◌, ◌+◌, filter, length, drop}
use Rattle.flow_table.specs.Change.{tells}
use Rattle.tuple_index.proofs.changing.count_among.Given as goal

abbrev pub invariant-loop-entry : goal.invariant-loop-entry
invariant-loop-entry l = record {
  few : l.count ≤ l.entry-index;
  so_far : l.count + length (filter (tells l.m) (drop l.entry-index l.entries)) ≡ length (filter (tells l.m) l.entries);
}
