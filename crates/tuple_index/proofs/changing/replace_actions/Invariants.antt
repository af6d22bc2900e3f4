use Rattle.std.proofs.Common.{◌≡◌, ◌≤◌, ◌++◌, map, take, drop, length, All}
use Rattle.std.specs.List.{count_by}
use Rattle.flow_table.specs.Change.{modified, means}
use Rattle.tuple_index.proofs.changing.replace_actions.Given as goal

abbrev pub invariant-loop-i : goal.invariant-loop-i
invariant-loop-i l = record {
  done : map (modified l.m) l.initial.entries.items ≡ take l.i l.entries.items ++ map (modified l.m) (drop l.i l.entries.items);
  long : length l.entries.items ≡ length l.initial.entries.items;
  enough : count_by (means l.m) (drop l.i l.entries.items) ≤ length l.copies.items;
  same : All (λ c. c ≡ l.m.actions) l.copies.items;
}
