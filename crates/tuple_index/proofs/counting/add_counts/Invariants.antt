use Rattle.std.proofs.Common.{◌≡◌, ◌++◌, map, take, drop}
use Rattle.flow_table.specs.Hit.{with_more}
use Rattle.tuple_index.proofs.counting.add_counts.Given as goal

abbrev pub invariant-loop-entry : goal.invariant-loop-entry
invariant-loop-entry l = l.entries ≡ map (with_more l.priority l.packets l.bytes) (take l.entry-index l.initial.entries) ++ drop l.entry-index l.initial.entries
