use Rattle.std.proofs.Common.{◌≡◌, map, filter, take}
use Rattle.flow_table.specs.Change.{notice, tells}
use Rattle.tuple_index.proofs.changing.notices_among.Given as goal

abbrev pub invariant-loop-entry : goal.invariant-loop-entry
invariant-loop-entry l = l.notices.items ≡ map (notice 2 l.now) (filter (tells l.m) (take l.entry-index l.entries))
