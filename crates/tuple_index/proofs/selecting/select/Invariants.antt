use Rattle.std.proofs.Common.{◌≡◌, ◌++◌, drop}
use Rattle.flow_table.specs.Rows.{is_selected, positions_from}
use Rattle.tuple_index.proofs.selecting.select.Given as goal

abbrev pub invariant-loop-i : goal.invariant-loop-i
invariant-loop-i l = l.places.items ++ positions_from l.i (is_selected l.m l.out_port) (drop l.i l.entries) ≡ positions_from 0 (is_selected l.m l.out_port) l.entries
