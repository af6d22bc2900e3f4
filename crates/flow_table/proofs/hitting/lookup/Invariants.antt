use Rattle.std.proofs.Common.{drop}
use Rattle.flow_table.specs.Table.{IsPositionOf}
use Rattle.flow_table.specs.Hit.{best}
use Rattle.flow_table.proofs.hitting.lookup.Given as goal

abbrev pub invariant-loop-i : goal.invariant-loop-i
invariant-loop-i l = IsPositionOf (best l.k (drop l.i l.entries)) l.entries l.found
