use Rattle.flow_table.specs.View.{plains}
use Rattle.net_txn.specs.laws.JoiningLaws.{LowerBefore}
use Rattle.net_txn.proofs.joining.position_for.Given as goal

abbrev pub invariant-loop-i : goal.invariant-loop-i
invariant-loop-i l = LowerBefore l.dpid (plains l.views) l.i
