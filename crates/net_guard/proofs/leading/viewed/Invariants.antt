use Rattle.flow_table.specs.View.{plains}
use Rattle.net_guard.specs.Leading.{is_viewed}
use Rattle.net_guard.proofs.Marking.{Marking}
use Rattle.net_guard.proofs.leading.viewed.Given as goal

abbrev pub invariant-loop-i : goal.invariant-loop-i
invariant-loop-i l = Marking l.set l.hops (λ h. is_viewed h.to.0 (plains l.tables)) l.i
