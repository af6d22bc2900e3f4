use Rattle.net_guard.specs.Leading.{goes_over}
use Rattle.net_guard.proofs.Marking.{Marking}
use Rattle.net_guard.proofs.leading.by_action.Given as goal

abbrev pub invariant-loop-i : goal.invariant-loop-i
invariant-loop-i l = Marking l.set l.hops (λ h. goes_over l.place h l.action) l.i
