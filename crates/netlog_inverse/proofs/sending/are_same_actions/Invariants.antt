use Rattle.std.proofs.Common.{◌≡◌, ℕ, ◌<◌, true, get_or}
use Rattle.of_action.specs.declared.action.Action.{Action}
use Rattle.netlog_inverse.specs.Actions.{same_action}
use Rattle.netlog_inverse.proofs.sending.are_same_actions.Given as goal

abbrev pub invariant-loop-at : goal.invariant-loop-at
invariant-loop-at l = (j : ℕ) (d e : Action) → j < l.at → same_action (get_or l.a j d) (get_or l.b j e) ≡ true
