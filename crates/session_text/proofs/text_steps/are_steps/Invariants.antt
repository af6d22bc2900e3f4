use Rattle.std.proofs.Common.{◌≡◌, map, length}
use Rattle.lego_model.specs.SessionSteps.{are_steps}
use Rattle.session_text.proofs.text_steps.are_steps.Given as goal

abbrev pub invariant-loop-rest : goal.invariant-loop-rest
invariant-loop-rest l = are_steps (map (λ w. w.now) l.rest) ≡ are_steps (map (λ w. w.now) l.steps)

abbrev pub decreases-loop-rest : goal.decreases-loop-rest
decreases-loop-rest l = length l.rest
