use Rattle.std.proofs.Common.{◌≡◌, map, drop}
use Rattle.lego_model.specs.SessionSteps.{steps_of}
use Rattle.session_text.specs.TextGives.{with_front}
use Rattle.session_text.proofs.text_steps.steps_of.Given as goal

abbrev pub invariant-loop-step : goal.invariant-loop-step
invariant-loop-step l =
    with_front l.given (steps_of (map (λ w. w.now) (drop l.step-index l.steps))) ≡ steps_of (map (λ w. w.now) l.steps)
