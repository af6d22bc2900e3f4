use Rattle.std.proofs.Common.{◌≡◌, ◌++◌, drop}
use Rattle.session_lists.proofs.step_list.StepList.from_script.Given as goal

abbrev pub invariant-loop-step : goal.invariant-loop-step
invariant-loop-step l = l.steps ++ drop l.step-index l.step-items ≡ l.script
