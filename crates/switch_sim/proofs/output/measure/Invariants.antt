use Rattle.std.proofs.Common.{take}
use Rattle.std.specs.Prelude.{All}
use Rattle.switch_sim.specs.Words.{HasAddress}
use Rattle.switch_sim.proofs.output.measure.Given as goal

abbrev pub invariant-loop-action : goal.invariant-loop-action
invariant-loop-action l = All HasAddress (take l.action-index l.actions)
