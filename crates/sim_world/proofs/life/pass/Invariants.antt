use Rattle.std.proofs.Common.{◌≡◌, ◌-◌, length}
use Rattle.sim_world.specs.Scripts.{passed}
use Rattle.sim_world.specs.Lives.{from_position}
use Rattle.sim_world.proofs.life.pass.Given as goal

abbrev pub invariant-loop-at : goal.invariant-loop-at
invariant-loop-at l = passed (from_position l.at l.steps) ≡ passed (from_position l.initial.at l.steps)

abbrev pub decreases-loop-at : goal.decreases-loop-at
decreases-loop-at l = length l.steps - l.at.step
