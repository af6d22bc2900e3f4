use Rattle.std.proofs.Common.{◌≢◌, ◌<◌, ℕ, get_or}
use Rattle.sim_world.specs.declared.life.LifeCell.{LifeCell}
use Rattle.sim_world.proofs.lives.find.Given as goal

abbrev pub invariant-loop-i : goal.invariant-loop-i
invariant-loop-i l = (k : ℕ) (d : LifeCell) → k < l.i → (get_or l.cells k d).app ≢ l.app
