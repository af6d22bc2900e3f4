use Rattle.std.proofs.Common.{◌≡◌, drop}
use Rattle.sim_world.specs.Scripts.{lines_of}
use Rattle.sim_world.proofs.scripts.find_turn.Given as goal

abbrev pub invariant-loop-i : goal.invariant-loop-i
invariant-loop-i l = lines_of l.app (drop l.from l.replies) ≡ lines_of l.app (drop l.i l.replies)
