use Rattle.std.proofs.Common.{◌≡◌, drop}
use Rattle.sim_world.specs.Scripts.{lines_of}
use Rattle.sim_world.proofs.scripts.find_line.Given as goal

abbrev pub invariant-loop-i : goal.invariant-loop-i
invariant-loop-i g l = lines_of l.app (drop l.from l.lines) ≡ lines_of l.app (drop l.i l.lines)
