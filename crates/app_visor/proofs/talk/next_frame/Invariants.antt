use Rattle.std.proofs.Common.{◌-◌, length}
use Rattle.app_visor.specs.Reads.{TakesOn}
use Rattle.app_visor.proofs.talk.next_frame.Given as goal

abbrev pub invariant-loop-came : goal.invariant-loop-came
invariant-loop-came g l = TakesOn g.W.World.Tells l.app l.fn.intake l.intake (g.W.World.seen l.fn.world) (g.W.World.seen l.world)

abbrev pub decreases-loop-came : goal.decreases-loop-came
decreases-loop-came g l = 1048583 - length l.intake
