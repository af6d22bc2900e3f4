use Rattle.std.proofs.Common.{length}
use Rattle.legosdn.proofs.Cutting.{Reached}
use Rattle.legosdn.proofs.input.cut.Given as goal

abbrev pub invariant-loop-rest : goal.invariant-loop-rest
invariant-loop-rest l = Reached l.input l.rest l.number

abbrev pub decreases-loop-rest : goal.decreases-loop-rest
decreases-loop-rest l = length l.rest
