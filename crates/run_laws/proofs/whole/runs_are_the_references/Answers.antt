use Rattle.run_laws.specs.laws.EndingLaws.{ran-out, ran-full}
use Rattle.run_laws.proofs.whole.runs_are_the_references.Goals as goal

pub returns-clause-out : goal.returns-clause-out
returns-clause-out g c = λ rules. ran-out rules g.W.World.Tells

pub returns-clause-full : goal.returns-clause-full
returns-clause-full g c = λ rules. ran-full rules g.W.World.Tells
