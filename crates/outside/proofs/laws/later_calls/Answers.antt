use Rattle.outside.specs.laws.SeenLaws.{Continues-trans, LinkHeld-first, LinkHeld-second}
use Rattle.outside.proofs.laws.later_calls.Goals as goal

pub returns-clause-continues : goal.returns-clause-continues
returns-clause-continues g c = Continues-trans g.W.World.Tells

pub returns-clause-first : goal.returns-clause-first
returns-clause-first g c = LinkHeld-first

pub returns-clause-second : goal.returns-clause-second
returns-clause-second g c = LinkHeld-second
