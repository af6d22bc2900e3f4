use Rattle.outside.specs.laws.StateLaws.{Conforming-front, Conforming-rest}
use Rattle.outside.proofs.laws.conforming_before.Goals as goal

pub returns-clause-front : goal.returns-clause-front
returns-clause-front g c = Conforming-front

pub returns-clause-rest : goal.returns-clause-rest
returns-clause-rest g c = Conforming-rest
