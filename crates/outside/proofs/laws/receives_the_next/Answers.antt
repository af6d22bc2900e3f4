use Rattle.outside.specs.laws.CallLaws.{Receives-conforming, Receives-state}
use Rattle.outside.proofs.laws.receives_the_next.Goals as goal

pub returns-clause-next : goal.returns-clause-next
returns-clause-next g c d old new buf n told call keeps = Receives-conforming n told call keeps

pub returns-clause-moves : goal.returns-clause-moves
returns-clause-moves g c d old new buf n told call = Receives-state n told call
