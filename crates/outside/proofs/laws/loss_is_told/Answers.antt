use Rattle.outside.specs.laws.CallLaws.{Sends-lost-journal, Receives-lost-journal}
use Rattle.outside.proofs.laws.loss_is_told.Goals as goal

pub returns-clause-sending : goal.returns-clause-sending
returns-clause-sending g c d frame old new told call joined = Sends-lost-journal told call joined

pub returns-clause-receiving : goal.returns-clause-receiving
returns-clause-receiving g c d buf old new told call joined = Receives-lost-journal told call joined
