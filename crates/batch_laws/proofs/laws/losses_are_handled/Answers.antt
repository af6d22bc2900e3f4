use Rattle.batch_laws.specs.laws.LossLaws.{loss-handled}
use Rattle.batch_laws.proofs.laws.losses_are_handled.Goals as goal

pub returns : goal.returns
returns g c = loss-handled
