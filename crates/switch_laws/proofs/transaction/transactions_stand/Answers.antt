use Rattle.switch_laws.specs.laws.SinceLaws.{begun, goes-on}
use Rattle.switch_laws.proofs.transaction.transactions_stand.Goals as goal

pub returns-clause-begun : goal.returns-clause-begun
returns-clause-begun g c = begun

pub returns-clause-goes_on : goal.returns-clause-goes_on
returns-clause-goes_on g c = goes-on g.W.World.Tells
