use Rattle.switch_laws.specs.laws.OrderlyLaws.{exchange-orderly, undo-orderly, release-orderly}
use Rattle.switch_laws.proofs.order.steps_are_in_order.Goals as goal

pub returns-clause-exchange : goal.returns-clause-exchange
returns-clause-exchange g c app = exchange-orderly app g.W.World.Tells

pub returns-clause-undo : goal.returns-clause-undo
returns-clause-undo g c app = undo-orderly app g.W.World.Tells

pub returns-clause-release : goal.returns-clause-release
returns-clause-release g c app = release-orderly app g.W.World.Tells
