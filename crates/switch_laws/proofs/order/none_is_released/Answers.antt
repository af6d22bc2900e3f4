use Rattle.switch_laws.specs.laws.LossLaws.{losses-none}
use Rattle.switch_laws.specs.laws.OrderlyLaws.{exchange-releases-none, undo-releases-none, released-none}
use Rattle.switch_laws.proofs.order.none_is_released.Goals as goal

pub returns-clause-exchange : goal.returns-clause-exchange
returns-clause-exchange g c = exchange-releases-none g.W.World.Tells

pub returns-clause-undo : goal.returns-clause-undo
returns-clause-undo g c = undo-releases-none g.W.World.Tells

pub returns-clause-steps : goal.returns-clause-steps
returns-clause-steps g c steps none = released-none steps none

pub returns-clause-losses : goal.returns-clause-losses
returns-clause-losses g c steps none = losses-none steps none
