use Rattle.netlog_inverse.specs.laws.KeyOrderLaws.{image-in_key_order, key_order-restores, key_order-room}
use Rattle.netlog_inverse.proofs.sending_laws.key_order_restores.Goals as goal

pub returns-clause-wanted : goal.returns-clause-wanted
returns-clause-wanted c = image-in_key_order

pub returns-clause-restores : goal.returns-clause-restores
returns-clause-restores c = key_order-restores

pub returns-clause-room : goal.returns-clause-room
returns-clause-room c = key_order-room
