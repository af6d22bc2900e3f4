use Rattle.undo_laws.specs.laws.TableLaws.{CanRevert-sent}
use Rattle.undo_laws.proofs.table.order_has_room.Goals as goal

pub returns : goal.returns
returns c = CanRevert-sent
