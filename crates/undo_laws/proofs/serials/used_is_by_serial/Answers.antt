use Rattle.undo_laws.specs.laws.SerialsLaws.{used_or-stands, used_or-gone}
use Rattle.undo_laws.proofs.serials.used_is_by_serial.Goals as goal

pub returns-clause-stands : goal.returns-clause-stands
returns-clause-stands c = used_or-stands

pub returns-clause-gone : goal.returns-clause-gone
returns-clause-gone c = used_or-gone
