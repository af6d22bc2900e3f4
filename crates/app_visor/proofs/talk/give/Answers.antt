use Rattle.app_visor.specs.laws.TalkLaws.{told_gave, told_gone, wants_give}
use Rattle.app_visor.proofs.talk.give.Goals as goal

pub returns-in-Ok-clause-ok : goal.returns-in-Ok-clause-ok
returns-in-Ok-clause-ok g c = told_gave _ c.in-Ok.ensures

pub returns-in-Err-Gone-clause-ok : goal.returns-in-Err-Gone-clause-ok
returns-in-Err-Gone-clause-ok g c = told_gone (rw c.in-Err-Gone.field-0-is at c.in-Err-Gone.ensures)

pub returns-in-Err-Short-clause-err : goal.returns-in-Err-Short-clause-err
returns-in-Err-Short-clause-err g c = wants_give (rw c.in-Err-Short.field-0-is at c.in-Err-Short.ensures)
