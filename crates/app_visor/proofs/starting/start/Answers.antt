use Rattle.app_visor.specs.laws.TalkLaws.{told_started, told_not_started, wants_start}
use Rattle.app_visor.proofs.starting.start.Goals as goal

pub returns-in-Ok-clause-ok : goal.returns-in-Ok-clause-ok
returns-in-Ok-clause-ok g c = told_started _ c.in-Ok.ensures

pub returns-in-Err-NotStarted-clause-ok : goal.returns-in-Err-NotStarted-clause-ok
returns-in-Err-NotStarted-clause-ok g c = told_not_started (rw c.in-Err-NotStarted.field-0-is at c.in-Err-NotStarted.ensures)

pub returns-in-Err-Short-clause-err : goal.returns-in-Err-Short-clause-err
returns-in-Err-Short-clause-err g c = wants_start (rw c.in-Err-Short.field-0-is at c.in-Err-Short.ensures)
