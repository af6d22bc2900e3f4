use Rattle.app_frames.specs.laws.AppLaws.{app_reading-app_bytes, app_one, app_at_front, app_size, app_alone, app_whole_stays, app_fault_stays, app_none, app_before, app_ends}
use Rattle.app_frames.proofs.laws.laws_of_app_frames.Goals as goal

pub returns-clause-again : goal.returns-clause-again
returns-clause-again c = app_reading-app_bytes

pub returns-clause-one : goal.returns-clause-one
returns-clause-one c = app_one

pub returns-clause-spelled : goal.returns-clause-spelled
returns-clause-spelled c = app_at_front

pub returns-clause-size : goal.returns-clause-size
returns-clause-size c = app_size

pub returns-clause-alone : goal.returns-clause-alone
returns-clause-alone c = app_alone

pub returns-clause-whole_stays : goal.returns-clause-whole_stays
returns-clause-whole_stays c = app_whole_stays

pub returns-clause-fault_stays : goal.returns-clause-fault_stays
returns-clause-fault_stays c = app_fault_stays

pub returns-clause-none : goal.returns-clause-none
returns-clause-none c = app_none

pub returns-clause-before : goal.returns-clause-before
returns-clause-before c = app_before

pub returns-clause-ends : goal.returns-clause-ends
returns-clause-ends c = app_ends
