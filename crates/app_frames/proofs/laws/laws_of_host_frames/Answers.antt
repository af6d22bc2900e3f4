use Rattle.app_frames.specs.laws.HostLaws.{host_reading-host_bytes, host_one, host_at_front, host_size, host_alone, host_whole_stays, host_fault_stays, host_never_too_long, host_none, host_before}
use Rattle.app_frames.proofs.laws.laws_of_host_frames.Goals as goal

pub returns-clause-again : goal.returns-clause-again
returns-clause-again c = host_reading-host_bytes

pub returns-clause-one : goal.returns-clause-one
returns-clause-one c = host_one

pub returns-clause-spelled : goal.returns-clause-spelled
returns-clause-spelled c = host_at_front

pub returns-clause-size : goal.returns-clause-size
returns-clause-size c = host_size

pub returns-clause-alone : goal.returns-clause-alone
returns-clause-alone c = host_alone

pub returns-clause-whole_stays : goal.returns-clause-whole_stays
returns-clause-whole_stays c = host_whole_stays

pub returns-clause-fault_stays : goal.returns-clause-fault_stays
returns-clause-fault_stays c = host_fault_stays

pub returns-clause-never_too_long : goal.returns-clause-never_too_long
returns-clause-never_too_long c = host_never_too_long

pub returns-clause-none : goal.returns-clause-none
returns-clause-none c = host_none

pub returns-clause-before : goal.returns-clause-before
returns-clause-before c = host_before
