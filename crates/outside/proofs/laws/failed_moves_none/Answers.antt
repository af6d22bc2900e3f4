use Rattle.outside.specs.laws.LinkLaws.{switch_of-send_failed, waits_of-send_failed, switch_of-recv_failed, waits_of-recv_failed}
use Rattle.outside.proofs.laws.failed_moves_none.Goals as goal

pub returns-clause-sends : goal.returns-clause-sends
returns-clause-sends c = switch_of-send_failed

pub returns-clause-sends_none : goal.returns-clause-sends_none
returns-clause-sends_none c = waits_of-send_failed

pub returns-clause-receives : goal.returns-clause-receives
returns-clause-receives c = switch_of-recv_failed

pub returns-clause-receives_none : goal.returns-clause-receives_none
returns-clause-receives_none c = waits_of-recv_failed
