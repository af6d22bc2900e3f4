use Rattle.outside.specs.laws.LinkLaws.{switch_of-send_lost, waits_of-send_lost, switch_of-send_lost_other, waits_of-send_lost_other, switch_of-recv_lost, waits_of-recv_lost, switch_of-recv_lost_other, waits_of-recv_lost_other}
use Rattle.outside.proofs.laws.lost_goes_out.Goals as goal

pub returns-clause-sends : goal.returns-clause-sends
returns-clause-sends c = switch_of-send_lost

pub returns-clause-sends_no_more : goal.returns-clause-sends_no_more
returns-clause-sends_no_more c = waits_of-send_lost

pub returns-clause-receives : goal.returns-clause-receives
returns-clause-receives c = switch_of-recv_lost

pub returns-clause-receives_no_more : goal.returns-clause-receives_no_more
returns-clause-receives_no_more c = waits_of-recv_lost

pub returns-clause-others : goal.returns-clause-others
returns-clause-others c = switch_of-send_lost_other

pub returns-clause-others_wait : goal.returns-clause-others_wait
returns-clause-others_wait c = waits_of-send_lost_other

pub returns-clause-other_ones : goal.returns-clause-other_ones
returns-clause-other_ones c = switch_of-recv_lost_other

pub returns-clause-other_ones_wait : goal.returns-clause-other_ones_wait
returns-clause-other_ones_wait c = waits_of-recv_lost_other
