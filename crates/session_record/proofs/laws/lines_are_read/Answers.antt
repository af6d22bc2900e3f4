use Rattle.session_record.specs.laws.ReadLaws.{join_read, leave_read, at_read, frame_read, raw_read, fault_read}
use Rattle.session_record.specs.laws.MoreReadLaws.{port_read, count_read, start_read}
use Rattle.session_record.specs.laws.SwitchReadLaws.{switch_is_read}
use Rattle.session_record.specs.laws.ReplyReadLaws.{reply_read}
use Rattle.session_record.proofs.laws.lines_are_read.Goals as goal

pub returns-clause-join : goal.returns-clause-join
returns-clause-join c = join_read

pub returns-clause-leave : goal.returns-clause-leave
returns-clause-leave c = leave_read

pub returns-clause-moment : goal.returns-clause-moment
returns-clause-moment c = at_read

pub returns-clause-frame : goal.returns-clause-frame
returns-clause-frame c = frame_read

pub returns-clause-raw : goal.returns-clause-raw
returns-clause-raw c = raw_read

pub returns-clause-loss : goal.returns-clause-loss
returns-clause-loss c = fault_read

pub returns-clause-port : goal.returns-clause-port
returns-clause-port c = port_read

pub returns-clause-count : goal.returns-clause-count
returns-clause-count c = count_read

pub returns-clause-start : goal.returns-clause-start
returns-clause-start c = start_read

pub returns-clause-switch : goal.returns-clause-switch
returns-clause-switch c = switch_is_read

pub returns-clause-reply : goal.returns-clause-reply
returns-clause-reply c = reply_read
