use Rattle.netlog_inverse.specs.laws.SendingLaws.{image-in_order, one-message, sent-restores, sent-fits}
use Rattle.netlog_inverse.proofs.laws.messages_in_order.Goals as goal

pub returns-clause-wanted : goal.returns-clause-wanted
returns-clause-wanted c = image-in_order

pub returns-clause-one : goal.returns-clause-one
returns-clause-one c = one-message

pub returns-clause-restores : goal.returns-clause-restores
returns-clause-restores c = sent-restores

pub returns-clause-room : goal.returns-clause-room
returns-clause-room c = sent-fits
