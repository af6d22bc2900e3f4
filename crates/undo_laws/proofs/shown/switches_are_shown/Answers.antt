use Rattle.undo_laws.specs.laws.CorrectedSwitchLaws.{stimulus-shown, sent-shown, packet-shown, packet_sent-shown, moment-shown, expiry-shown}
use Rattle.undo_laws.proofs.shown.switches_are_shown.Goals as goal

pub returns-clause-stimulus : goal.returns-clause-stimulus
returns-clause-stimulus c = stimulus-shown

pub returns-clause-sent : goal.returns-clause-sent
returns-clause-sent c = sent-shown

pub returns-clause-packet : goal.returns-clause-packet
returns-clause-packet c = packet-shown

pub returns-clause-packet_sent : goal.returns-clause-packet_sent
returns-clause-packet_sent c = packet_sent-shown

pub returns-clause-moment : goal.returns-clause-moment
returns-clause-moment c = moment-shown

pub returns-clause-notices : goal.returns-clause-notices
returns-clause-notices c = expiry-shown
