use Rattle.outside.specs.laws.CallLaws.{Sends-lost, Receives-lost, Sends-out, Receives-out, Sends-failed, Receives-failed}
use Rattle.outside.proofs.laws.failed_call_loses.Goals as goal

pub returns-clause-lost_sending : goal.returns-clause-lost_sending
returns-clause-lost_sending g c d frame old new told call joined = Sends-lost told call joined

pub returns-clause-lost_receiving : goal.returns-clause-lost_receiving
returns-clause-lost_receiving g c d buf old new told call joined = Receives-lost told call joined

pub returns-clause-out_sending : goal.returns-clause-out_sending
returns-clause-out_sending g c d frame old new told call out = Sends-out told call out

pub returns-clause-out_receiving : goal.returns-clause-out_receiving
returns-clause-out_receiving g c d buf old new told call out = Receives-out told call out

pub returns-clause-sending_out : goal.returns-clause-sending_out
returns-clause-sending_out g c d frame old new told call = Sends-failed told call

pub returns-clause-receiving_out : goal.returns-clause-receiving_out
returns-clause-receiving_out g c d buf old new told call = Receives-failed told call
