use Rattle.sent_laws.specs.laws.SentLaws.{sent-table, sent-same, sent-taken}
use Rattle.sent_laws.proofs.sent.messages_undo.Goals as goal

pub returns-clause-table : goal.returns-clause-table
returns-clause-table c = sent-table

pub returns-clause-rest : goal.returns-clause-rest
returns-clause-rest c = sent-same

pub returns-clause-taken : goal.returns-clause-taken
returns-clause-taken c = sent-taken
