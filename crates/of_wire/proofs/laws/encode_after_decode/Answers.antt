use Rattle.of_wire.specs.laws.GrammarLaws.{read_again}
use Rattle.of_wire.specs.laws.RewritingLaws.{SameButIgnored-message_bytes}
use Rattle.of_wire.proofs.laws.encode_after_decode.Goals as goal

pub returns-clause-again : goal.returns-clause-again
returns-clause-again c = read_again

pub returns-clause-same : goal.returns-clause-same
returns-clause-same c = SameButIgnored-message_bytes
