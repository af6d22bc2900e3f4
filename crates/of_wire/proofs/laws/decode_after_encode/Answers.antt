use Rattle.of_wire.specs.laws.SpellingLaws.{SpellMessage-message_bytes}
use Rattle.of_wire.specs.laws.ReadingLaws.{reading_of-message_bytes}
use Rattle.of_wire.proofs.laws.decode_after_encode.Goals as goal

pub returns-clause-written : goal.returns-clause-written
returns-clause-written c = SpellMessage-message_bytes

pub returns-clause-again : goal.returns-clause-again
returns-clause-again c = reading_of-message_bytes
