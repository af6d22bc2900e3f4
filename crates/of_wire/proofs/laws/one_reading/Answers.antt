use Rattle.of_wire.specs.laws.ReadingLaws.{same_from_SpellMessage}
use Rattle.of_wire.proofs.laws.one_reading.Goals as goal

pub returns : goal.returns
returns c = same_from_SpellMessage
