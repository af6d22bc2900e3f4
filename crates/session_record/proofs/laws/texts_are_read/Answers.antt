use Rattle.session_record.specs.laws.TextLaws.{text_read}
use Rattle.session_record.proofs.laws.texts_are_read.Goals as goal

pub returns : goal.returns
returns c = text_read
