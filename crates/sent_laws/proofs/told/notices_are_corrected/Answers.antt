use Rattle.sent_laws.specs.laws.ToldLaws.{expiry-corrected}
use Rattle.sent_laws.proofs.told.notices_are_corrected.Goals as goal

pub returns : goal.returns
returns c = expiry-corrected
