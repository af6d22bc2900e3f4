use Rattle.netlog_inverse.specs.laws.MendLaws.{said-mended, hard-mended}
use Rattle.netlog_inverse.proofs.laws.mended_images_say.Goals as goal

pub returns-clause-said : goal.returns-clause-said
returns-clause-said c = said-mended

pub returns-clause-hard : goal.returns-clause-hard
returns-clause-hard c = hard-mended
