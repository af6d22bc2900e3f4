use Rattle.std.proofs.Common.{◌∙◌}
use Rattle.session_record.specs.Deeds.{is_lost}
use Rattle.session_record.specs.laws.DeedLaws.{any_so}
use Rattle.session_record.proofs.life.is_lost.Goals as goal

pub returns : goal.returns
returns c = c.any_lost.ensures ∙ any_so c.args._bytes.now is_lost c.args.deeds.now
