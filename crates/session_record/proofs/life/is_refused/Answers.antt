use Rattle.std.proofs.Common.{◌∙◌}
use Rattle.session_record.specs.Deeds.{is_refused}
use Rattle.session_record.specs.laws.DeedLaws.{any_so}
use Rattle.session_record.proofs.life.is_refused.Goals as goal

pub returns : goal.returns
returns c = c.any_refused.ensures ∙ any_so c.args._bytes.now is_refused c.args.deeds.now
