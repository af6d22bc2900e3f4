use Rattle.std.proofs.Common.{◌∙◌}
use Rattle.session_record.specs.Deeds.{is_unasked}
use Rattle.session_record.specs.laws.DeedLaws.{any_so}
use Rattle.session_record.proofs.life.is_unasked.Goals as goal

pub returns : goal.returns
returns c = c.any_unasked.ensures ∙ any_so c.args._bytes.now is_unasked c.args.deeds.now
