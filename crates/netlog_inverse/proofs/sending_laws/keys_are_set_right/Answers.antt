use Rattle.netlog_inverse.specs.laws.MendKeyLaws.{right-marks}
use Rattle.netlog_inverse.proofs.sending_laws.keys_are_set_right.Goals as goal

pub returns : goal.returns
returns c = right-marks
