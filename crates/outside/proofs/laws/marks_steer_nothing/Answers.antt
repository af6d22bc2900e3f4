use Rattle.outside.specs.laws.StateLaws.{but_marks-step}
use Rattle.outside.proofs.laws.marks_steer_nothing.Goals as goal

pub returns : goal.returns
returns c = but_marks-step
