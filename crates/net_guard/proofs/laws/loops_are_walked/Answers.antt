use Rattle.net_guard.proofs.Walked.{loop_walked}
use Rattle.net_guard.proofs.laws.loops_are_walked.Goals as goal

pub returns : goal.returns
returns c = loop_walked
