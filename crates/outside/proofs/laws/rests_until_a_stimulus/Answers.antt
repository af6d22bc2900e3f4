use Rattle.outside.specs.laws.CallLaws.{MayStep-at_rest}
use Rattle.outside.proofs.laws.rests_until_a_stimulus.Goals as goal

pub returns : goal.returns
returns c = MayStep-at_rest
