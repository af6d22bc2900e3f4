use Rattle.script_laws.specs.laws.FollowLaws.{tells_fronts}
use Rattle.script_laws.proofs.scripts.journals_tell_fronts.Goals as goal

pub returns : goal.returns
returns c = λ app own seen more. tells_fronts own app seen.history more
