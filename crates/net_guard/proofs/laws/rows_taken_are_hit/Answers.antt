use Rattle.net_guard.proofs.Taken.{taken_is_hit}
use Rattle.net_guard.proofs.laws.rows_taken_are_hit.Goals as goal

pub returns : goal.returns
returns c = taken_is_hit
