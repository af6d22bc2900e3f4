use Rattle.net_guard.specs.laws.BitLaws.{has-or}
use Rattle.net_guard.proofs.bits.either.Goals as goal

pub returns : goal.returns
returns c = has-or c.args.a c.args.b
