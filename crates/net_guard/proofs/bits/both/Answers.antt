use Rattle.net_guard.specs.laws.BitLaws.{has-and}
use Rattle.net_guard.proofs.bits.both.Goals as goal

pub returns : goal.returns
returns c = has-and c.args.a c.args.b
