use Rattle.net_guard.specs.laws.BitLaws.{has-with}
use Rattle.net_guard.proofs.bits.with.Goals as goal

pub returns : goal.returns
returns c = λ k. has-with c.args.set c.args.i k c.requires
