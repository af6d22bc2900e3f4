use Rattle.std.proofs.Common.{arith}
use Rattle.std.proofs.Math.Pow.{pow-lt}
use Rattle.of_match.proofs.codec.any_bit.Goals as goal

pub returns-else-is_value-clause-small : goal.returns-else-is_value-clause-small
returns-else-is_value-clause-small c = omega (arith, pow-lt c.requires)
