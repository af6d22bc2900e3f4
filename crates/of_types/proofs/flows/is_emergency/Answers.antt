use Rattle.of_types.proofs.Bits.{bit_2}
use Rattle.of_types.proofs.flows.is_emergency.Goals as goal

pub returns : goal.returns
returns c = bit_2 c.args.flags
