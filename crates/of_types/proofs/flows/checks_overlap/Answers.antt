use Rattle.of_types.proofs.Bits.{bit_1}
use Rattle.of_types.proofs.flows.checks_overlap.Goals as goal

pub returns : goal.returns
returns c = bit_1 c.args.flags
