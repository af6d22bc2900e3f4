use Rattle.std.proofs.Common.{arith}
use Rattle.of_wire.specs.Spelling.{message_size}
use Rattle.switch_sim.proofs.reply.config.Goals as goal

pub spell-requires : goal.spell-requires
unfolding message_size
spell-requires c = record { fields = (omega arith, (omega arith, tt)); tail = tt; size = omega arith }
