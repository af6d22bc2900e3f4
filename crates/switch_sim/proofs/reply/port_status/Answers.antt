use Rattle.std.proofs.Common.{arith}
use Rattle.of_wire.specs.Spelling.{message_size}
use Rattle.switch_sim.proofs.reply.port_status.Goals as goal

pub spell-requires : goal.spell-requires
unfolding message_size
spell-requires c = record { fields = (omega arith, c.in_ok-port.ensures.fields); tail = tt; size = omega arith }
