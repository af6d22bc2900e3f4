use Rattle.std.proofs.Common.{arith}
use Rattle.std.proofs.lemmas.List.{length-map}
use Rattle.of_wire.specs.Spelling.{message_size}
use Rattle.flow_table.specs.Switch.{port_desc}
use Rattle.switch_sim.specs.laws.ReadableLaws.{ports_spelled}
use Rattle.switch_sim.proofs.reply.features.Goals as goal

pub spell-requires : goal.spell-requires
unfolding message_size
spell-requires c = record {
  fields = (omega arith, (omega arith, (omega arith, (omega arith, (omega arith, tt)))));
  tail = ports_spelled c.in_ok-ports.ports c.in_ok-ports.ensures.fields;
  size = rw c.in_ok-ports.ensures.ports (omega (arith, c.requires, length-map c.args.ports.now (port_desc c.args.dpid)));
}
