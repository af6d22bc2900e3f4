use Rattle.std.proofs.Common.{◌≡◌, map, take}
use Rattle.std.specs.Prelude.{All}
use Rattle.of_types.specs.Layout.{AreFields}
use Rattle.of_wire.specs.Spelling.{port_fields}
use Rattle.flow_table.specs.Switch.{port_desc}
use Rattle.switch_sim.proofs.reply.describe_all.Given as goal

abbrev pub invariant-loop-port : goal.invariant-loop-port
invariant-loop-port l = record {
  so_far : l.descriptions.items ≡ map (port_desc l.dpid) (take l.port-index l.ports);
  fields : All (λ port. AreFields (port_fields port)) l.descriptions.items;
}
