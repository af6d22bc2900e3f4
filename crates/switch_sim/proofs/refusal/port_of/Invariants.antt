use Rattle.std.proofs.Common.{◌≡◌, drop}
use Rattle.flow_table.specs.Switch.{port_at}
use Rattle.switch_sim.proofs.refusal.port_of.Given as goal

abbrev pub invariant-loop-port : goal.invariant-loop-port
invariant-loop-port l = port_at l.number (drop l.port-index l.all) ≡ port_at l.number l.all
