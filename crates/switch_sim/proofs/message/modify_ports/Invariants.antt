use Rattle.std.proofs.Common.{◌≡◌, ◌==◌, ◌++◌, map, take, drop, if◌then◌else◌}
use Rattle.flow_table.specs.Step.{with_config}
use Rattle.switch_sim.proofs.message.modify_ports.Given as goal

abbrev pub invariant-loop-port : goal.invariant-loop-port
invariant-loop-port l = l.ports ≡ map (λ p. if p.number == l.m.port_no then with_config l.m p else p) (take l.port-index l.initial.ports) ++ drop l.port-index l.initial.ports
