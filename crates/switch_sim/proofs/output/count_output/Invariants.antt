use Rattle.std.proofs.Common.{◌≡◌, ◌++◌, map, take, drop}
use Rattle.switch_sim.specs.Words.{after_output_at}
use Rattle.switch_sim.proofs.output.count_output.Given as goal

abbrev pub invariant-loop-port : goal.invariant-loop-port
invariant-loop-port l = l.ports ≡ map (after_output_at l.in_port l.to l.len) (take l.port-index l.initial.ports) ++ drop l.port-index l.initial.ports
