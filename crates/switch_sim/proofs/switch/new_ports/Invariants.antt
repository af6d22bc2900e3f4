use Rattle.std.proofs.Common.{◌≡◌, map, take}
use Rattle.flow_table.specs.Switch.{new_port}
use Rattle.switch_sim.proofs.switch.new_ports.Given as goal

abbrev pub invariant-loop-number : goal.invariant-loop-number
invariant-loop-number l = l.ports.items ≡ map new_port (take l.number-index l.numbers)
