use Rattle.std.proofs.Common.{◌≡◌, ◌++◌, map, take, drop}
use Rattle.shadow_tables.specs.Known.{configured}
use Rattle.shadow_tables.proofs.ports.configure.Given as goal

abbrev pub invariant-loop-port : goal.invariant-loop-port
invariant-loop-port l = l.ports ≡ map (configured l.number l.config) (take l.port-index l.initial.ports) ++ drop l.port-index l.initial.ports
