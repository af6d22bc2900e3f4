use Rattle.std.proofs.Common.{◌≡◌, ◌==◌, ◌++◌, map, take, drop, if◌then◌else◌}
use Rattle.flow_table.specs.Step.{set_link}
use Rattle.switch_sim.proofs.stimulus.set_links.Given as goal

abbrev pub invariant-loop-port : goal.invariant-loop-port
invariant-loop-port l = l.all ≡ map (λ p. if p.number == l.number then set_link l.up p else p) (take l.port-index l.initial.all) ++ drop l.port-index l.initial.all
