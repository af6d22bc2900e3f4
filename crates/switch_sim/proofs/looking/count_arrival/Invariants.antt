use Rattle.std.proofs.Common.{◌≡◌, ◌==◌, ◌++◌, map, take, drop, if◌then◌else◌}
use Rattle.flow_table.specs.Frames.{after_frame_in}
use Rattle.switch_sim.proofs.looking.count_arrival.Given as goal

abbrev pub invariant-loop-port : goal.invariant-loop-port
invariant-loop-port l = l.all ≡ map (λ p. if p.number == l.number then after_frame_in l.len p else p) (take l.port-index l.initial.all) ++ drop l.port-index l.initial.all
