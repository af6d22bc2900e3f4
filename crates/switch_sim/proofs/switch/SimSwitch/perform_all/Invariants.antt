use Rattle.std.proofs.Common.{◌≡◌, map, drop}
use Rattle.flow_table.specs.Frames.{after_packet_outputs}
use Rattle.switch_sim.specs.Plan.{planned_output}
use Rattle.switch_sim.specs.laws.LookLaws.{LooksLike}
use Rattle.switch_sim.proofs.switch.SimSwitch.perform_all.Given as goal

abbrev pub invariant-loop-step : goal.invariant-loop-step
invariant-loop-step l = record {
  like : LooksLike l.self l.fn.self;
  so_far : after_packet_outputs l.in_port (map planned_output (drop l.step-index l.steps)) l.self ≡ after_packet_outputs l.in_port (map planned_output l.steps) l.fn.self;
}
