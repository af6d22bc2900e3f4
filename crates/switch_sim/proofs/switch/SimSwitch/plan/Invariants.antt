use Rattle.std.proofs.Common.{◌≡◌, map, take}
use Rattle.std.specs.Prelude.{All}
use Rattle.std.specs.List.{flat_map}
use Rattle.flow_table.specs.Frames.{sent_by_packet_output}
use Rattle.switch_sim.specs.Readable.{AreReadable}
use Rattle.switch_sim.specs.Plan.{IsPlanned, planned_output}
use Rattle.switch_sim.proofs.switch.SimSwitch.plan.Given as goal

abbrev pub invariant-loop-to : goal.invariant-loop-to
invariant-loop-to l = record {
  outputs : map planned_output l.steps.items ≡ take l.to-index l.outputs;
  planned : All (IsPlanned l.in_port l.self) l.steps.items;
  readable : AreReadable l.messages.items;
  sent : l.messages.items ≡ flat_map (λ o. sent_by_packet_output l.in_port o l.self) (take l.to-index l.outputs);
}
