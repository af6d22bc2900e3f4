use Rattle.std.proofs.Common.{◌≡◌, take}
use Rattle.std.specs.List.{flat_map}
use Rattle.flow_table.specs.Frames.{sent_by_output}
use Rattle.switch_sim.specs.Readable.{AreReadable}
use Rattle.switch_sim.proofs.output.packet_ins.Given as goal

abbrev pub invariant-loop-to : goal.invariant-loop-to
invariant-loop-to l = record {
  so_far : l.messages.items ≡ flat_map (sent_by_output l.in_port) (take l.to-index l.outputs);
  readable : AreReadable l.messages.items;
}
