use Rattle.std.proofs.Common.{◌≡◌, map, take}
use Rattle.flow_table.specs.Statistics.{part_bytes}
use Rattle.switch_sim.specs.Readable.{AreReadable}
use Rattle.switch_sim.proofs.statistics.encode_parts.Given as goal

abbrev pub invariant-loop-part : goal.invariant-loop-part
invariant-loop-part l = record {
  so_far : l.messages.items ≡ map (part_bytes l.xid) (take l.part-index l.parts);
  readable : AreReadable l.messages.items;
}
