use Rattle.std.proofs.Common.{◌≡◌, ◌+◌, ◌≤◌, length, map, take}
use Rattle.std.specs.Vec.{vec_len, vec_capacity}
use Rattle.flow_table.specs.Step.{flow_removed_bytes}
use Rattle.switch_sim.specs.Readable.{AreReadable}
use Rattle.switch_sim.specs.Words.{AreSpares}
use Rattle.switch_sim.proofs.notices.write_all.Given as goal

abbrev pub invariant-loop-notice : goal.invariant-loop-notice
invariant-loop-notice l = record {
  written : l.messages.items ≡ map flow_removed_bytes (take l.notice-index l.notices);
  len : vec_len l.messages ≡ l.notice-index;
  room : length l.notices ≤ vec_capacity l.messages;
  buffers : length l.notices ≤ vec_len l.buffers + l.notice-index;
  each : AreSpares l.buffers.items;
  readable : AreReadable l.messages.items;
}
