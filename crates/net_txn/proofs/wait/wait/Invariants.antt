use Rattle.std.proofs.Common.{◌≡◌, length}
use Rattle.net_txn.specs.Undos.{inverses_in}
use Rattle.net_txn.specs.Said.{WaitsOn}
use Rattle.net_txn.proofs.wait.wait.Given as goal

abbrev pub invariant-loop-heard : goal.invariant-loop-heard
invariant-loop-heard g l = record {
  heard : WaitsOn g.W.World.Tells l.awaited l.storage (inverses_in l.awaited.dpid l.reverted) (g.W.World.seen l.fn.world) (g.W.World.seen l.world) l.fn.kept l.kept l.answer l._heard;
  room : length l.buf ≡ length l.fn.buf;
}
