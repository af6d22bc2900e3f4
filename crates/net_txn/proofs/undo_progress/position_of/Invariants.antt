use Rattle.std.proofs.Common.{◌≡◌, ℕ, ◌+◌, drop}
use Rattle.net_txn.specs.Undos.{keys_in, IsProgressAt}
use Rattle.net_txn.proofs.undo_progress.position_of.Given as goal

abbrev pub invariant-loop-i : goal.invariant-loop-i
invariant-loop-i l = record {
  keys : keys_in l.dpid (drop l.i l.reverted) ≡ keys_in l.dpid l.reverted;
  places : (j : ℕ) → IsProgressAt l.dpid (drop l.i l.reverted) j → IsProgressAt l.dpid l.reverted (l.i + j);
}
