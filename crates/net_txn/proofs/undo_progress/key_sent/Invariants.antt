use Rattle.std.proofs.Common.{◌≡◌, drop}
use Rattle.net_txn.specs.Undos.{inverses_in}
use Rattle.lego_model.specs.UndoFaults.{key_sent}
use Rattle.net_txn.proofs.undo_progress.key_sent.Given as goal

abbrev pub invariant-loop-entry : goal.invariant-loop-entry
invariant-loop-entry l =
    key_sent l.xid (inverses_in l.dpid (drop l.entry-index l.reverted)) ≡ key_sent l.xid (inverses_in l.dpid l.reverted)
