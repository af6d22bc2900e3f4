use Rattle.std.proofs.Common.{◌≡◌, drop}
use Rattle.net_txn.specs.Undos.{progress_of}
use Rattle.net_txn.proofs.undo_progress.progress_of.Given as goal

abbrev pub invariant-loop-entry : goal.invariant-loop-entry
invariant-loop-entry l = progress_of l.dpid (drop l.entry-index l.reverted) ≡ progress_of l.dpid l.reverted
