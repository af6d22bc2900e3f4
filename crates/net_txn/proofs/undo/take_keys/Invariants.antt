use Rattle.std.proofs.Common.{◌≡◌, drop, map}
use Rattle.net_txn.specs.Undos.{without_keys, key_logged}
use Rattle.net_txn.proofs.undo.take_keys.Given as goal

abbrev pub invariant-loop-entry : goal.invariant-loop-entry
invariant-loop-entry l =
    without_keys (map key_logged (drop l.entry-index l.log)) l.views ≡ without_keys (map key_logged l.log) l.fn.views
