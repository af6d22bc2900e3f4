use Rattle.std.proofs.Common.{◌≡◌, drop}
use Rattle.net_txn.specs.Undos.{views_left, kept_left}
use Rattle.net_txn.proofs.undo.forget_lost.Given as goal

abbrev pub invariant-loop-entry : goal.invariant-loop-entry
invariant-loop-entry l = record {
  views : views_left l.reverted (drop l.entry-index l.reverted) l.views ≡ views_left l.reverted l.reverted l.fn.views;
  kept : kept_left l.reverted (drop l.entry-index l.reverted) l.kept ≡ kept_left l.reverted l.reverted l.fn.kept;
}
