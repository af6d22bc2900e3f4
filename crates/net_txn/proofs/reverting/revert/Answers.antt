use Rattle.std.proofs.Common.{◌≡◌, get_or, drop, refl, sym, ap, ◌∙◌}
use Rattle.net_txn.specs.declared.logged.UndoProgress.{UndoProgress}
use Rattle.net_txn.specs.Undos.{progress_of}
use Rattle.net_txn.specs.laws.RevertLaws.{skipped_first, unfaulted}
use Rattle.net_txn.proofs.reverting.revert.Goals as goal

pub returns-else-reverts-clause-undoing : goal.returns-else-reverts-clause-undoing
returns-else-reverts-clause-undoing g c = λ base x first p q fault e u.
    let r = c.index-log-0.result in
    let d = (get_or c.args.log.now 0 r).dpid in
    let progress : c.progress_of-progress.result ≡ progress_of d (drop 1 c.args.log.now) = c.progress_of-progress.ensures ∙ ap (progress_of d) c.behind.ensures in
    unfaulted (skipped_first c.args.log.now c.mark.new.log _ r c.requires.place (c.mark.ensures.marked r) refl (ap (λ (f : UndoProgress). f.lost) progress) (λ known. sym (ap (λ (f : UndoProgress). f.failed) progress) ∙ c.reverts.ensures.no c.if-reverts.false known) u)
