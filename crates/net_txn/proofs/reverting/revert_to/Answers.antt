use Rattle.std.proofs.Common.{◌≡◌, ◌<◌, List, length, get_or, false, refl, sym, ap, ◌∙◌, subst, arith}
use Rattle.std.proofs.lemmas.Result.{err_from_is_err_and}
use Rattle.std.proofs.lemmas.List.{get_or-set_same}
use Rattle.std.proofs.Math.Seq.{lt-length-set}
use Rattle.net_txn.specs.declared.logged.Logged.{Logged}
use Rattle.net_txn.specs.Undos.{with_progress}
use Rattle.net_txn.specs.laws.RevertLaws.{lost_link, stuck_first, sent_first, few_first, unfaulted, await_reverted}
use Rattle.net_txn.specs.laws.UndoWaitLaws.{says_moves, says_fails}
use Rattle.net_txn.proofs.reverting.revert_to.Goals as goal

pub returns-in_err-send_first-clause-undoing : goal.returns-in_err-send_first-clause-undoing
returns-in_err-send_first-clause-undoing g c = λ base views x first ps qs fault e u known unfailed more.
    let p = err_from_is_err_and c.from_residual.result c.from_residual.ensures.1 in
    rw (p.1, p.2) (stuck_first c.args.log.now c.send_first.new.log _ e _ c.requires.place (c.in_err-send_first.ensures.marked e) refl (lost_link _ _ c.args.buf.now) c.take_xid-id.ensures.next u known unfailed (says_fails _ _ _ _ (c.in_err-send_first.ensures.says e)))

pub returns-then-since-lt-MOST_BEHIND_BARRIER-clause-undoing :
    goal.returns-then-since-lt-MOST_BEHIND_BARRIER-clause-undoing
returns-then-since-lt-MOST_BEHIND_BARRIER-clause-undoing g c = λ base views x first ps qs fault e u known unfailed more.
    let e1 = c.in_ok-send_first.ensures in
    let p = sent_first c.args.log.now c.send_first.new.log _ e c.requires.place (e1.marked e) refl refl c.take_xid-id.ensures.taken (omega arith) (e1.priority e) c.take_xid-id.ensures.next u known unfailed more (says_moves (e1.says e)) in
    unfaulted (few_first c.args.log.now c.send_first.new.log _ e c.requires.place (e1.marked e) c.if-since-lt-MOST_BEHIND_BARRIER.true p known)

pub returns-clause-undoing : goal.returns-clause-undoing
returns-clause-undoing g c = λ base views x first ps qs fault e u known unfailed more.
    let e1 = c.in_ok-send_first.ensures in
    let p = sent_first c.args.log.now c.send_first.new.log _ e c.requires.place (e1.marked e) refl refl c.take_xid-id.ensures.taken (omega arith) (e1.priority e) c.take_xid-id.ensures.next u known unfailed more (says_moves (e1.says e)) in
    let d = (get_or c.args.log.now 0 e).dpid in
    let sent : Logged = with_progress (record { xid = c.take_xid-id.result; since = c.args.since; failed = false; lost = false }) (get_or c.args.log.now 0 e) in
    let here : (get_or c.send_first.new.log 0 e).dpid ≡ d =
    ap (λ (xs : List Logged). (get_or xs 0 e).dpid) (e1.marked e) ∙ ap (λ (l : Logged). l.dpid) (get_or-set_same c.args.log.now 0 sent e c.requires.place) in
    let lt : 0 < length c.send_first.new.log = subst (λ (xs : List Logged). 0 < length xs) (sym (e1.marked e)) (lt-length-set c.args.log.now 0 sent c.requires.place) in
    let s = c.await_at.ensures in
    await_reverted d c.send_first.new.log c.await_at.new.log e c.await_at.result c.await_at.new.buf lt here (s.marked e) (omega arith) c.take_xid-id-2.ensures.next p known (rw c.take_xid-id-2.ensures.taken at (s.passes e).replied) (rw c.take_xid-id-2.ensures.taken at (s.passes e).failed)

pub returns-in_err-send_first-clause-parted : goal.returns-in_err-send_first-clause-parted
returns-in_err-send_first-clause-parted g c =
    let p = err_from_is_err_and c.from_residual.result c.from_residual.ensures.1 in
    λ can. rw (p.1, p.2) c.in_err-send_first.ensures.plain
