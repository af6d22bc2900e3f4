use Rattle.std.proofs.Common.{◌≡◌, List, take, drop, map, sym, ◌∙◌, ap, ap₂, subst, arith}
use Rattle.app_frames.specs.declared.frame.Event.{Event}
use Rattle.lego_model.specs.Packets.{Held, nothing_held}
use Rattle.std.specs.Prelude.{vec_len}
use Rattle.std.specs.Vec.{with_items}
use Rattle.std.proofs.lemmas.List.{with_items_is}
use Rattle.net_txn.specs.declared.logged.Logged.{Logged}
use Rattle.net_txn.specs.Net.{NetState}
use Rattle.net_txn.specs.Undos.{IsUndoOrder, Undoes, key_logged}
use Rattle.net_txn.specs.laws.WholeLaws.{undoes}
use Rattle.net_txn.proofs.net.Net.undo_from.Goals as goal

pub returns-clause-undoes : goal.returns-clause-undoes
returns-clause-undoes g c =
    let s = c.self.inside in
    let u = c.undo_log.ensures in
    let n = c.undo_log.new in
    let start = c.args.start in
    let from = c.within_log-from.result in
    let net : NetState = record { views = s.views; ports = s.ports.known; log = s.log.items; held = record { packets = s.held.items; notices = s.notices }; xid = s.xid; moment = s.moment; kept = s.kept; room = vec_len s.rooms; left = s.ports.left } in
    let old = g.W.World.seen c.args.world.now in
    let new = g.W.World.seen n.world in
    let front = subst (λ (xs : List Logged). take from xs ≡ take start xs) c.deref.ensures.value c.within_log-from.ensures.front in
    let rest = subst (λ (xs : List Logged). drop from xs ≡ drop start xs) c.deref.ensures.value c.within_log-from.ensures.rest in
    let sorted = c.order_from.new.log in
    let log = (with_items s.log sorted).items in
    let stands : log ≡ sorted = with_items_is s.log sorted (omega arith) in
    let o = c.order_from.ensures in
    let is = c.deref_mut.ensures.value in
    let kept : take from log ≡ take start s.log.items = ap (λ (xs : List Logged). take from xs) stands ∙ o.front ∙ ap (λ (xs : List Logged). take from xs) is ∙ front in
    let ordered : IsUndoOrder (map key_logged (drop start s.log.items)) (map key_logged (drop from log)) =
    subst (λ (es : List Logged). IsUndoOrder (map key_logged es) (map key_logged (drop from log))) (ap (λ (xs : List Logged). drop from xs) is ∙ rest)
    (subst (λ (xs : List Logged). IsUndoOrder (map key_logged (drop from c.deref_mut.result.now)) (map key_logged (drop from xs))) (sym stands) o.ordered) in
    let held : record { packets = c.clear.new.self.items; notices = c.clear-2.new.self } ≡ nothing_held = ap₂ (λ (packets : List Held) (notices : List Event). record { packets = packets; notices = notices }) c.clear.ensures.items c.clear-2.ensures in
    subst (λ (x : NetState). Undoes g.W.World.Tells start old new x n.net c.undo_log.result) c.self.view_is
    (undoes start from old new net n.net log c.undo_log.result kept ordered u.undoing u.log (u.held ∙ held) u.moment u.room)
