use Rattle.std.proofs.Common.{rules, ◌≡◌, ℕ, true, drop, Option, sym, subst}
use Rattle.std.specs.Prelude.{vec_len}
use Rattle.lego_model.specs.declared.fault.TxnFault.{TxnFault}
use Rattle.net_txn.specs.Net.{NetState}
use Rattle.net_txn.specs.Undos.{Further, HasPassedBarrier, ended_by, switches_of}
use Rattle.net_txn.specs.NetUndos.{StaysInUndo, ports_in}
use Rattle.net_txn.specs.Views.{is_viewed}
use Rattle.net_txn.specs.laws.NetUndoLaws.{undoes_log}
use Rattle.net_txn.proofs.undo.undo_log.Goals as goal

pub returns-clause-undoing : goal.returns-clause-undoing
returns-clause-undoing g c =
    let s = c.net.inside in
    let e = c.undo-undone.ensures in
    let from = c.args.from in
    let net = c.args.net.now in
    let old = g.W.World.seen c.args.world.now in
    let new = g.W.World.seen c.undo-undone.new.world in
    let result = c.undo-undone.result in
    let mid : NetState = record { views = s.views; ports = s.ports.known; log = s.log.items; held = record { packets = s.held.items; notices = s.notices }; xid = s.xid; moment = s.moment; kept = s.kept; room = vec_len s.rooms; left = s.ports.left } in
    let now : NetState = record mid { views = c.forget_lost.new.views; kept = c.forget_lost.new.kept } in
    let is = sym c.net.view_is in
    let undoing = subst (λ (n : NetState). (fault : Option TxnFault) × (result ≡ ended_by fault) × Further g.W.World.Tells net.views old new net.kept n.kept (ports_in net) (ports_in n) net.xid n.xid (switches_of net.views) (drop from n.log) fault) is e.undoing in
    let barred = subst (λ (n : NetState). (d : ℕ) → is_viewed d net.views ≡ true → HasPassedBarrier d (drop from n.log)) is e.barred in
    let stays = subst (λ (n : NetState). StaysInUndo from net n) is e.stays in
    undoes_log from old new net mid now result undoing barred stays (search rules) (search rules)
