use Rattle.std.proofs.Common.{◌≡◌, ℕ, ◌<◌, true, List, ◌∷◌, length, take, drop, sym, ap, ◌∙◌, subst, inl, inr, arith}
use Rattle.flow_table.specs.declared.view.TableView.{TableView as Lent}
use Rattle.flow_table.specs.View.{TableView}
use Rattle.net_txn.specs.Undos.{HasPassedBarrier, switches_of}
use Rattle.net_txn.specs.NetUndos.{NetFurther}
use Rattle.net_txn.specs.Views.{is_viewed}
use Rattle.net_txn.specs.laws.FurtherLaws.{room_same, room_then}
use Rattle.net_txn.specs.laws.NetUndoLaws.{stays_none, stays_then}
use Rattle.net_txn.proofs.ViewPositions.{as_many, switches_more, viewed_more, viewed_there}
use Rattle.net_txn.proofs.undo.await_all.Goals as goal

pub loop-at-init : goal.loop-at-init
loop-at-init g c = record {
  undoing = λ base first p x u. u;
  barred = λ d viewed. absurd cc;
  stays = stays_none c.args.from c.args.net.now;
  room = room_same c.args.fault.now _;
  parted = λ can old. old;
}

pub loop-at-preserved : goal.loop-at-preserved
loop-at-preserved g c =
    let i = c.loop-at.invariant in
    let s = c.await_noted.ensures in
    let views = c.args.net.now.views in
    let vs = c.views.result.now in
    let at = c.loop-at.at in
    let v = c.index-views-at.result in
    let shown = c.views.ensures ∙ i.stays.views in
    let within : at < length vs = let many = as_many vs c.views-at-end.result.now (shown ∙ sym c.views-at-end.ensures) in omega (arith, many, c.loop-at-test.true) in
    let is = c.index-views-at.is in
    let known = subst (λ (w : Lent). is_viewed w.dpid c.loop-at.net.views ≡ true) is (subst (λ (ws : List TableView). is_viewed v.dpid ws ≡ true) (sym i.stays.views) (viewed_there views vs at v shown within is)) in
    let same = ap (λ (w : Lent). w.dpid) (sym is) in
    record {
      undoing = λ base first p x u. subst (λ (switches : List ℕ). NetFurther g.W.World.Tells base (g.W.World.seen c.await_noted.new.world) first p x c.await_noted.new.net switches (drop c.args.from c.await_noted.new.net.log) c.await_noted.new.fault)
          (ap (λ (d : ℕ). d ∷ switches_of (take at views)) same ∙ sym (switches_more views vs at v shown within is)) (s.undoing base first p _ x (i.undoing base first p x u) known);
      barred = λ d viewed. elim (viewed_more d views vs at v shown within is viewed) [
        | inl before ↦ s.others d (i.barred d before)
        | inr here ↦ subst (λ (e : ℕ). HasPassedBarrier e (drop c.args.from c.await_noted.new.net.log)) (same ∙ here) s.barred
      ];
      stays = stays_then i.stays s.stays;
      room = room_then c.args.fault.now c.loop-at.fault c.await_noted.new.fault _ _ _ i.room s.room;
      parted = λ can old. s.parted can (i.parted can old);
    }
