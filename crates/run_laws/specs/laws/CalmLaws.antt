-- Laws of a calm run: it stays calm where nothing but calls for an application came; behind a turn whose packets were released, and behind one
-- that was undone, where the switches that were lost are told.
use Rattle.std.proofs.Common.{◌≡◌, ◌==◌, ℕ, ◌+◌, ◌≤◌, true, false, not, List, [], ◌∷◌, map, filter, drop, Option, Some, None, Ok, refl, sym, ap, ◌∙◌, subst, inl, inr}
use Rattle.std.proofs.lemmas.Bool.{cases_Bool}
use Rattle.std.specs.Option.{option_map}
use Rattle.of_match.specs.declared.key.Key.{Key}
use Rattle.flow_table.specs.declared.view.ViewRow.{ViewRow}
use Rattle.flow_table.specs.View.{TableView}
use Rattle.flow_table.specs.Switch.{SwitchState}
use Rattle.lego_model.specs.Answers.{rows_of_table}
use Rattle.lego_model.specs.Controller.{leavers}
use Rattle.outside.specs.Seen.{Seen}
use Rattle.outside.specs.State.{State, state, switch_of}
use Rattle.outside.specs.Conforming.{Conforming}
use Rattle.net_txn.specs.laws.OrderLaws.{left-ascends}
use Rattle.net_txn.specs.Net.{NetState}
use Rattle.net_txn.specs.Views.{rows_at, with_rows, is_viewed, ViewsAscend}
use Rattle.flow_table.specs.Sorted.{without_key}
use Rattle.net_txn.specs.Undos.{key_logged, without_keys, next_free, lost_parts, is_lost_in, undone_net, StandsReady, Undoes}
use Rattle.net_txn.specs.Losing.{lost_net, lose_all}
use Rattle.net_txn.specs.Releases.{committed}
use Rattle.lego_model.specs.Packets.{Held, HeldBack}
use Rattle.app_frames.specs.declared.frame.Event.{Event}
use Rattle.switch_laws.specs.Released.{ReleaseShown}
use Rattle.switch_laws.specs.Since.{ports_known, Ready, logged_since, Goes}
use Rattle.switch_laws.specs.Sound.{Sound}
use Rattle.switch_laws.specs.laws.SoundStepLaws.{undo-sound}
use Rattle.switch_laws.specs.laws.ShownUndoLaws.{undo-ready, no-rows}
use Rattle.batch_laws.specs.Calm.{Calm}
use Rattle.run_laws.specs.LinkSteps.{Rests}
use Rattle.switch_laws.specs.laws.LinkLaws.{links_switch, links_waits}
use Rattle.net_txn.specs.Leaving.{none_left}

-- ---- Where the switches stay

pub Rests-refl : (s : State) → Rests s s
Rests-refl s = record { begun = refl; due = refl; moment = refl }

pub Rests-trans : (s t u : State) → Rests s t → Rests t u → Rests s u
Rests-trans s t u first second = record { begun = second.begun ∙ first.begun; due = second.due ∙ first.due; moment = second.moment ∙ first.moment }

pub calm_talk : {Own : Type 0} (old new : Seen Own) (net : NetState) → (state new).links ≡ (state old).links → Rests (state old) (state new) → Calm old net → Calm new net
calm_talk old new net same rests calm = record {
  ready = record {
    waits = λ d. links_waits d (state old) (state new) same ∙ calm.ready.waits d;
    agrees = λ d. calm.ready.agrees d ∙ ap (option_map (λ x. rows_of_table x.table.entries)) (sym (links_switch d (state old) (state new) same));
    known = λ d. calm.ready.known d ∙ ap (ports_known d) (sym (links_switch d (state old) (state new) same));
  };
  sound = record { entries = λ d x is. calm.sound.entries d x (sym (links_switch d (state old) (state new) same) ∙ is) };
  order = calm.order;
  kept = calm.kept;
  moment = calm.moment ∙ sym rests.moment;
  none_begun = rests.begun ∙ calm.none_begun;
  none_due = rests.due ∙ calm.none_due;
  held = calm.held;
  left = calm.left;
}

-- ---- The order of views

abbrev dpids : List TableView → List ℕ
dpids views = map (λ v. v.dpid) views

dpids_with_rows : (d : ℕ) (change : List ViewRow → List ViewRow) (views : List TableView) → dpids (with_rows d change views) ≡ dpids views
dpids_with_rows d change [] = refl
dpids_with_rows d change (v ∷ vs) =
    elim (cases_Bool (v.dpid == d)) [
      | inl here ↦ rw here refl
      | inr other ↦ rw other (ap (λ (ds : List ℕ). v.dpid ∷ ds) (dpids_with_rows d change vs))
    ]

dpids_without : (ps : List (ℕ × Key)) (views : List TableView) → dpids (without_keys ps views) ≡ dpids views
dpids_without [] views = refl
dpids_without (p ∷ ps) views = dpids_without ps (with_rows p.0 (without_key p.1) views) ∙ dpids_with_rows p.0 (without_key p.1) views

first_of : (a b : ℕ) (xs ys : List ℕ) → a ∷ xs ≡ b ∷ ys → a ≡ b
first_of a b xs ys is = cc

rest_of : (a b : ℕ) (xs ys : List ℕ) → a ∷ xs ≡ b ∷ ys → xs ≡ ys
rest_of a b xs ys is = cc

ascend_same : (least : ℕ) (vs ws : List TableView) → dpids vs ≡ dpids ws → ViewsAscend least ws → ViewsAscend least vs
ascend_same least [] ws same all = tt
ascend_same least (v ∷ vs) [] same all = absurd cc
ascend_same least (v ∷ vs) (w ∷ ws) same all =
    let one = first_of v.dpid w.dpid (dpids vs) (dpids ws) same in
    let more = rest_of v.dpid w.dpid (dpids vs) (dpids ws) same in
    (subst (λ (n : ℕ). least ≤ n) (sym one) all.0, subst (λ (n : ℕ). ViewsAscend (n + 1) vs) (sym one) (ascend_same (w.dpid + 1) vs ws more all.1))

-- ---- What stays where switches are lost

-- what is kept of a network that lost these switches
pub record StaysBut (net lost_is : NetState) : Type 0 where
  pub moment : lost_is.moment ≡ net.moment
  pub held : lost_is.held ≡ net.held
  pub kept : net.kept ≡ [] → lost_is.kept ≡ []
  pub order : ViewsAscend 0 net.views → ViewsAscend 0 lost_is.views

pub lost-stays : (lost : List ℕ) (net : NetState) → StaysBut net (lose_all lost net)
lost-stays [] net = record { moment = refl; held = refl; kept = λ none. none; order = λ up. up }
lost-stays (d ∷ lost) net =
    let rest = lost-stays lost (lost_net d net) in
    record {
      moment = rest.moment;
      held = rest.held;
      kept = λ none. rest.kept (ap (filter (λ m. not (m.0 == d))) none);
      order = λ up. rest.order (left-ascends d 0 net.views up);
    }

-- ---- Behind a turn, where the switches that were lost in it are told

-- behind the messages of a turn
pub record TurnStays {Own : Type 0} (first now : Seen Own) (net : NetState) : Type 0 where
  pub order : ViewsAscend 0 net.views
  pub kept : net.kept ≡ []
  pub moment : net.moment ≡ (state now).moment
  pub begun : (state now).begun ≡ false
  pub due : (state now).due ≡ []

pub turn_stays : {Own : Type 0} (start : ℕ) (lost : List ℕ) (first now : Seen Own) (net0 net : NetState) → Goes start lost first now net0 net → Rests (state first) (state now) → Calm first net0 → TurnStays first now net
turn_stays start lost first now net0 net goes rests calm =
    let stays = lost-stays lost net0 in
    record {
      order = ascend_same 0 net.views (lose_all lost net0).views (sym (dpids_without (logged_since start net) net.views) ∙ ap dpids goes.since.views) (stays.order calm.order);
      kept = goes.since.kept ∙ stays.kept calm.kept;
      moment = goes.since.moment ∙ calm.moment ∙ sym rests.moment;
      begun = rests.begun ∙ calm.none_begun;
      due = rests.due ∙ calm.none_due;
    }

-- Behind the release of its packets all is calm.
pub calm_released : {Own : Type 0} (start : ℕ) (held : HeldBack) (sent : List Held) (first old new : Seen Own) (net now_net : NetState) (queue now_queue : List Event) → TurnStays first old net
    → ReleaseShown held sent old new (committed start net) now_net queue now_queue → Rests (state old) (state new) → Calm new (none_left now_net)
calm_released start held sent first old new net now_net queue now_queue there shown rests =
    let stays = lost-stays (leavers shown.release_is.left) (committed start net) in
    record {
      ready = record { waits = shown.ready.waits; agrees = shown.ready.agrees; known = shown.ready.known };
      sound = shown.sound;
      order = subst (ViewsAscend 0) (sym (ap (λ (n : NetState). n.views) shown.net_is)) (stays.order there.order);
      kept = ap (λ (n : NetState). n.kept) shown.net_is ∙ stays.kept there.kept;
      moment = ap (λ (n : NetState). n.moment) shown.net_is ∙ stays.moment ∙ there.moment ∙ sym rests.moment;
      none_begun = rests.begun ∙ there.begun;
      none_due = rests.due ∙ there.due;
      held = ap (λ (n : NetState). n.held) shown.net_is ∙ stays.held;
      left = refl;
    }

-- ---- Where they were undone

some_rows : (d : ℕ) (views : List TableView) → is_viewed d views ≡ true → rows_at d views ≡ None → ⊥
some_rows d [] viewed none = absurd cc
some_rows d (v ∷ vs) viewed none =
    elim (cases_Bool (v.dpid == d)) [
      | inl here ↦ no_rows v.rows (rw here at none)
      | inr other ↦ some_rows d vs (rw other at viewed) (rw other at none)
    ]
  where
    no_rows : (rows : List ViewRow) → Some rows ≡ None → ⊥
    no_rows rows h = cc

pub stands_ready : {Own : Type 0} (d : ℕ) (seen : Seen Own) (net : NetState) → Ready seen net → is_viewed d net.views ≡ true → (o : Option SwitchState) → switch_of d (state seen) ≡ o → StandsReady d (state seen)
stands_ready d seen net ready viewed (Some s) is = record { switch = s; stands = is; waits = ready.waits d }
stands_ready d seen net ready viewed None is =
    absurd (some_rows d net.views viewed (no-rows (rows_at d net.views) (ready.agrees d ∙ ap (option_map (λ x. rows_of_table x.table.entries)) is)))

-- Behind its undo all is calm.
pub calm_undone : {Own : Type 0} (Tells : Type 0) (start : ℕ) (lost : List ℕ) (first old new : Seen Own) (net0 net now_net : NetState) → Tells → Conforming new → Goes start lost first old net0 net → (u : Undoes Tells start old new net now_net (Ok tt))
    → TurnStays first old net → Sound (state first) → Rests (state old) (state new) → Calm new (none_left now_net)
calm_undone Tells start lost first old new net0 net now_net told keeps goes u there sound rests =
    let ready = undo-ready Tells start lost first old new net0 net now_net told keeps goes.since goes.ready u in
    let undone : NetState = record (undone_net start net) { xid = next_free net.xid u.parts; kept = u.kept; room = now_net.room } in
    let stays = lost-stays (lost_parts u.parts) undone in
    let kept : now_net.kept ≡ [] = u.none_kept told keeps refl (λ d viewed. stands_ready d old net goes.ready viewed (switch_of d (state old)) refl) ∙ ap (filter (λ m. not (is_lost_in m.0 u.parts))) there.kept in
    record {
      ready = record { waits = ready.waits; agrees = ready.agrees; known = ready.known };
      sound = undo-sound Tells start lost first old new net0 net now_net told keeps goes.since goes.ready u sound;
      order = subst (ViewsAscend 0) (sym (ap (λ (n : NetState). n.views) u.net_is)) (stays.order (ascend_same 0 undone.views net.views (dpids_without (map key_logged (drop start net.log)) net.views) there.order));
      kept = kept;
      moment = ap (λ (n : NetState). n.moment) u.net_is ∙ stays.moment ∙ there.moment ∙ sym rests.moment;
      none_begun = rests.begun ∙ there.begun;
      none_due = rests.due ∙ there.due;
      held = ap (λ (n : NetState). n.held) u.net_is ∙ stays.held;
      left = refl;
    }
