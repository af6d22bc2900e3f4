-- What follows where an open transaction was undone in a world that keeps its word: the switches stand, as they are shown, as
-- the reference controller's do that gets the earlier tables back and loses the same switches in it.
use Rattle.std.proofs.Common.{◌≡◌, ◌==◌, ℕ, Bool, true, false, List, [], ◌∷◌, ◌++◌, filter, fold, Option, Some, None, Ok, refl, sym, ap, ap₂, ◌∙◌, subst, inl, inr, true≢false}
use Rattle.std.proofs.lemmas.Bool.{cases_Bool}
use Rattle.std.specs.Option.{option_map}
use Rattle.std.proofs.lemmas.Option.{none-some, same_Some}
use Rattle.flow_table.specs.declared.entry.Entry.{Entry}
use Rattle.flow_table.specs.declared.view.ViewRow.{ViewRow}
use Rattle.flow_table.specs.View.{TableView}
use Rattle.flow_table.specs.Table.{TableState}
use Rattle.flow_table.specs.Switch.{Declared, SwitchState}
use Rattle.flow_table.specs.Undone.{undone}
use Rattle.undo_laws.specs.CorrectedSwitch.{corrected_switch}
use Rattle.undo_laws.specs.laws.CorrectedSwitchLaws.{undone-shown}
use Rattle.lego_model.specs.Answers.{rows_of_table, rows_of_view}
use Rattle.lego_model.specs.Packets.{lose, undoing}
use Rattle.lego_model.specs.History.{lost_of}
use Rattle.lego_model.specs.Places.{Place, switch_undone, undone_places}
use Rattle.outside.specs.Seen.{Seen}
use Rattle.outside.specs.State.{State, state, switch_of}
use Rattle.outside.specs.Conforming.{Conforming}
use Rattle.outside.specs.laws.StateLaws.{Conforming-before}
use Rattle.net_txn.specs.declared.ports.KnownPorts.{KnownPorts}
use Rattle.net_txn.specs.Views.{rows_at, is_viewed}
use Rattle.net_txn.specs.Net.{NetState}
use Rattle.net_txn.specs.ChangeSteps.{Agrees}
use Rattle.net_txn.specs.Losing.{lose_all}
use Rattle.of_types.specs.Membership.{is_among}
use Rattle.net_txn.specs.Undos.{parts_of, is_stuck, lost_parts, keys_of, Undoes}
use Rattle.net_txn.specs.laws.LostPartLaws.{free-among, lost-distinct}
use Rattle.switch_laws.specs.Lost.{UndoShown}
use Rattle.switch_laws.specs.Shown.{rows_or_none, correction_in, shown_by, shown_switch, places, shown_places}
use Rattle.switch_laws.specs.laws.CorrectionLaws.{goes_along}
use Rattle.switch_laws.specs.Since.{ports_known, Ready, logged_since, JoinedSince, Since}
use Rattle.switch_laws.specs.laws.ClockLaws.{switch-in_time}
use Rattle.switch_laws.specs.laws.LossLaws.{lose_all-views, lose_all-rows, lose_all-rows_gone, lose_all-known, lose_all-known_gone, ports_lost, lose_all-left, ports_lost-same, known-shown, out_all, lost_events, out_all-stays, out_all-gone, Losable, events-lost, lose-shown, Stays, leavers-lost, ready-joined, joined-stays}
use Rattle.switch_laws.specs.laws.StandLaws.{table-serialed, all-stand}
use Rattle.switch_laws.specs.laws.PlaceLaws.{places-same}

-- ---- Places that are undone

undone-all : (f g : ℕ → Option SwitchState) (ds : List Declared) → undone_places (places f ds) (places g ds) ≡ places (λ d. switch_undone (f d) (g d)) ds
unfolding undone_places
undone-all f g [] = refl
undone-all f g (d ∷ ds) = ap (λ (ps : List Place). record { declared = d; switch = switch_undone (f d.dpid) (g d.dpid) } ∷ ps) (undone-all f g ds)

-- ---- Which switches are joined

pub rows_of_none : (d : ℕ) (views : List TableView) → is_viewed d views ≡ false → rows_at d views ≡ None
rows_of_none d [] h = refl
rows_of_none d (v ∷ vs) h =
    elim (cases_Bool (v.dpid == d)) [
      | inl here ↦ absurd (true≢false (rw here at h))
      | inr other ↦ rw other (rows_of_none d vs (rw other at h))
    ]

unviewed-rows : (d : ℕ) (views : List TableView) → rows_at d views ≡ None → is_viewed d views ≡ false
unviewed-rows d [] h = refl
unviewed-rows d (v ∷ vs) h =
    elim (cases_Bool (v.dpid == d)) [
      | inl here ↦ absurd (no_rows v.rows (rw here at h))
      | inr other ↦ rw other (unviewed-rows d vs (rw other at h))
    ]
  where
    no_rows : (rows : List ViewRow) → Some rows ≡ None → ⊥
    no_rows rows h = cc

pub viewed : (d : ℕ) (views : List TableView) (s : State) (x : SwitchState) → Agrees d views s → switch_of d s ≡ Some x → is_viewed d views ≡ true
viewed d views s x agrees is =
    elim (cases_Bool (is_viewed d views)) [
      | inl there ↦ there
      | inr not_there ↦
          let none : rows_at d views ≡ None = rows_of_none d views not_there in
          absurd (none-some (rows_of_table x.table.entries) (sym (ap (option_map rows_of_view) none) ∙ agrees ∙ ap (option_map (λ y. rows_of_table y.table.entries)) is))
    ]

-- a switch whose rows would be none has no view
pub no-rows : (rows : Option (List ViewRow)) → option_map rows_of_view rows ≡ None → rows ≡ None
no-rows None h = refl
no-rows (Some rows) h = absurd cc

pub unviewed : (d : ℕ) (views : List TableView) (s : State) → Agrees d views s → switch_of d s ≡ None → is_viewed d views ≡ false
unviewed d views s agrees out = unviewed-rows d views (no-rows (rows_at d views) (agrees ∙ ap (option_map (λ y. rows_of_table y.table.entries)) out))

-- ---- Switches of which some are out

undone-out : (o : Option SwitchState) → switch_undone o None ≡ None
undone-out None = refl
undone-out (Some s) = refl

undone-there : (o : Option SwitchState) (x : SwitchState) → Stays (switch_undone o (Some x))
undone-there None x = record { switch = x; stands = refl }
undone-there (Some s) x = record { switch = record s { table = undone s.table x.table x.moment }; stands = refl }

-- ---- The whole

module _ {Own : Type 0} (Tells : Type 0) (start : ℕ) (lost : List ℕ) (first old new : Seen Own) (net0 net now_net : NetState) where
  -- how a switch stands again that is lost neither in the transaction nor in the undo
  pub again : Tells → Conforming new → Ready old net → (u : Undoes Tells start old new net now_net (Ok tt)) → (d : ℕ) (s0 : SwitchState) → switch_of d (state first) ≡ Some s0 → is_stuck (parts_of d u.parts) ≡ false
      → (j : JoinedSince (keys_of d (logged_since start net)) s0 (switch_of d (state old))) → switch_of d (state new) ≡ Some (record s0 { table = undone s0.table j.switch.table j.switch.moment })
  again told keeps ready u d s0 is free j =
      let stands = u.restored d j.switch s0.table told keeps (viewed d net.views (state old) j.switch (ready.agrees d) j.stands) free j.stands (ready.waits d)
      (table-serialed first d s0 is).table (table-serialed old d j.switch j.stands) j.since.added in
      stands.switch ∙ ap (λ (x : SwitchState). Some (record x { table = undone s0.table j.switch.table j.switch.moment })) j.since.rest

  -- a switch that is out stays out
  pub out-again : Tells → Ready old net → Undoes Tells start old new net now_net (Ok tt) → (d : ℕ) → switch_of d (state old) ≡ None → switch_of d (state new) ≡ None
  out-again told ready u d out = (u.others d told (unviewed d net.views (state old) (ready.agrees d) out)).0 ∙ out

  -- what stands where the tables are given back and none is lost
  abbrev pub given_back : ℕ → Option SwitchState
  given_back d = switch_undone (shown_switch (shown_by net0) (state first) d) (shown_switch (shown_by net) (state old) d)

  -- where it is out
  back-out : (d : ℕ) → switch_of d (state old) ≡ None → given_back d ≡ None
  back-out d out =
      ap (λ (o : Option SwitchState). switch_undone (shown_switch (shown_by net0) (state first) d) (option_map (corrected_switch (shown_by net d)) o)) out ∙ undone-out (shown_switch (shown_by net0) (state first) d)

  -- where it is joined
  back-there : (d : ℕ) (s0 : SwitchState) → switch_of d (state first) ≡ Some s0 → (j : JoinedSince (keys_of d (logged_since start net)) s0 (switch_of d (state old)))
      → given_back d ≡ Some (corrected_switch (shown_by net0 d) (record s0 { table = undone s0.table j.switch.table j.switch.moment }))
  back-there d s0 is j =
      let f : Entry → Entry = shown_by net0 d in
      let g : Entry → Entry = shown_by net d in
      ap₂ (λ (a b : Option SwitchState). switch_undone (option_map (corrected_switch f) a) (option_map (corrected_switch g) b)) is j.stands
      ∙ ap (λ (t : TableState). Some (record s0 { table = t }))
      (undone-shown f g (goes_along (rows_or_none (rows_at d net0.views))) (goes_along (rows_or_none (rows_at d net.views))) s0.table j.switch.table j.switch.moment)

  -- the views, too
  views-again : Since start lost first old net0 net → (u : Undoes Tells start old new net now_net (Ok tt)) → now_net.views ≡ (lose_all (lost_parts u.parts) (lose_all lost net0)).views
  views-again since u = ap (λ (n : NetState). n.views) u.net_is ∙ lose_all-views (lost_parts u.parts) _ (lose_all lost net0) since.views

  same-again : Since start lost first old net0 net → (u : Undoes Tells start old new net now_net (Ok tt)) → (d : ℕ) → is_among d lost ≡ false → is_among d (lost_parts u.parts) ≡ false → shown_by now_net d ≡ shown_by net0 d
  same-again since u d stays_there stays_here =
      ap (λ (o : Option (List ViewRow)). correction_in (rows_or_none o))
      (ap (rows_at d) (views-again since u) ∙ lose_all-rows (lost_parts u.parts) d (lose_all lost net0) stays_here ∙ lose_all-rows lost d net0 stays_there)

  -- a switch that is not lost in the undo
  shown-again : Tells → Conforming new → Since start lost first old net0 net → Ready old net → (u : Undoes Tells start old new net now_net (Ok tt)) → (d : ℕ) → is_among d (lost_parts u.parts) ≡ false
      → (o : Option SwitchState) → switch_of d (state first) ≡ o → (gone : Bool) → is_among d lost ≡ gone → given_back d ≡ shown_switch (shown_by now_net) (state new) d
  shown-again told keeps since ready u d here None is gone lost_is =
      let out : switch_of d (state old) ≡ None = since.out d is in
      back-out d out ∙ sym (ap (option_map (corrected_switch (shown_by now_net d))) (out-again told ready u d out))
  shown-again told keeps since ready u d here (Some s0) is true lost_is =
      let out : switch_of d (state old) ≡ None = since.lost_out d lost_is in
      back-out d out ∙ sym (ap (option_map (corrected_switch (shown_by now_net d))) (out-again told ready u d out))
  shown-again told keeps since ready u d here (Some s0) is false lost_is =
      let j = since.joined d s0 lost_is is in
      let stands = again told keeps ready u d s0 is (u.none_failed refl d ∙ here) j in
      back-there d s0 is j
      ∙ sym (ap₂ (λ (h : Entry → Entry) (o : Option SwitchState). option_map (corrected_switch h) o) (same-again since u d lost_is here) stands)

  -- a switch given back is the one that was joined before the undo
  back-numbered : Conforming old → Since start lost first old net0 net → (d : ℕ) (s : SwitchState) → given_back d ≡ Some s → (o : Option SwitchState) → switch_of d (state first) ≡ o → (gone : Bool) → is_among d lost ≡ gone → s.declared.dpid ≡ d
  back-numbered keeps since d s here None is gone lost_is = absurd (none-some s (sym (back-out d (since.out d is)) ∙ here))
  back-numbered keeps since d s here (Some s0) is true lost_is = absurd (none-some s (sym (back-out d (since.lost_out d lost_is)) ∙ here))
  back-numbered keeps since d s here (Some s0) is false lost_is =
      let j = since.joined d s0 lost_is is in
      ap (λ (x : SwitchState). x.declared.dpid) (sym (same_Some _ s (sym (back-there d s0 is j) ∙ here)))
      ∙ sym (ap (λ (x : SwitchState). x.declared.dpid) j.since.rest)
      ∙ (switch-in_time old keeps d j.switch j.stands).number

  back-known : Since start lost first old net0 net → (d : ℕ) → (o : Option SwitchState) → switch_of d (state first) ≡ o → (gone : Bool) → is_among d lost ≡ gone → ports_known d (switch_of d (state old)) ≡ ports_known d (given_back d)
  back-known since d None is gone lost_is = let out = since.out d is in ap (ports_known d) out ∙ sym (ap (ports_known d) (back-out d out))
  back-known since d (Some s0) is true lost_is = let out = since.lost_out d lost_is in ap (ports_known d) out ∙ sym (ap (ports_known d) (back-out d out))
  back-known since d (Some s0) is false lost_is =
      let j = since.joined d s0 lost_is is in
      ap (ports_known d) j.stands ∙ ap (λ (x : SwitchState). ports_known d (Some x)) j.since.rest ∙ sym (ap (ports_known d) (back-there d s0 is j))

  back-losable : Conforming old → Since start lost first old net0 net → Ready old net → Losable old.given.declared given_back net.ports
  back-losable keeps since ready = record {
    undeclared = λ d none. back-out d ((all-stand old).undeclared d none);
    numbered = λ d s here. back-numbered keeps since d s here (switch_of d (state first)) refl (is_among d lost) refl;
    known = λ d. ready.known d ∙ back-known since d (switch_of d (state first)) refl (is_among d lost) refl;
  }

  -- a switch that is lost in the undo was joined
  lost-there : Ready old net → (u : Undoes Tells start old new net now_net (Ok tt)) → (d : ℕ) → is_among d (lost_parts u.parts) ≡ true → Stays (given_back d)
  lost-there ready u d among =
      elim (cases_Bool (is_viewed d net.views)) [
        | inl there ↦
            let x = joined-stays (switch_of d (state old)) (ready-joined old net ready d there) in
            subst (λ (o : Option SwitchState). Stays (switch_undone (shown_switch (shown_by net0) (state first) d) (option_map (corrected_switch (shown_by net d)) o))) (sym x.stands)
            (undone-there (shown_switch (shown_by net0) (state first) d) (corrected_switch (shown_by net d) x.switch))
        | inr never ↦
            let none = (u.each d).unknown never in
            absurd (true≢false (sym among ∙ free-among old.counts new.counts d u.parts (u.each d).run (ap is_stuck none)))
      ]

  -- how each switch stands then
  shown-then : Tells → Conforming new → Since start lost first old net0 net → Ready old net → (u : Undoes Tells start old new net now_net (Ok tt)) → (d : ℕ) → out_all (lost_parts u.parts) given_back d ≡ shown_switch (shown_by now_net) (state new) d
  shown-then told keeps since ready u d =
      elim (cases_Bool (is_among d (lost_parts u.parts))) [
        | inl gone ↦
            out_all-gone (lost_parts u.parts) given_back d gone
            ∙ sym (ap (option_map (corrected_switch (shown_by now_net d))) (u.lost_out d told (ready-joined old net ready) gone).0)
        | inr here ↦
            out_all-stays (lost_parts u.parts) given_back d here
            ∙ shown-again told keeps since ready u d here (switch_of d (state first)) refl (is_among d lost) refl
      ]

  -- The switches then are the earlier ones with their tables given back, without those that were lost.
  pub undo-shown : Tells → Conforming new → Since start lost first old net0 net → Ready old net → (u : Undoes Tells start old new net now_net (Ok tt)) → UndoShown old.given.declared (lost_parts u.parts) first old new net0 net now_net
  unfolding undoing shown_places
  undo-shown told keeps since ready u =
      let declared : List Declared = old.given.declared in
      let ds : List ℕ = lost_parts u.parts in
      let before = Conforming-before told u.continues keeps in
      let can = back-losable before since ready in
      let leavers_is = leavers-lost declared ds given_back net.ports can (lost-distinct old.counts new.counts u.parts (λ d. (u.each d).run)) (lost-there ready u) in
      record {
        left = lost_events ds given_back;
        leaves = record {
          gone = ports_lost ds net;
          left_is = ap (λ (n : NetState). n.left) u.net_is ∙ lose_all-left ds _ ∙ ap (λ (ks : List KnownPorts). net.left ++ ks) (ports_lost-same ds _ net refl);
          events_is = events-lost declared ds given_back net can;
          lost_is = u.losses told (ready-joined old net ready) ∙ ap (λ (es : List ℕ). lost_of old ++ es) (sym leavers_is);
        };
        leavers_is = leavers_is;
        undoing_is = ap (λ (ps : List Place). fold lose (ps, []) ds) (undone-all (shown_switch (shown_by net0) (state first)) (shown_switch (shown_by net) (state old)) declared)
            ∙ lose-shown declared before.declared ds given_back net.ports [] can
            ∙ ap (λ (ps : List Place). (ps, lost_events ds given_back)) (places-same (out_all ds given_back) (shown_switch (shown_by now_net) (state new)) (shown-then told keeps since ready u) declared);
      }

  -- and all is ready again
  pub undo-ready : Tells → Conforming new → Since start lost first old net0 net → Ready old net → Undoes Tells start old new net now_net (Ok tt) → Ready new now_net
  undo-ready told keeps since ready u = record {
    waits = λ d. elim (cases_Bool (is_among d (lost_parts u.parts))) [
      | inl gone ↦ (u.lost_out d told (ready-joined old net ready) gone).1
      | inr here ↦ (u.agrees d told keeps (u.none_failed refl d ∙ here) (ready.waits d) (ready.agrees d)).waits
    ];
    agrees = λ d. elim (cases_Bool (is_among d (lost_parts u.parts))) [
      | inl gone ↦
          ap (option_map rows_of_view) (ap (rows_at d) (views-again since u) ∙ lose_all-rows_gone (lost_parts u.parts) d (lose_all lost net0) gone)
          ∙ sym (ap (option_map (λ x. rows_of_table x.table.entries)) (u.lost_out d told (ready-joined old net ready) gone).0)
      | inr here ↦ (u.agrees d told keeps (u.none_failed refl d ∙ here) (ready.waits d) (ready.agrees d)).agrees
    ];
    known = λ d. ap (λ (n : NetState). filter (λ k. k.dpid == d) n.ports) u.net_is ∙ elim (cases_Bool (is_among d (lost_parts u.parts))) [
      | inl gone ↦
          lose_all-known_gone (lost_parts u.parts) d _ gone ∙ sym (ap (ports_known d) (u.lost_out d told (ready-joined old net ready) gone).0)
      | inr here ↦
          lose_all-known (lost_parts u.parts) d _ here
          ∙ ready.known d
          ∙ back-known since d (switch_of d (state first)) refl (is_among d lost) refl
          ∙ ap (ports_known d) (shown-again told keeps since ready u d here (switch_of d (state first)) refl (is_among d lost) refl)
          ∙ known-shown d (shown_by now_net d) (switch_of d (state new))
    ];
  }
