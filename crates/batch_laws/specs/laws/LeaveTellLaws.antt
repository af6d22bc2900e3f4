-- What the engine knows after a switch left: what the reference controller has then.
use Rattle.std.proofs.Common.{◌≡◌, ◌≢◌, ◌==◌, ℕ, true, false, not, List, [], ◌∷◌, ◌++◌, filter, Option, Some, None, if◌then◌else◌, refl, sym, ap, ap₂, ◌∙◌, subst, inl, inr}
use Rattle.std.proofs.lemmas.Bool.{cases_eq, eqb-true, eqb-false, ne_eqb, cases_Bool}
use Rattle.std.proofs.lemmas.List.{append-nil}
use Rattle.std.specs.Prelude.{IsTrue, is_some}
use Rattle.std.specs.Option.{option_map}
use Rattle.std.proofs.lemmas.Option.{same_Some}
use Rattle.of_types.specs.declared.port_desc.PortDesc.{PortDesc}
use Rattle.of_types.specs.declared.journal.WorldStim.TheVariants.{Leave}
use Rattle.of_wire.specs.Spelling.{ports_bytes}
use Rattle.flow_table.specs.declared.view.ViewRow.{ViewRow}
use Rattle.flow_table.specs.Switch.{Declared, SwitchState}
use Rattle.undo_laws.specs.CorrectedSwitch.{corrected_switch}
use Rattle.app_frames.specs.declared.frame.Event.{Event}
use Rattle.app_frames.specs.declared.frame.EventKind.TheVariants as kinds
use Rattle.lego_model.specs.Answers.{rows_of_view}
use Rattle.lego_model.specs.Places.{Place, table_rows}
use Rattle.lego_model.specs.Events.{ports_of, leave_event}
use Rattle.lego_model.specs.Controller.{left_of, out, at_place, places_after, events_after}
use Rattle.outside.specs.declared.step.WorldStep.{WorldStep}
use Rattle.outside.specs.declared.step.WorldStep.TheVariants.{Left}
use Rattle.outside.specs.Seen.{is_declared}
use Rattle.outside.specs.State.{Link, State, link_of, switch_in, switch_of, with_link, link_left, after_stim, upcoming, declared_in}
use Rattle.outside.specs.laws.LinkLaws.{link_of-same, link_of-other}
use Rattle.net_txn.specs.laws.OrderLaws.{left-ascends}
use Rattle.net_txn.specs.declared.ports.KnownPorts.{KnownPorts}
use Rattle.net_txn.specs.Views.{rows_at}
use Rattle.net_txn.specs.Leaving.{ports_at, ports_text}
use Rattle.switch_laws.specs.Shown.{rows_or_none, shown_switch, shown_places, correction_in}
use Rattle.switch_laws.specs.laws.LossLaws.{rows-gone, rows-stay, text-bytes}
use Rattle.batch_laws.specs.Knowledge.{known_by, Knowledge, is_known, handled, handled_all, left_by}
use Rattle.batch_laws.specs.Calm.{known_ports}
use Rattle.batch_laws.specs.LinkTells.{KnownIn, StandsWell, StandsIn}
use Rattle.batch_laws.specs.laws.ReferenceLaws.{all-of, place-map, flat-one, none-waiting, waiting-silent}
use Rattle.batch_laws.specs.Waiting.{place_at}
use Rattle.batch_laws.specs.laws.AfterLaws.{sound-stands}
use Rattle.batch_laws.specs.After.{Facts, SoundIn, After}
use Rattle.batch_laws.specs.Tells.{OnlyOne}

-- ---- Others stay

module _ (d : ℕ) (s now : State) (k after : Knowledge) (facts : Facts s k) (only : OnlyOne d s now k after) where
  other-shown : (e : ℕ) → e ≢ d → shown_switch (known_by after) now e ≡ shown_switch (known_by k) s e
  other-shown e other =
      ap₂ (λ (rows : Option (List ViewRow)) o. option_map (corrected_switch (correction_in (rows_or_none rows))) o) (only.rows e other) (only.switches e other)

  pub all-known : KnownIn (switch_of d now) (rows_at d after.views) (known_ports d after.ports) → (e : ℕ) → KnownIn (switch_of e now) (rows_at e after.views) (known_ports e after.ports)
  all-known here e =
      elim (cases_eq e d) [
        | inl same ↦ subst (λ (n : ℕ). KnownIn (switch_of n now) (rows_at n after.views) (known_ports n after.ports)) (sym same) here
        | inr other ↦
            let before = facts.known e in
            record {
              agrees = ap (option_map rows_of_view) (only.rows e other) ∙ before.agrees ∙ ap (option_map table_rows) (sym (only.switches e other));
              ports = only.described e other ∙ before.ports ∙ ap (option_map ports_of) (sym (only.switches e other));
            }
      ]

  pub all-sound : SoundIn (switch_of d now) → (e : ℕ) → SoundIn (switch_of e now)
  all-sound here e =
      elim (cases_eq e d) [
        | inl same ↦ subst (λ (n : ℕ). SoundIn (switch_of n now)) (sym same) here
        | inr other ↦ subst SoundIn (sym (only.switches e other)) (sound-stands e (switch_of e s) (facts.stands e))
      ]

  -- a change at the place of the one
  pub place-of-one : (change : Place → Place) (y : Declared) → (y.dpid ≡ d → change (place_at (shown_switch (known_by k) s) y) ≡ place_at (shown_switch (known_by after) now) y)
      → at_place d change (place_at (shown_switch (known_by k) s) y) ≡ place_at (shown_switch (known_by after) now) y
  place-of-one change y here =
      elim (cases_Bool (y.dpid == d)) [
        | inl this ↦ rw this (here (eqb-true y.dpid d this))
        | inr other ↦ rw other (ap (λ (o : Option SwitchState). record { declared = y; switch = o }) (sym (other-shown y.dpid (eqb-false y.dpid d other))))
      ]

-- ---- A switch leaves

keeps-left : (l : Link) → (link_left l).declared ≡ l.declared
unfolding link_left
keeps-left l = refl

pub left-silent : (l : Link) → l.waits ≡ [] → (link_left l).waits ≡ []
unfolding link_left
left-silent l h = refl

left-in : (o : Option Link) → switch_in (option_map link_left o) ≡ None
unfolding link_left
left-in None = refl
left-in (Some l) = refl

left-here : (d : ℕ) (s : State) → switch_of d (after_stim (Leave d) s) ≡ None
unfolding switch_of after_stim
left-here d s = ap switch_in (link_of-same d link_left keeps-left s.links) ∙ left-in (link_of d s.links)

left-other : (d : ℕ) (s : State) (e : ℕ) → e ≢ d → switch_of e (after_stim (Leave d) s) ≡ switch_of e s
unfolding switch_of after_stim
left-other d s e other = ap switch_in (link_of-other d e link_left keeps-left other s.links)

left-items : (d : ℕ) (s : State) (k : Knowledge) → Facts s k → upcoming (after_stim (Leave d) s) ≡ (if is_some (switch_of d s) then Left d ∷ [] else [])
unfolding upcoming after_stim
left-items d s k facts =
    ap₂ (λ (due : List WorldStep) rest. (due ++ (if is_some (switch_of d s) then Left d ∷ [] else [])) ++ rest) facts.due (none-waiting (with_link d link_left s.links) (waiting-silent d link_left left-silent s.links facts.waits))
    ∙ append-nil (if is_some (switch_of d s) then Left d ∷ [] else [])

gone-here : (d : ℕ) (ks : List KnownPorts) → known_ports d (filter (λ p. not (p.dpid == d)) ks) ≡ None
gone-here d [] = refl
gone-here d (k ∷ ks) =
    elim (cases_Bool (k.dpid == d)) [
      | inl here ↦ rw here (gone-here d ks)
      | inr other ↦ rw other (rw other (gone-here d ks))
    ]

gone-other : (d e : ℕ) (ks : List KnownPorts) → e ≢ d → known_ports e (filter (λ p. not (p.dpid == d)) ks) ≡ known_ports e ks
gone-other d e [] other = refl
gone-other d e (k ∷ ks) other =
    elim (cases_Bool (k.dpid == d)) [
      | inl here ↦
          let apart : (k.dpid == e) ≡ false = ne_eqb k.dpid e (λ same. other (sym same ∙ eqb-true k.dpid d here)) in
          rw (here, apart) (gone-other d e ks other)
      | inr there ↦ rw there (ap (λ (o : Option (List PortDesc)). if k.dpid == e then Some k.ports else o) (gone-other d e ks other))
    ]

ports-found : (d : ℕ) (ks : List KnownPorts) (ps : List PortDesc) → known_ports d ks ≡ Some ps → ports_at d ks ≡ ps
ports-found d [] ps is = absurd cc
ports-found d (k ∷ ks) ps is =
    elim (cases_Bool (k.dpid == d)) [
      | inl here ↦ rw here (same_Some k.ports ps (rw here at is))
      | inr other ↦ rw other (ports-found d ks ps (rw other at is))
    ]

-- the events of a switch that leaves
leave-events : (d : ℕ) (s : State) (k : Knowledge) → Facts s k → is_declared d (declared_in s.links) ≡ true → events_after (Leave d) s.moment (shown_places (declared_in s.links) (known_by k) s) ≡ left_of (shown_switch (known_by k) s d)
unfolding shown_places events_after
leave-events d s k facts declared =
    flat-one d (λ p. left_of p.switch) (shown_switch (known_by k) s) (left_of (shown_switch (known_by k) s d)) 1 (declared_in s.links) facts.ascend declared
    (all-of (λ (y : Declared). y.dpid ≡ d → left_of (shown_switch (known_by k) s y.dpid) ≡ left_of (shown_switch (known_by k) s d)) (λ y same. ap (λ (n : ℕ). left_of (shown_switch (known_by k) s n)) same) (declared_in s.links))

leave-places : (d : ℕ) (s : State) (k after : Knowledge) → Facts s k → OnlyOne d s (after_stim (Leave d) s) k after → shown_places (declared_in s.links) (known_by after) (after_stim (Leave d) s) ≡ places_after (Leave d) s.moment (shown_places (declared_in s.links) (known_by k) s)
unfolding shown_places places_after
leave-places d s k after facts only =
    let now : State = after_stim (Leave d) s in
    sym (place-map (at_place d out) (shown_switch (known_by k) s) (shown_switch (known_by after) now) (declared_in s.links)
    (all-of (λ (y : Declared). at_place d out (place_at (shown_switch (known_by k) s) y) ≡ place_at (shown_switch (known_by after) now) y)
    (λ y. place-of-one d s now k after facts only out y (λ same.
    ap (λ (o : Option SwitchState). record { declared = y; switch = o })
    (ap (option_map (corrected_switch (known_by after y.dpid))) (sym (ap (λ (n : ℕ). switch_of n now) same ∙ left-here d s))))) (declared_in s.links)))

leave-by : (d : ℕ) (s : State) (k : Knowledge) → Facts s k → is_declared d (declared_in s.links) ≡ true → (o : Option SwitchState) → switch_of d s ≡ o → After (Leave d) s k (handled_all (if is_some o then Left d ∷ [] else []) k)
unfolding after_stim handled
leave-by d s k facts declared None is =
    let now : State = after_stim (Leave d) s in
    let only : OnlyOne d s now k k = record { switches = left-other d s; rows = λ e other. refl; described = λ e other. refl } in
    let known : KnownIn None (rows_at d k.views) (known_ports d k.ports) = subst (λ (o : Option SwitchState). KnownIn o (rows_at d k.views) (known_ports d k.ports)) is (facts.known d) in
    record {
      queue =
          sym (append-nil k.queue)
          ∙ ap (λ (es : List Event). k.queue ++ es) (sym (leave-events d s k facts declared ∙ ap (λ (o : Option SwitchState). left_of (option_map (corrected_switch (known_by k d)) o)) is));
      places = leave-places d s k k facts only;
      known = all-known d s now k k facts only (subst (λ (o : Option SwitchState). KnownIn o (rows_at d k.views) (known_ports d k.ports)) (sym (left-here d s)) known);
      order = facts.order;
      moment = facts.moment;
      sound = all-sound d s now k k facts only (subst SoundIn (sym (left-here d s)) tt);
    }
leave-by d s k facts declared (Some y) is =
    let now : State = after_stim (Leave d) s in
    let after : Knowledge = left_by d k in
    let known : KnownIn (Some y) (rows_at d k.views) (known_ports d k.ports) = subst (λ (o : Option SwitchState). KnownIn o (rows_at d k.views) (known_ports d k.ports)) is (facts.known d) in
    let stands : StandsWell d y = subst (StandsIn d) is (facts.stands d) in
    let only : OnlyOne d s now k after = record {
      switches = left-other d s;
      rows = λ e other. rows-stay d e other k.views;
      described = λ e other. gone-other d e k.ports other;
    } in
    let body : ports_text (ports_at d k.ports) ≡ ports_bytes (ports_of y) = ap ports_text (ports-found d k.ports (ports_of y) known.ports) ∙ text-bytes (ports_of y) in
    let event : leave_event (corrected_switch (known_by k d) y) ≡ record { kind = kinds.Leave; dpid = d; body = ports_text (ports_at d k.ports) } =
    ap₂ (λ (n : ℕ) (bytes : List ℕ). record { kind = kinds.Leave; dpid = n; body = bytes }) stands.number (sym body) in
    subst (After (Leave d) s k) (sym (left-handled d k (known-some (rows_at d k.views) known.agrees))) (record {
      queue =
          ap (λ (e : Event). k.queue ++ e ∷ []) (sym event)
          ∙ ap (λ (es : List Event). k.queue ++ es) (sym (leave-events d s k facts declared ∙ ap (λ (o : Option SwitchState). left_of (option_map (corrected_switch (known_by k d)) o)) is));
      places = leave-places d s k after facts only;
      known = all-known d s now k after facts only (subst (λ (o : Option SwitchState). KnownIn o (rows_at d after.views) (known_ports d after.ports)) (sym (left-here d s)) (record {
        agrees = ap (option_map rows_of_view) (rows-gone d k.views);
        ports = gone-here d k.ports;
      }));
      order = left-ascends d 0 k.views facts.order;
      moment = facts.moment;
      sound = all-sound d s now k after facts only (subst SoundIn (sym (left-here d s)) tt);
    })
  where
    known-some : (rows : Option (List ViewRow)) → option_map rows_of_view rows ≡ Some (table_rows y) → is_some rows ≡ true
    known-some None h = absurd cc
    known-some (Some rows) h = refl

    left-handled : (d : ℕ) (k : Knowledge) → is_known d k ≡ true → handled (Left d) k ≡ left_by d k
    left-handled d k known = rw known refl

pub after-leave : (d : ℕ) (s : State) (k : Knowledge) → Facts s k → IsTrue (is_declared d (declared_in s.links)) → After (Leave d) s k (handled_all (upcoming (after_stim (Leave d) s)) k)
after-leave d s k facts declared =
    subst (λ (list : List WorldStep). After (Leave d) s k (handled_all list k)) (sym (left-items d s k facts)) (leave-by d s k facts declared (switch_of d s) refl)
