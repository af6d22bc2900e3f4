-- What the engine knows after a moment, or after something happened to a switch: what the reference controller has then.
use Rattle.std.proofs.Common.{◌≡◌, ◌≢◌, ◌==◌, ℕ, ◌^◌, ◌<◌, true, List, [], ◌∷◌, ◌++◌, map, Option, Some, None, refl, sym, ap, ap₂, ◌∙◌, subst, inl, inr}
use Rattle.std.proofs.lemmas.Bool.{cases_eq, eqb-true, eqb-false, cases_Bool}
use Rattle.std.specs.Prelude.{IsTrue}
use Rattle.std.specs.List.{AllByRecursion, flat_map}
use Rattle.std.specs.Option.{option_map}
use Rattle.of_types.specs.declared.journal.Stimulus.{Stimulus}
use Rattle.of_types.specs.declared.journal.Stimulus.TheVariants.{Frame, Advance, Port, Counts, Raw}
use Rattle.of_types.specs.declared.journal.WorldStim.TheVariants.{At, Of}
use Rattle.flow_table.specs.declared.view.ViewRow.{ViewRow}
use Rattle.flow_table.specs.Switch.{Declared, SwitchState}
use Rattle.flow_table.specs.Step.{after_stimulus, sent_by_stimulus}
use Rattle.undo_laws.specs.CorrectedSwitch.{corrected_switch}
use Rattle.app_frames.specs.declared.frame.Event.{Event}
use Rattle.lego_model.specs.Answers.{rows_of_view}
use Rattle.lego_model.specs.Events.{ports_of}
use Rattle.lego_model.specs.Controller.{at_place, stimulated, events_at, sent_events, places_after, events_after}
use Rattle.outside.specs.declared.step.WorldStep.{WorldStep}
use Rattle.outside.specs.declared.step.WorldStep.TheVariants.{From, Moment}
use Rattle.outside.specs.Seen.{is_declared}
use Rattle.outside.specs.State.{Link, State, link_of, switch_in, switch_of, link_stimulated, stimulus_sends, after_stim, upcoming, declared_in}
use Rattle.outside.specs.laws.LinkLaws.{link_of-same, link_of-other}
use Rattle.outside.specs.Conforming.{AreDeclaredFrom, IsStimulus}
use Rattle.outside.specs.laws.LinkKeptLaws.{keeps_stimulated}
use Rattle.net_txn.specs.Views.{rows_at}
use Rattle.net_txn.specs.laws.SaidLaws.{all_weaker}
use Rattle.switch_laws.specs.Shown.{rows_or_none, shown_switch, shown_places, correction_in}
use Rattle.switch_laws.specs.laws.SoundLaws.{stimulus-sound}
use Rattle.batch_laws.specs.Knowledge.{known_by, Knowledge, handled, handled_all}
use Rattle.batch_laws.specs.Calm.{known_ports}
use Rattle.batch_laws.specs.laws.LinkTellLaws.{switch-step, links-step}
use Rattle.batch_laws.specs.LinkTells.{KnownIn, StandsIn, HappensIn, KnownThen, SwitchStep, items_of, seen_events, LinkReady, LinkThen, LinksStep}
use Rattle.lego_model.specs.Places.{table_rows}
use Rattle.batch_laws.specs.laws.ReferenceLaws.{all-of, place-map, flat-one, events-links, links-found, all-at, link_of-map, waiting-all, waiting-one}
use Rattle.batch_laws.specs.Waiting.{place_at, NoneWait}
use Rattle.batch_laws.specs.After.{Facts, SoundIn, After}

-- ---- Before and after

stimulated-in : (x : Stimulus) (o : Option Link) → switch_in (option_map (link_stimulated x) o) ≡ option_map (after_stimulus x) (switch_in o)
unfolding link_stimulated
stimulated-in x None = refl
stimulated-in x (Some l) = refl

sound-stimulated : (x : Stimulus) (d : ℕ) (o : Option SwitchState) → StandsIn d o → SoundIn (option_map (after_stimulus x) o)
sound-stimulated x d None stands = tt
sound-stimulated x d (Some s) stands = stimulus-sound x s stands.sound

pub sound-stands : (d : ℕ) (o : Option SwitchState) → StandsIn d o → SoundIn o
sound-stands d None stands = tt
sound-stands d (Some s) stands = stands.sound

-- each link as the engine knows it
links-known : (P : Link → Type 0) (s : State) → AreDeclaredFrom 1 (declared_in s.links) → ((l : Link) → switch_of l.declared.dpid s ≡ l.switch → P l) → AllByRecursion P s.links
unfolding switch_of
links-known P s ascend each = all_weaker (λ l. link_of l.declared.dpid s.links ≡ Some l) P (λ l is. each l (ap switch_in is)) s.links (links-found 1 s.links ascend)

-- ---- A moment

module _ (t : ℕ) (s : State) (k : Knowledge) (facts : Facts s k) (within : t < 2 ^ 32) where
  abbrev at_moment : Knowledge
  at_moment = record k { moment = t }

  abbrev told_all : Knowledge
  told_all = handled_all (flat_map (items_of (Advance t)) s.links) at_moment

  happens-in : (o : Option SwitchState) → HappensIn (Advance t) o
  happens-in None = tt
  happens-in (Some y) = within

  ready-links : AllByRecursion (LinkReady (Advance t) at_moment) s.links
  ready-links = links-known (LinkReady (Advance t) at_moment) s facts.ascend (λ l is. record {
    known = subst (λ (o : Option SwitchState). KnownIn o (rows_at l.declared.dpid k.views) (known_ports l.declared.dpid k.ports)) is (facts.known l.declared.dpid);
    stands = subst (StandsIn l.declared.dpid) is (facts.stands l.declared.dpid);
    may = happens-in l.switch;
  })

  all-told : LinksStep (Advance t) s.links at_moment told_all
  all-told = links-step (Advance t) 1 s.links at_moment facts.ascend ready-links

  then-at : (d : ℕ) (o : Option Link) → link_of d s.links ≡ o → KnownThen (Advance t) (switch_in o) (rows_at d k.views) (rows_at d told_all.views) (known_ports d told_all.ports)
  unfolding switch_of
  then-at d None is =
      let known : KnownIn None (rows_at d k.views) (known_ports d k.ports) = subst (λ (o : Option Link). KnownIn (switch_in o) (rows_at d k.views) (known_ports d k.ports)) is (facts.known d) in
      record {
        known = record { agrees = ap (option_map rows_of_view) (all-told.others d is) ∙ known.agrees; ports = all-told.others_ports d is ∙ known.ports };
        shown = refl;
      }
  then-at d (Some l) is =
      let found = all-at (LinkThen (Advance t) at_moment told_all) d s.links l all-told.each is in
      subst (λ (n : ℕ). KnownThen (Advance t) l.switch (rows_at n k.views) (rows_at n told_all.views) (known_ports n told_all.ports)) found.1 found.0.here

  switch-then : (d : ℕ) → switch_of d (after_stim (At t) s) ≡ option_map (after_stimulus (Advance t)) (switch_of d s)
  unfolding switch_of after_stim
  switch-then d = ap switch_in (link_of-map (link_stimulated (Advance t)) (keeps_stimulated (Advance t)) d s.links) ∙ stimulated-in (Advance t) (link_of d s.links)

  known-then : (d : ℕ) → KnownThen (Advance t) (switch_of d s) (rows_at d k.views) (rows_at d told_all.views) (known_ports d told_all.ports)
  unfolding switch_of
  known-then d = then-at d (link_of d s.links) refl

  items-then : upcoming (after_stim (At t) s) ≡ Moment t ∷ flat_map (items_of (Advance t)) s.links
  unfolding upcoming after_stim
  items-then = ap₂ (λ (due : List WorldStep) rest. (due ++ Moment t ∷ []) ++ rest) facts.due (waiting-all (Advance t) s.links facts.waits)

  handled-then : handled_all (upcoming (after_stim (At t) s)) k ≡ told_all
  unfolding handled
  handled-then = ap (λ (items : List WorldStep). handled_all items k) items-then

  places-then : shown_places (declared_in s.links) (known_by told_all) (after_stim (At t) s) ≡ places_after (At t) s.moment (shown_places (declared_in s.links) (known_by k) s)
  unfolding shown_places places_after
  places-then =
      sym (place-map (stimulated (Advance t)) (shown_switch (known_by k) s) (shown_switch (known_by told_all) (after_stim (At t) s)) (declared_in s.links)
      (all-of (λ (x : Declared). stimulated (Advance t) (place_at (shown_switch (known_by k) s) x) ≡ place_at (shown_switch (known_by told_all) (after_stim (At t) s)) x)
      (λ x. ap (λ (o : Option SwitchState). record { declared = x; switch = o }) (sym (known-then x.dpid).shown ∙ ap (option_map (corrected_switch (known_by told_all x.dpid))) (sym (switch-then x.dpid)))) (declared_in s.links)))

  events-then : flat_map (seen_events (Advance t) k.views) s.links ≡ events_after (At t) s.moment (shown_places (declared_in s.links) (known_by k) s)
  unfolding shown_places events_after
  events-then =
      sym (events-links (Advance t) (shown_switch (known_by k) s) k.views s.links
      (links-known (λ l. shown_switch (known_by k) s l.declared.dpid ≡ option_map (corrected_switch (known_by k l.declared.dpid)) l.switch) s facts.ascend
      (λ l is. ap (option_map (corrected_switch (known_by k l.declared.dpid))) is)))

  after-told : After (At t) s k told_all
  unfolding after_stim
  after-told = record {
    queue = all-told.queue ∙ ap (λ (es : List Event). k.queue ++ es) events-then;
    places = places-then;
    known = λ d. subst (λ (o : Option SwitchState). KnownIn o (rows_at d told_all.views) (known_ports d told_all.ports)) (sym (switch-then d)) (known-then d).known;
    order = all-told.order 0 facts.order;
    moment = all-told.moment;
    sound = λ d. subst SoundIn (sym (switch-then d)) (sound-stimulated (Advance t) d (switch_of d s) (facts.stands d));
  }

pub after-moment : (t : ℕ) (s : State) (k : Knowledge) → Facts s k → t < 2 ^ 32 → After (At t) s k (handled_all (upcoming (after_stim (At t) s)) k)
after-moment t s k facts within = subst (After (At t) s k) (sym (handled-then t s k facts within)) (after-told t s k facts within)

-- ---- Something that happens to one switch

module _ (d : ℕ) (x : Stimulus) (s : State) (k : Knowledge) (facts : Facts s k) (may : HappensIn x (switch_of d s)) (declared : is_declared d (declared_in s.links) ≡ true) where
  abbrev told_one : Knowledge
  told_one = handled_all (map (From d) (stimulus_sends x (switch_of d s))) k

  one-told : SwitchStep d x (switch_of d s) k told_one
  one-told = switch-step d x (switch_of d s) k (facts.known d) (facts.stands d) may

  one-here : switch_of d (after_stim (Of d x) s) ≡ option_map (after_stimulus x) (switch_of d s)
  unfolding switch_of after_stim
  one-here = ap switch_in (link_of-same d (link_stimulated x) (keeps_stimulated x) s.links) ∙ stimulated-in x (link_of d s.links)

  one-other : (e : ℕ) → e ≢ d → switch_of e (after_stim (Of d x) s) ≡ switch_of e s
  unfolding switch_of after_stim
  one-other e other = ap switch_in (link_of-other d e (link_stimulated x) (keeps_stimulated x) other s.links)

  abbrev shown_then : ℕ → Option SwitchState
  shown_then = shown_switch (known_by told_one) (after_stim (Of d x) s)

  abbrev shown_before : ℕ → Option SwitchState
  shown_before = shown_switch (known_by k) s

  shown-here : shown_then d ≡ option_map (after_stimulus x) (shown_before d)
  shown-here = ap (option_map (corrected_switch (known_by told_one d))) one-here ∙ one-told.here.shown

  shown-other : (e : ℕ) → e ≢ d → shown_then e ≡ shown_before e
  shown-other e other =
      ap₂ (λ (rows : Option (List ViewRow)) o. option_map (corrected_switch (correction_in (rows_or_none rows))) o) (one-told.others e other) (one-other e other)

  one-place : (y : Declared) → at_place d (stimulated x) (place_at shown_before y) ≡ place_at shown_then y
  one-place y =
      elim (cases_Bool (y.dpid == d)) [
        | inl here ↦
            let e : y.dpid ≡ d = eqb-true y.dpid d here in
            rw here
            (ap (λ (o : Option SwitchState). record { declared = y; switch = o })
            (ap (λ (n : ℕ). option_map (after_stimulus x) (shown_before n)) e ∙ sym shown-here ∙ ap shown_then (sym e)))
        | inr other ↦ rw other (ap (λ (o : Option SwitchState). record { declared = y; switch = o }) (sym (shown-other y.dpid (eqb-false y.dpid d other))))
      ]

  one-places : shown_places (declared_in s.links) (known_by told_one) (after_stim (Of d x) s) ≡ places_after (Of d x) s.moment (shown_places (declared_in s.links) (known_by k) s)
  unfolding shown_places places_after
  one-places =
      sym (place-map (at_place d (stimulated x)) shown_before shown_then (declared_in s.links)
      (all-of (λ (y : Declared). at_place d (stimulated x) (place_at shown_before y) ≡ place_at shown_then y) one-place (declared_in s.links)))

  one-events : sent_events x d (shown_before d) ≡ events_after (Of d x) s.moment (shown_places (declared_in s.links) (known_by k) s)
  unfolding shown_places events_after
  one-events =
      sym (flat-one d (events_at x) shown_before (sent_events x d (shown_before d)) 1 (declared_in s.links) facts.ascend declared
      (all-of (λ (y : Declared). y.dpid ≡ d → events_at x (place_at shown_before y) ≡ sent_events x d (shown_before d)) (λ y same. ap (λ (n : ℕ). sent_events x n (shown_before n)) same) (declared_in s.links)))

  one-known : (e : ℕ) → KnownIn (switch_of e (after_stim (Of d x) s)) (rows_at e told_one.views) (known_ports e told_one.ports)
  one-known e =
      elim (cases_eq e d) [
        | inl same ↦
            subst (λ (n : ℕ). KnownIn (switch_of n (after_stim (Of d x) s)) (rows_at n told_one.views) (known_ports n told_one.ports)) (sym same)
            (subst (λ (o : Option SwitchState). KnownIn o (rows_at d told_one.views) (known_ports d told_one.ports)) (sym one-here) one-told.here.known)
        | inr other ↦
            let before = facts.known e in
            record {
              agrees = ap (option_map rows_of_view) (one-told.others e other) ∙ before.agrees ∙ ap (option_map table_rows) (sym (one-other e other));
              ports = one-told.others_ports e other ∙ before.ports ∙ ap (option_map ports_of) (sym (one-other e other));
            }
      ]

  one-sound : (e : ℕ) → SoundIn (switch_of e (after_stim (Of d x) s))
  one-sound e =
      elim (cases_eq e d) [
        | inl same ↦ subst (λ (n : ℕ). SoundIn (switch_of n (after_stim (Of d x) s))) (sym same) (subst SoundIn (sym one-here) (sound-stimulated x d (switch_of d s) (facts.stands d)))
        | inr other ↦ subst SoundIn (sym (one-other e other)) (sound-stands e (switch_of e s) (facts.stands e))
      ]

  after-one : After (Of d x) s k told_one
  unfolding after_stim
  after-one = record {
    queue = one-told.queue ∙ ap (λ (es : List Event). k.queue ++ es) one-events;
    places = one-places;
    known = one-known;
    order = one-told.order 0 facts.order;
    moment = one-told.moment ∙ facts.moment;
    sound = one-sound;
  }

pub items-of-one : (d : ℕ) (x : Stimulus) (s : State) → NoneWait s.links → s.due ≡ [] → upcoming (after_stim (Of d x) s) ≡ map (From d) (stimulus_sends x (switch_of d s))
unfolding upcoming after_stim switch_of
items-of-one d x s waits due = ap₂ (λ (first : List WorldStep) rest. (first ++ []) ++ rest) due (waiting-one d x s.links waits)

-- it may happen, as it is a stimulus
happens-by : (x : Stimulus) (d : ℕ) (o : Option SwitchState) → IsStimulus x → HappensIn x o
unfolding IsStimulus sent_by_stimulus
happens-by x d None is = tt
happens-by (Frame port bytes) d (Some s) is = tt
happens-by (Advance t) d (Some s) is = absurd is
happens-by (Port port change) d (Some s) is = is
happens-by (Counts priority packets bytes) d (Some s) is = tt
happens-by (Raw bytes) d (Some s) is = is.2

pub after-happened : (d : ℕ) (x : Stimulus) (s : State) (k : Knowledge) → Facts s k → IsTrue (is_declared d (declared_in s.links)) → IsStimulus x
    → After (Of d x) s k (handled_all (upcoming (after_stim (Of d x) s)) k)
after-happened d x s k facts declared is =
    let items = items-of-one d x s facts.waits facts.due in
    let may = happens-by x d (switch_of d s) is in
    subst (λ (list : List WorldStep). After (Of d x) s k (handled_all list k)) (sym items) (after-one d x s k facts may declared)
