-- What the engine knows after a switch joined: what the reference controller has then.
use Rattle.std.proofs.Common.{◌≡◌, ◌≢◌, ◌==◌, ℕ, ◌+◌, ◌^◌, ◌<◌, true, not, List, [], ◌∷◌, ◌++◌, map, Option, Some, None, Ok, if◌then◌else◌, refl, sym, ap, ap₂, ◌∙◌, subst, inl, inr, arith}
use Rattle.std.proofs.lemmas.Bool.{eq-eqb, ne_eqb, cases_Bool}
use Rattle.std.proofs.lemmas.List.{append-nil, length-map}
use Rattle.std.specs.Prelude.{IsTrue, is_some}
use Rattle.std.specs.List.{AllByRecursion}
use Rattle.std.specs.Option.{option_map}
use Rattle.of_types.specs.Layout.{AreFields}
use Rattle.of_types.specs.declared.port_desc.PortDesc.{PortDesc}
use Rattle.of_types.specs.declared.journal.WorldStim.TheVariants.{Join}
use Rattle.of_wire.specs.declared.message.Message.TheVariants.{FeaturesReply}
use Rattle.of_wire.specs.Spelling.{port_fields, message_size}
use Rattle.of_wire.specs.Grammar.{IsMessage, enveloped}
use Rattle.of_wire.specs.Reading.{reading_of}
use Rattle.of_wire.specs.laws.ReadingLaws.{reading_of-message_bytes}
use Rattle.flow_table.specs.Switch.{Declared, PortState, SwitchState, joined_at, port_desc, features_of, features_reply}
use Rattle.undo_laws.specs.CorrectedSwitch.{corrected_switch}
use Rattle.app_frames.specs.declared.frame.Event.{Event}
use Rattle.app_frames.specs.declared.frame.EventKind.TheVariants as kinds
use Rattle.lego_model.specs.Answers.{rows_of_view}
use Rattle.lego_model.specs.Places.{Place}
use Rattle.lego_model.specs.Events.{join_event}
use Rattle.lego_model.specs.Controller.{or_joined, joined, at_place, events_at_join, places_after, events_after}
use Rattle.outside.specs.declared.step.WorldStep.{WorldStep}
use Rattle.outside.specs.declared.step.WorldStep.TheVariants.{Joined}
use Rattle.outside.specs.Seen.{is_declared}
use Rattle.outside.specs.State.{Link, State, link_of, switch_in, switch_of, with_link, switch_joined, link_joined, join_due, after_stim, upcoming, declared_in}
use Rattle.outside.specs.laws.LinkLaws.{link_of-same, link_of-other}
use Rattle.outside.specs.Conforming.{MayDeclare}
use Rattle.outside.specs.laws.LinkKeptLaws.{keeps_joined}
use Rattle.net_txn.specs.declared.ports.KnownPorts.{KnownPorts}
use Rattle.net_txn.specs.Views.{rows_at}
use Rattle.net_txn.specs.laws.JoiningLaws.{rows_at-with_view, rows_at-with_view-other}
use Rattle.net_txn.specs.laws.OrderLaws.{with_view-ascends}
use Rattle.net_txn.specs.laws.SaidLaws.{all_weaker}
use Rattle.switch_laws.specs.Shown.{shown_switch, places, shown_places}
use Rattle.batch_laws.specs.Knowledge.{known_by, Knowledge, handled, handled_all, joined_by}
use Rattle.batch_laws.specs.Calm.{known_ports}
use Rattle.batch_laws.specs.laws.HistoryLaws.{joined-lasts}
use Rattle.batch_laws.specs.Lasting.{AscendPorts, Lasts, LinkLasts}
use Rattle.batch_laws.specs.laws.PortTellLaws.{desc-fits}
use Rattle.batch_laws.specs.LinkTells.{KnownIn}
use Rattle.batch_laws.specs.laws.ReferenceLaws.{place-map, flat-one, flat-alike, declared-found, has-link, all-at, none-waiting, waiting-silent}
use Rattle.batch_laws.specs.Waiting.{place_at, events_of_one}
use Rattle.batch_laws.specs.laws.AfterLaws.{sound-stands}
use Rattle.batch_laws.specs.After.{Facts, SoundIn, After}
use Rattle.batch_laws.specs.laws.LeaveTellLaws.{all-known, all-sound, place-of-one}
use Rattle.batch_laws.specs.Tells.{OnlyOne}
use Rattle.net_txn.specs.laws.WaitMoveLaws.{some_switch}
use Rattle.switch_laws.specs.laws.ShownUndoLaws.{no-rows}

-- ---- Its FEATURES_REPLY can be read

ports-fit : (d least : ℕ) (ps : List PortState) → AscendPorts least ps → AllByRecursion (λ port. AreFields (port_fields port)) (map (port_desc d) ps)
ports-fit d least [] h = tt
ports-fit d least (p ∷ ps) h = (desc-fits d p h.1 h.2, ports-fit d (p.number + 1) ps h.3)

features-message : (s : SwitchState) → s.declared.dpid < 2 ^ 64 → Lasts s.declared s → IsMessage (FeaturesReply (features_of s))
unfolding message_size
features-message s small lasts = record {
  fields = (small, (omega arith, (omega arith, (omega arith, (omega arith, tt)))));
  tail = ports-fit s.declared.dpid 1 s.ports lasts.ports;
  size = omega (arith, lasts.few, length-map s.ports (port_desc s.declared.dpid));
}

features-read : (s : SwitchState) → s.declared.dpid < 2 ^ 64 → Lasts s.declared s → reading_of (features_reply 0 s) ≡ Ok (enveloped 0 (FeaturesReply (features_of s)))
features-read s small lasts = reading_of-message_bytes 0 (FeaturesReply (features_of s)) (omega arith) (features-message s small lasts)

-- ---- The switches then

pub joined-silent : (moment : ℕ) (l : Link) → l.waits ≡ [] → (link_joined moment l).waits ≡ []
unfolding link_joined
joined-silent moment l h = h

joined-in : (moment : ℕ) (l : Link) → switch_in (option_map (link_joined moment) (Some l)) ≡ switch_joined moment l.declared l.switch
unfolding link_joined
joined-in moment l = refl

module _ (d : ℕ) (s : State) (l : Link) (found : link_of d s.links ≡ Some l) where
  abbrev joined_state : State
  joined_state = after_stim (Join d) s

  join-here : switch_of d joined_state ≡ switch_joined s.moment l.declared l.switch
  unfolding switch_of after_stim
  join-here = ap switch_in (link_of-same d (link_joined s.moment) (keeps_joined s.moment) s.links) ∙ ap (λ (o : Option Link). switch_in (option_map (link_joined s.moment) o)) found ∙ joined-in s.moment l

  switch-before : switch_of d s ≡ l.switch
  unfolding switch_of
  switch-before = ap switch_in found

  join-other : (e : ℕ) → e ≢ d → switch_of e joined_state ≡ switch_of e s
  unfolding switch_of after_stim
  join-other e other = ap switch_in (link_of-other d e (link_joined s.moment) (keeps_joined s.moment) other s.links)

  join-items : (k : Knowledge) → Facts s k → upcoming joined_state ≡ join_due d s.moment (Some l)
  unfolding upcoming after_stim
  join-items k facts =
      ap₂ (λ (due : List WorldStep) rest. (due ++ join_due d s.moment (link_of d s.links)) ++ rest) facts.due
      (none-waiting (with_link d (link_joined s.moment) s.links) (waiting-silent d (link_joined s.moment) (joined-silent s.moment) s.links facts.waits))
      ∙ append-nil (join_due d s.moment (link_of d s.links))
      ∙ ap (join_due d s.moment) found

-- the events of a switch that joins
abbrev joins_at : ℕ → Place → List Event
joins_at moment p = if not (is_some p.switch) then join_event (joined_at moment p.declared) ∷ [] else []

join-event-at : (d moment : ℕ) (p : Place) → events_at_join d moment p ≡ events_of_one d (joins_at moment) p
join-event-at d moment p =
    elim (cases_Bool (p.declared.dpid == d)) [
      | inl here ↦ rw here refl
      | inr other ↦ rw other refl
    ]

join-events : (d : ℕ) (s : State) (k : Knowledge) (l : Link) → Facts s k → is_declared d (declared_in s.links) ≡ true → link_of d s.links ≡ Some l
    → events_after (Join d) s.moment (shown_places (declared_in s.links) (known_by k) s) ≡ joins_at s.moment (record { declared = l.declared; switch = shown_switch (known_by k) s d })
unfolding shown_places events_after
join-events d s k l facts declared found =
    let g : ℕ → Option SwitchState = shown_switch (known_by k) s in
    flat-alike (events_at_join d s.moment) (events_of_one d (joins_at s.moment)) (join-event-at d s.moment) (places g (declared_in s.links))
    ∙ flat-one d (joins_at s.moment) g (joins_at s.moment (record { declared = l.declared; switch = g d })) 1 (declared_in s.links) facts.ascend declared
    (all_weaker (λ (y : Declared). y.dpid ≡ d → y ≡ l.declared) (λ y. y.dpid ≡ d → joins_at s.moment (place_at g y) ≡ joins_at s.moment (record { declared = l.declared; switch = g d }))
    (λ y is same. ap₂ (λ (x : Declared) (n : ℕ). joins_at s.moment (record { declared = x; switch = g n })) (is same) same) (declared_in s.links) (declared-found d 1 s.links l facts.ascend found))

join-places : (d : ℕ) (s : State) (k after : Knowledge) (l : Link) → Facts s k → link_of d s.links ≡ Some l → OnlyOne d s (after_stim (Join d) s) k after
    → shown_switch (known_by after) (after_stim (Join d) s) d ≡ Some (or_joined s.moment l.declared (shown_switch (known_by k) s d))
    → shown_places (declared_in s.links) (known_by after) (after_stim (Join d) s) ≡ places_after (Join d) s.moment (shown_places (declared_in s.links) (known_by k) s)
unfolding shown_places places_after
join-places d s k after l facts found only here =
    let now : State = after_stim (Join d) s in
    let g : ℕ → Option SwitchState = shown_switch (known_by k) s in
    sym (place-map (at_place d (joined s.moment)) g (shown_switch (known_by after) now) (declared_in s.links)
    (all_weaker (λ (y : Declared). y.dpid ≡ d → y ≡ l.declared) (λ y. at_place d (joined s.moment) (place_at g y) ≡ place_at (shown_switch (known_by after) now) y)
    (λ y is. place-of-one d s now k after facts only (joined s.moment) y (λ same.
    ap (λ (o : Option SwitchState). record { declared = y; switch = o })
    (ap₂ (λ (x : Declared) (n : ℕ). some_switch (or_joined s.moment x (g n))) (is same) same ∙ sym here ∙ ap (shown_switch (known_by after) now) (sym same)))) (declared_in s.links)
    (declared-found d 1 s.links l facts.ascend found)))

-- ---- What the engine knows then

added-here : (d : ℕ) (ps : List PortDesc) (ks : List KnownPorts) → known_ports d ks ≡ None → known_ports d (ks ++ record { dpid = d; ports = ps } ∷ []) ≡ Some ps
added-here d ps [] none = rw (eq-eqb d d refl) refl
added-here d ps (k ∷ ks) none =
    elim (cases_Bool (k.dpid == d)) [
      | inl here ↦ absurd (some_is_none k.ports (rw here at none))
      | inr other ↦ rw other (added-here d ps ks (rw other at none))
    ]
  where
    some_is_none : (xs : List PortDesc) → Some xs ≡ None → ⊥
    some_is_none xs e = cc

added-other : (d e : ℕ) (ps : List PortDesc) (ks : List KnownPorts) → e ≢ d → known_ports e (ks ++ record { dpid = d; ports = ps } ∷ []) ≡ known_ports e ks
added-other d e ps [] other = rw (ne_eqb d e (λ same. other (sym same))) refl
added-other d e ps (k ∷ ks) other = ap (λ (o : Option (List PortDesc)). if k.dpid == e then Some k.ports else o) (added-other d e ps ks other)

joined-handled : (d : ℕ) (k : Knowledge) (j : SwitchState) → rows_at d k.views ≡ None → reading_of (features_reply 0 j) ≡ Ok (enveloped 0 (FeaturesReply (features_of j))) → handled (Joined d (features_reply 0 j)) k ≡ joined_by d (FeaturesReply (features_of j)) k
unfolding handled
joined-handled d k j none read = rw (none, read) refl

-- it was joined, and stays so
stays-joined : (d : ℕ) (s : State) (k : Knowledge) (l : Link) (y : SwitchState) → Facts s k → is_declared d (declared_in s.links) ≡ true → link_of d s.links ≡ Some l → l.switch ≡ Some y → After (Join d) s k k
unfolding after_stim
stays-joined d s k l y facts declared found is =
    let now : State = after_stim (Join d) s in
    let before : switch_of d s ≡ Some y = switch-before d s l found ∙ is in
    let here : switch_of d now ≡ Some y = join-here d s l found ∙ ap (switch_joined s.moment l.declared) is in
    let only : OnlyOne d s now k k = record { switches = join-other d s l found; rows = λ e other. refl; described = λ e other. refl } in
    let shown : shown_switch (known_by k) s d ≡ Some (corrected_switch (known_by k d) y) = ap (option_map (corrected_switch (known_by k d))) before in
    record {
      queue =
          sym (append-nil k.queue)
          ∙ ap (λ (es : List Event). k.queue ++ es) (sym (join-events d s k l facts declared found ∙ ap (λ (o : Option SwitchState). joins_at s.moment (record { declared = l.declared; switch = o })) shown));
      places = join-places d s k k l facts found only (ap (option_map (corrected_switch (known_by k d))) here ∙ ap (λ (o : Option SwitchState). some_switch (or_joined s.moment l.declared o)) (sym shown));
      known = all-known d s now k k facts only (subst (λ (o : Option SwitchState). KnownIn o (rows_at d k.views) (known_ports d k.ports)) (before ∙ sym here) (facts.known d));
      order = facts.order;
      moment = facts.moment;
      sound = all-sound d s now k k facts only (subst SoundIn (before ∙ sym here) (sound-stands d (switch_of d s) (facts.stands d)));
    }

-- it joins
comes : (d : ℕ) (s : State) (k : Knowledge) (l : Link) → Facts s k → is_declared d (declared_in s.links) ≡ true → link_of d s.links ≡ Some l → l.declared.dpid ≡ d → MayDeclare l.declared → l.switch ≡ None
    → After (Join d) s k (handled (Joined d (features_reply 0 (joined_at s.moment l.declared))) k)
unfolding after_stim
comes d s k l facts declared found number may is =
    let now : State = after_stim (Join d) s in
    let j : SwitchState = joined_at s.moment l.declared in
    let after : Knowledge = joined_by d (FeaturesReply (features_of j)) k in
    let before : switch_of d s ≡ None = switch-before d s l found ∙ is in
    let known : KnownIn None (rows_at d k.views) (known_ports d k.ports) = subst (λ (o : Option SwitchState). KnownIn o (rows_at d k.views) (known_ports d k.ports)) before (facts.known d) in
    let none : rows_at d k.views ≡ None = no-rows (rows_at d k.views) known.agrees in
    let here : switch_of d now ≡ Some j = join-here d s l found ∙ ap (switch_joined s.moment l.declared) is in
    let only : OnlyOne d s now k after = record {
      switches = join-other d s l found;
      rows = λ e other. rows_at-with_view-other d e k.views other;
      described = λ e other. added-other d e (features_of j).ports k.ports other;
    } in
    let shown : shown_switch (known_by k) s d ≡ None = ap (option_map (corrected_switch (known_by k d))) before in
    let event : join_event j ≡ record { kind = kinds.Join; dpid = d; body = features_reply 0 j } = ap (λ (n : ℕ). record { kind = kinds.Join; dpid = n; body = features_reply 0 j }) number in
    subst (After (Join d) s k) (sym (joined-handled d k j none (features-read j may.number (joined-lasts s.moment l.declared may)))) (record {
      queue =
          ap (λ (e : Event). k.queue ++ e ∷ []) (sym event)
          ∙ ap (λ (es : List Event). k.queue ++ es) (sym (join-events d s k l facts declared found ∙ ap (λ (o : Option SwitchState). joins_at s.moment (record { declared = l.declared; switch = o })) shown));
      places = join-places d s k after l facts found only (ap (option_map (corrected_switch (known_by after d))) here ∙ ap (λ (o : Option SwitchState). some_switch (or_joined s.moment l.declared o)) (sym shown));
      known = all-known d s now k after facts only (subst (λ (o : Option SwitchState). KnownIn o (rows_at d after.views) (known_ports d after.ports)) (sym here) (record {
        agrees = ap (option_map rows_of_view) (rows_at-with_view d k.views);
        ports = added-here d (features_of j).ports k.ports known.ports;
      }));
      order = with_view-ascends d 0 k.views (omega arith) none facts.order;
      moment = facts.moment;
      sound = all-sound d s now k after facts only (subst SoundIn (sym here) tt);
    })

join-by : (d : ℕ) (s : State) (k : Knowledge) (l : Link) → Facts s k → is_declared d (declared_in s.links) ≡ true → link_of d s.links ≡ Some l → l.declared.dpid ≡ d → MayDeclare l.declared → (o : Option SwitchState) → l.switch ≡ o
    → After (Join d) s k (handled_all (if is_some o then [] else Joined d (features_reply 0 (joined_at s.moment l.declared)) ∷ []) k)
join-by d s k l facts declared found number may None is = comes d s k l facts declared found number may is
join-by d s k l facts declared found number may (Some y) is = stays-joined d s k l y facts declared found is

pub after-join : (d : ℕ) (s : State) (k : Knowledge) → Facts s k → IsTrue (is_declared d (declared_in s.links)) → After (Join d) s k (handled_all (upcoming (after_stim (Join d) s)) k)
after-join d s k facts declared =
    let h = has-link d s.links declared in
    let l : Link = h.link in
    let last = all-at LinkLasts d s.links l facts.last h.link_is in
    subst (λ (list : List WorldStep). After (Join d) s k (handled_all list k)) (sym (join-items d s l h.link_is k facts))
    (join-by d s k l facts declared h.link_is h.number last.0.may l.switch refl)
