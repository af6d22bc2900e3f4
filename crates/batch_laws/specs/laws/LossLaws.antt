-- What the engine knows once a switch was lost at the item of a stimulus: what the reference controller has then.
use Rattle.std.specs.Prelude.{◌≡◌, ◌≢◌, ◌==◌, ℕ, Bool, true, false, List, [], ◌∷◌, ◌++◌, Option, Some, None, Result, Ok, Err, is_some, if◌then◌else◌, refl}
use Rattle.std.specs.Option.{option_map}
use Rattle.std.proofs.Common.{sym, ap, ap₂, ◌∙◌, subst, inl, inr, true≢false}
use Rattle.std.proofs.lemmas.Bool.{cases_eq, ne_eqb}
use Rattle.std.proofs.lemmas.List.{append-nil}
use Rattle.std.proofs.lemmas.Option.{same_Some, none-some}
use Rattle.of_types.specs.declared.journal.Stimulus.{Stimulus}
use Rattle.of_types.specs.declared.journal.WorldStim.{WorldStim}
use Rattle.of_types.specs.declared.journal.WorldStim.TheVariants.{Join, Of}
use Rattle.of_types.specs.declared.port_desc.PortDesc.{PortDesc}
use Rattle.of_wire.specs.declared.message.Message.{Message}
use Rattle.of_wire.specs.declared.message.Message.TheVariants.{EchoRequest, FeaturesReply}
use Rattle.of_wire.specs.declared.message.Envelope.{Envelope}
use Rattle.of_wire.specs.declared.fault.WireFault.{WireFault}
use Rattle.of_wire.specs.Reading.{reading_of}
use Rattle.flow_table.specs.declared.view.ViewRow.{ViewRow}
use Rattle.flow_table.specs.View.{TableView}
use Rattle.flow_table.specs.Switch.{Declared, SwitchState}
use Rattle.undo_laws.specs.CorrectedSwitch.{corrected_switch}
use Rattle.app_frames.specs.declared.frame.Event.{Event}
use Rattle.lego_model.specs.Answers.{rows_of_view}
use Rattle.lego_model.specs.Controller.{left_of, left_at, places_after}
use Rattle.lego_model.specs.Places.{Place, switch_at, with_place, table_rows}
use Rattle.outside.specs.declared.step.WorldStep.{WorldStep}
use Rattle.outside.specs.declared.step.WorldStep.TheVariants.{From, Joined}
use Rattle.outside.specs.Seen.{Seen, is_declared}
use Rattle.outside.specs.State.{State, switch_of, after_stim, upcoming, state, links_after}
use Rattle.outside.specs.Conforming.{AreDeclaredFrom, IsWorldStim, Conforming}
use Rattle.net_txn.specs.laws.OrderLaws.{left-ascends}
use Rattle.net_txn.specs.declared.ports.KnownPorts.{KnownPorts}
use Rattle.net_txn.specs.Net.{NetState}
use Rattle.net_txn.specs.ChangeSteps.{Agrees}
use Rattle.net_txn.specs.Views.{rows_at, ViewsAscend}
use Rattle.net_txn.specs.laws.JoiningLaws.{rows_at-with_view-other}
use Rattle.switch_laws.specs.Shown.{rows_or_none, shown_switch, places, shown_places, correction_in, corrections, shown_by}
use Rattle.switch_laws.specs.Since.{ports_known}
use Rattle.switch_laws.specs.Sound.{Sound}
use Rattle.switch_laws.specs.laws.LossLaws.{rows-gone, rows-stay, known-gone, known-stay, left-known, known-shown}
use Rattle.switch_laws.specs.laws.PlaceLaws.{switch_at-declared, with_place-places}
use Rattle.lego_model.specs.Echoes.{IsEcho, IsEchoRead}
use Rattle.batch_laws.specs.Knowledge.{known_by, Knowledge, knowledge_of, is_known, told_message, told_read, joined_by, joined_read, handled, handled_all, LosesAt, left_events, ports_lost, lost_by, known_lost}
use Rattle.batch_laws.specs.Batches.{Standing}
use Rattle.batch_laws.specs.Calm.{Calm}
use Rattle.batch_laws.specs.InBatch.{BatchLost}
use Rattle.batch_laws.specs.Waiting.{NoneWait}
use Rattle.batch_laws.specs.Tells.{StimulusHandled, StimulusLost}
use Rattle.batch_laws.specs.laws.AloneLaws.{echo-alone, join-alone}
use Rattle.batch_laws.specs.laws.HistoryLaws.{links-last, links-declared, stim-lasts, lasts_in}
use Rattle.batch_laws.specs.laws.StimulusLaws.{none-wait, stimulus-handled}

-- ---- One switch goes out

-- It is out, and not known any more; the others are as they were, and are known as they were.
record OutOf (d : ℕ) (s now : State) (k after : Knowledge) : Type 0 where
  switch : switch_of d now ≡ None
  others : (e : ℕ) → e ≢ d → switch_of e now ≡ switch_of e s
  rows : rows_at d after.views ≡ None
  others_rows : (e : ℕ) → e ≢ d → rows_at e after.views ≡ rows_at e k.views
  ports : ports_lost d after.ports ≡ []
  others_ports : (e : ℕ) → e ≢ d → ports_lost e after.ports ≡ ports_lost e k.ports
  order : ViewsAscend 0 after.views
  moment : after.moment ≡ k.moment

module _ (d : ℕ) (s now : State) (k after : Knowledge) (out : OutOf d s now k after) where
  shown-out : shown_switch (known_by after) now d ≡ None
  shown-out = ap (option_map (corrected_switch (known_by after d))) out.switch

  shown-others : (e : ℕ) → e ≢ d → shown_switch (known_by after) now e ≡ shown_switch (known_by k) s e
  shown-others e other =
      ap₂ (λ (rows : Option (List ViewRow)) o. option_map (corrected_switch (correction_in (rows_or_none rows))) o) (out.others_rows e other) (out.others e other)

  agrees-out : ((e : ℕ) → Agrees e k.views s) → (e : ℕ) → Agrees e after.views now
  agrees-out agrees e =
      elim (cases_eq e d) [
        | inl same ↦ subst (λ (n : ℕ). Agrees n after.views now) (sym same)
            (ap (option_map rows_of_view) out.rows ∙ sym (ap (option_map table_rows) out.switch))
        | inr other ↦ ap (option_map rows_of_view) (out.others_rows e other) ∙ agrees e ∙ sym (ap (option_map table_rows) (out.others e other))
      ]

  known-out : ((e : ℕ) → ports_lost e k.ports ≡ ports_known e (switch_of e s)) → (e : ℕ) → ports_lost e after.ports ≡ ports_known e (switch_of e now)
  known-out known e =
      elim (cases_eq e d) [
        | inl same ↦ subst (λ (n : ℕ). ports_lost n after.ports ≡ ports_known n (switch_of n now)) (sym same) (out.ports ∙ sym (ap (ports_known d) out.switch))
        | inr other ↦ out.others_ports e other ∙ known e ∙ sym (ap (ports_known e) (out.others e other))
      ]

  sound-out : Sound s → Sound now
  sound-out sound = record {
    entries = λ e x is. elim (cases_eq e d) [
      | inl same ↦ absurd (none-some x (sym out.switch ∙ subst (λ (n : ℕ). switch_of n now ≡ Some x) same is))
      | inr other ↦ sound.entries e x (sym (out.others e other) ∙ is)
    ];
  }

-- what is so then, where it was so of the stimulus
lost-by : {Own : Type 0} (x : WorldStim) (d : ℕ) (seen new : Seen Own) (net : NetState) (queue : List Event) (k after : Knowledge) → Conforming seen → is_declared d seen.given.declared ≡ true → StimulusHandled x seen net queue k
    → OutOf d (after_stim x (state seen)) (state new) k after → after.queue ≡ queue ++ left_at x d (places_after x (state seen).moment (shown_places seen.given.declared (shown_by net) (state seen))) → StimulusLost x d seen new net queue after
unfolding shown_places
lost-by x d seen new net queue k after keeps declared handled out queue_is =
    let s = after_stim x (state seen) in
    let now = state new in
    let ds = seen.given.declared in
    record {
      after = places_after x (state seen).moment (places (shown_switch (shown_by net) (state seen)) ds);
      after_is = refl;
      queue_is = queue_is;
      places = sym (with_place-places (shown_switch (known_by k) s) (shown_switch (known_by after) now) d (λ o. None) 1 ds keeps.declared declared (shown-out d s now k after out) (shown-others d s now k after out))
          ∙ ap (λ (ps : List Place). with_place d (λ o. None) ps) handled.places;
      agrees = agrees-out d s now k after out handled.agrees;
      known = known-out d s now k after out handled.known;
      order = out.order;
      moment = out.moment ∙ handled.moment;
      sound = sound-out d s now k after out handled.sound;
    }

-- ---- Its number

-- the switch of a stimulus has its number after it
number-after : {Own : Type 0} (x : WorldStim) (seen : Seen Own) (d : ℕ) (y : SwitchState) → Conforming seen → IsWorldStim seen.given.declared (state seen).moment x → switch_of d (after_stim x (state seen)) ≡ Some y → y.declared.dpid ≡ d
unfolding switch_of after_stim
number-after x seen d y keeps may is =
    (lasts_in d (links_after x (state seen).moment (state seen).links) y (stim-lasts seen.given.declared x (state seen).moment (state seen).links may (links-last seen keeps)) is).1

-- ---- An ECHO_REQUEST could not be answered

echo-same : (d : ℕ) (m : Message) (k : Knowledge) → IsEcho m → told_message d m k ≡ k
echo-same d (EchoRequest payload) k is = refl
echo-same d other k is = absurd is

read-same : (d : ℕ) (r : Result Envelope WireFault) (k : Knowledge) → IsEchoRead r → told_read d r k ≡ k
read-same d (Ok e) k is = echo-same d e.message k is
read-same d (Err fault) k is = absurd is

echo-handled : (d : ℕ) (bytes : List ℕ) (k : Knowledge) → is_known d k ≡ true → IsEchoRead (reading_of bytes) → handled (From d bytes) k ≡ k
unfolding handled
echo-handled d bytes k known is = rw known (read-same d (reading_of bytes) k is)

-- the Leave event is that of the switch as its owners see it
echo-left : (d : ℕ) (ds : List Declared) (views : List TableView) (s : State) (ports : List KnownPorts) → is_declared d ds ≡ true → ((y : SwitchState) → switch_of d s ≡ Some y → y.declared.dpid ≡ d) → ports_lost d ports ≡ ports_known d (switch_of d s)
    → left_events (ports_lost d ports) ≡ left_of (switch_at d (shown_places ds (corrections views) s))
unfolding shown_places
echo-left d ds views s ports declared number known =
    ap left_events (known ∙ sym (known-shown d (corrections views d) (switch_of d s)))
    ∙ left-known d (shown_switch (corrections views) s d) (λ y is. number-shown (switch_of d s) y number is)
    ∙ ap left_of (sym (switch_at-declared (shown_switch (corrections views) s) d ds declared))
  where
    number-shown : (o : Option SwitchState) (y : SwitchState) → ((z : SwitchState) → o ≡ Some z → z.declared.dpid ≡ d) → option_map (corrected_switch (corrections views d)) o ≡ Some y → y.declared.dpid ≡ d
    number-shown None y each is = absurd cc
    number-shown (Some z) y each is = ap (λ (w : SwitchState). w.declared.dpid) (sym (same_Some (corrected_switch (corrections views d) z) y is)) ∙ each z refl

-- ---- Either

abbrev known_at_first : {Own : Type 0} → Standing Own → Knowledge
known_at_first first = knowledge_of first.net first.queue

-- what was lost at an item, and how all stands then
record LostAt {Own : Type 0} (x : WorldStim) (d : ℕ) (item : WorldStep) (first now : Standing Own) : Type 0 where
  keeps : Conforming first.seen
  calm : Calm first.seen first.net
  may : IsWorldStim first.seen.given.declared (state first.seen).moment x
  alone : upcoming (after_stim x (state first.seen)) ≡ item ∷ []
  at : LosesAt d item (known_at_first first)
  out : switch_of d (state now.seen) ≡ None
  others : (e : ℕ) → e ≢ d → switch_of e (state now.seen) ≡ switch_of e (after_stim x (state first.seen))
  knowledge : knowledge_of now.net now.queue ≡ known_lost d item (known_at_first first)

-- what the engine would know had it not been lost
would-know : {Own : Type 0} (x : WorldStim) (d : ℕ) (item : WorldStep) (first now : Standing Own) → LostAt x d item first now → StimulusHandled x first.seen first.net first.queue (handled item (known_at_first first))
would-know x d item first now l =
    subst (λ (items : List WorldStep). StimulusHandled x first.seen first.net first.queue (handled_all items (known_at_first first))) l.alone
    (stimulus-handled x first.seen first.net first.queue l.keeps l.calm l.may)

silent : {Own : Type 0} (x : WorldStim) (d : ℕ) (item : WorldStep) (first now : Standing Own) → LostAt x d item first now → NoneWait (state first.seen).links
silent x d item first now l =
    none-wait (state first.seen) (subst (AreDeclaredFrom 1) (sym (links-declared first.seen)) l.keeps.declared) l.calm.ready.waits

happened-declared : (x : WorldStim) (d : ℕ) (y : Stimulus) (declared : List Declared) (moment : ℕ) → x ≡ Of d y → IsWorldStim declared moment x → is_declared d declared ≡ true
unfolding IsWorldStim
happened-declared x d y declared moment is may = (subst (IsWorldStim declared moment) is may).0

joined-declared : (x : WorldStim) (d : ℕ) (declared : List Declared) (moment : ℕ) → x ≡ Join d → IsWorldStim declared moment x → is_declared d declared ≡ true
unfolding IsWorldStim
joined-declared x d declared moment is may = subst (IsWorldStim declared moment) is may

echo-loss : {Own : Type 0} (x : WorldStim) (d : ℕ) (bytes : List ℕ) (first now : Standing Own) → LostAt x d (From d bytes) first now → StimulusLost x d first.seen now.seen first.net first.queue (knowledge_of now.net now.queue)
echo-loss x d bytes first now l =
    let k = known_at_first first in
    let s = after_stim x (state first.seen) in
    let ds = first.seen.given.declared in
    let after = places_after x (state first.seen).moment (shown_places ds (shown_by first.net) (state first.seen)) in
    let alone = echo-alone x (state first.seen) d bytes [] [] (silent x d (From d bytes) first now l) l.calm.none_due l.at.2 (sym l.alone) in
    let handled : StimulusHandled x first.seen first.net first.queue k =
    subst (λ (known : Knowledge). StimulusHandled x first.seen first.net first.queue known) (echo-handled d bytes k l.at.1 l.at.2)
    (would-know x d (From d bytes) first now l) in
    let declared = happened-declared x d alone.what ds (state first.seen).moment alone.stimulus l.may in
    let out : OutOf d s (state now.seen) k (lost_by d k) = record {
      switch = l.out;
      others = l.others;
      rows = rows-gone d k.views;
      others_rows = λ e other. rows-stay d e other k.views;
      ports = known-gone d k.ports;
      others_ports = λ e other. known-stay d e other k.ports;
      order = left-ascends d 0 k.views l.calm.order;
      moment = refl;
    } in
    let left : left_events (ports_lost d k.ports) ≡ left_at x d after =
    echo-left d ds k.views s k.ports declared (λ y is. number-after x first.seen d y l.keeps l.may is) (handled.known d)
    ∙ ap (λ (ps : List Place). left_of (switch_at d ps)) handled.places
    ∙ ap (λ (y : WorldStim). left_at y d after) (sym alone.stimulus) in
    subst (λ (known : Knowledge). StimulusLost x d first.seen now.seen first.net first.queue known) (sym l.knowledge)
    (lost-by x d first.seen now.seen first.net first.queue k (lost_by d k) l.keeps declared handled out (ap (λ (es : List Event). first.queue ++ es) left))

-- what joins changes of the others is nothing
record JoinsOnly (d : ℕ) (k now : Knowledge) : Type 0 where
  rows : (e : ℕ) → e ≢ d → rows_at e now.views ≡ rows_at e k.views
  ports : (e : ℕ) → e ≢ d → ports_lost e now.ports ≡ ports_lost e k.ports
  moment : now.moment ≡ k.moment

only-none : (d : ℕ) (k : Knowledge) → JoinsOnly d k k
only-none d k = record { rows = λ e other. refl; ports = λ e other. refl; moment = refl }

added-other : (d e : ℕ) (ports : List PortDesc) (ks : List KnownPorts) → e ≢ d → ports_lost e (ks ++ record { dpid = d; ports = ports } ∷ []) ≡ ports_lost e ks
added-other d e ports [] other = rw (ne_eqb d e (λ same. other (sym same))) refl
added-other d e ports (k ∷ ks) other = ap (λ (xs : List KnownPorts). if k.dpid == e then k ∷ xs else xs) (added-other d e ports ks other)

message-joins : (d : ℕ) (m : Message) (k : Knowledge) → JoinsOnly d k (joined_by d m k)
message-joins d (FeaturesReply features) k = record { rows = λ e other. rows_at-with_view-other d e k.views other; ports = λ e other. added-other d e features.ports k.ports other; moment = refl }
message-joins d other k = only-none d k

read-joins : (d : ℕ) (r : Result Envelope WireFault) (k : Knowledge) → JoinsOnly d k (joined_read d r k)
read-joins d (Ok e) k = message-joins d e.message k
read-joins d (Err fault) k = only-none d k

joined-handled : (d : ℕ) (bytes : List ℕ) (k : Knowledge) → is_known d k ≡ false → JoinsOnly d k (handled (Joined d bytes) k)
unfolding handled
joined-handled d bytes k out = rw out (read-joins d (reading_of bytes) k)

pub unknown-rows : (rows : Option (List ViewRow)) → is_some rows ≡ false → rows ≡ None
unknown-rows None is = refl
unknown-rows (Some rows) is = absurd (true≢false is)

unknown-switch : (o : Option SwitchState) → None ≡ option_map table_rows o → o ≡ None
unknown-switch None is = refl
unknown-switch (Some s) is = absurd cc

join-loss : {Own : Type 0} (x : WorldStim) (d : ℕ) (bytes : List ℕ) (first now : Standing Own) → LostAt x d (Joined d bytes) first now → StimulusLost x d first.seen now.seen first.net first.queue (knowledge_of now.net now.queue)
join-loss x d bytes first now l =
    let k = known_at_first first in
    let s = after_stim x (state first.seen) in
    let ds = first.seen.given.declared in
    let after = places_after x (state first.seen).moment (shown_places ds (shown_by first.net) (state first.seen)) in
    let alone = join-alone x (state first.seen) d bytes [] [] (silent x d (Joined d bytes) first now l) l.calm.none_due (sym l.alone) in
    let would = would-know x d (Joined d bytes) first now l in
    let only = joined-handled d bytes k l.at.1 in
    let rows : rows_at d k.views ≡ None = unknown-rows (rows_at d k.views) l.at.1 in
    let before : switch_of d (state first.seen) ≡ None = unknown-switch (switch_of d (state first.seen)) (sym (ap (option_map rows_of_view) rows) ∙ l.calm.ready.agrees d) in
    let out : OutOf d s (state now.seen) (handled (Joined d bytes) k) k = record {
      switch = l.out;
      others = l.others;
      rows = rows;
      others_rows = λ e other. sym (only.rows e other);
      ports = l.calm.ready.known d ∙ ap (ports_known d) before;
      others_ports = λ e other. sym (only.ports e other);
      order = l.calm.order;
      moment = sym only.moment;
    } in
    let none : first.queue ≡ first.queue ++ left_at x d after = sym (append-nil first.queue) ∙ ap (λ (y : WorldStim). first.queue ++ left_at y d after) (sym alone.stimulus) in
    subst (λ (known : Knowledge). StimulusLost x d first.seen now.seen first.net first.queue known) (sym l.knowledge)
    (lost-by x d first.seen now.seen first.net first.queue (handled (Joined d bytes) k) k l.keeps (joined-declared x d ds (state first.seen).moment alone.stimulus l.may) would out none)

lost-at : {Own : Type 0} (x : WorldStim) (d : ℕ) (item : WorldStep) (first now : Standing Own) → LostAt x d item first now → StimulusLost x d first.seen now.seen first.net first.queue (knowledge_of now.net now.queue)
lost-at x d (From e bytes) first now l = echo-loss x d bytes first now (subst (λ (n : ℕ). LostAt x d (From n bytes) first now) l.at.0 l)
lost-at x d (Joined e bytes) first now l = join-loss x d bytes first now (subst (λ (n : ℕ). LostAt x d (Joined n bytes) first now) l.at.0 l)
lost-at x d other first now l = absurd l.at

-- Where nothing waited, the engine whose switch is lost at the item of a stimulus comes to know what the reference controller has.
pub loss-handled : {Own : Type 0} (x : WorldStim) (begun : Bool) (first now : Standing Own) → Conforming first.seen → Calm first.seen first.net → (l : BatchLost x begun first now)
    → StimulusLost x l.dpid first.seen now.seen first.net first.queue (knowledge_of now.net now.queue)
loss-handled x begun first now keeps calm l = lost-at x l.dpid l.item first now (record {
  keeps = keeps;
  calm = calm;
  may = l.began.stimulus;
  alone = l.alone;
  at = l.at;
  out = l.out;
  others = l.others;
  knowledge = l.knowledge;
})
