-- What the engine knows after a moment: of the entries that went those are events whose owners asked for a notice, and the view is without all
-- of them.
use Rattle.std.proofs.Common.{◌≡◌, ◌==◌, ℕ, ◌+◌, ◌^◌, ◌<◌, Bool, true, false, not, ◌&&◌, List, [], ◌∷◌, ◌++◌, map, filter, Option, Some, None, Ok, refl, sym, ap, ap₂, ◌∙◌, subst, inl, inr, arith, append_assoc}
use Rattle.std.proofs.lemmas.Bool.{cases_Bool, and_parts, or_parts}
use Rattle.std.proofs.lemmas.List.{append-nil}
use Rattle.std.proofs.lemmas.List.Elements.{filter_map-append}
use Rattle.std.specs.List.{AllByRecursion}
use Rattle.std.proofs.Math.Bool.{and-true}
use Rattle.of_types.specs.declared.journal.Stimulus.TheVariants.{Advance}
use Rattle.of_match.specs.declared.key.Key.{Key}
use Rattle.of_match.specs.Key.{key_number}
use Rattle.of_wire.specs.declared.bodies.FlowRemoved.{FlowRemoved as Removed}
use Rattle.of_wire.specs.declared.message.Message.TheVariants.{FlowRemoved}
use Rattle.of_wire.specs.Spelling.{message_bytes}
use Rattle.of_wire.specs.Grammar.{enveloped}
use Rattle.of_wire.specs.Reading.{reading_of}
use Rattle.of_wire.specs.laws.ReadingLaws.{reading_of-message_bytes}
use Rattle.flow_timeouts.specs.declared.timeouts.Reason.{Reason}
use Rattle.flow_table.specs.declared.entry.Entry.{Entry}
use Rattle.flow_table.specs.declared.notice.Notice.{Notice}
use Rattle.flow_table.specs.declared.view.ViewRow.{ViewRow}
use Rattle.flow_table.specs.View.{TableView}
use Rattle.flow_table.specs.Table.{IsTable, keys}
use Rattle.flow_table.specs.Change.{asks_notice}
use Rattle.flow_table.specs.Expiry.{deadline, is_due, notice_at, by_deadline, expire, expiry_notices, gives_notice}
use Rattle.flow_table.specs.Switch.{SwitchState}
use Rattle.flow_table.specs.Step.{flow_removed, flow_removed_bytes, after_stimulus, sent_by_stimulus}
use Rattle.undo_laws.specs.CorrectedSwitch.{is_asked_for, AskAll}
use Rattle.undo_laws.specs.laws.CorrectedSwitchLaws.{moment-shown}
use Rattle.app_frames.specs.declared.frame.Event.{Event}
use Rattle.lego_model.specs.Answers.{rows_of_table, rows_of_view}
use Rattle.lego_model.specs.Events.{event_of_read, events_of}
use Rattle.outside.specs.declared.step.WorldStep.TheVariants.{From}
use Rattle.net_txn.specs.Views.{rows_at, with_rows, ViewsAscend}
use Rattle.net_txn.specs.laws.ViewLaws.{rows_at-same, rows_at-other}
use Rattle.switch_laws.specs.Shown.{flags_in, correction_in}
use Rattle.switch_laws.specs.laws.CorrectionLaws.{goes_along, go_together, notices-shown, shown-alike}
use Rattle.switch_laws.specs.Sound.{SoundEntry, AllSound}
use Rattle.switch_laws.specs.laws.SoundLaws.{notice-message}
use Rattle.batch_laws.specs.Knowledge.{Knowledge, told_read, handled, handled_all}
use Rattle.batch_laws.specs.Calm.{known_ports}
use Rattle.batch_laws.specs.laws.KeyLaws.{all-both, all-filter, all-map, all-by_deadline, filter-alike, has-by_deadline, distinct-by_deadline, distinct-filter, has-filter, rows_without-filter, view-filter, table-filter, flags-kept, rows-ascend, asked-flags, asked-without}
use Rattle.batch_laws.specs.Keys.{Distinct, notice_keys}
use Rattle.flow_table.specs.RowKeys.{RowsAscend}
use Rattle.batch_laws.specs.laws.TellLaws.{known-handled, is-known}
use Rattle.batch_laws.specs.Tells.{ViewChanged, SwitchHandled, SwitchKnown}
use Rattle.lego_model.specs.ViewRows.{rows_without, is_asked}
use Rattle.flow_table.specs.Sorted.{without_key}
use Rattle.undo_laws.specs.Removal.{is_key_among}
use Rattle.net_txn.specs.laws.LoseAllLaws.{turned}

-- ---- Views

pub views-with_rows : (d : ℕ) (change : List ViewRow → List ViewRow) (least : ℕ) (views : List TableView) → ViewsAscend least views → ViewsAscend least (with_rows d change views)
views-with_rows d change least [] h = tt
views-with_rows d change least (v ∷ vs) h =
    elim (cases_Bool (v.dpid == d)) [
      | inl here ↦ rw here h
      | inr other ↦ rw other (h.0, views-with_rows d change (v.dpid + 1) vs h.1)
    ]

view-changed : (d : ℕ) (change : List ViewRow → List ViewRow) (rows : List ViewRow) (views : List TableView) → rows_at d views ≡ Some rows → ViewChanged d (change rows) views (with_rows d change views)
view-changed d change rows views are = record {
  here = rows_at-same d change views rows are;
  others = λ e other. rows_at-other d e change views other;
  order = λ least ascend. views-with_rows d change least views ascend;
}

view-then : (d : ℕ) (middle rows : List ViewRow) (a b c : List TableView) → ViewChanged d middle a b → ViewChanged d rows b c → ViewChanged d rows a c
view-then d middle rows a b c first second = record {
  here = second.here;
  others = λ e other. second.others e other ∙ first.others e other;
  order = λ least ascend. second.order least (first.order least ascend);
}

-- ---- Notices, one after the other

record ReadNotice (n : Notice) : Type 0 where
  read : reading_of (flow_removed_bytes n) ≡ Ok (enveloped 0 (FlowRemoved (flow_removed n)))

record NoticesHandled (flags : Key → ℕ) (d : ℕ) (ns : List Notice) (rows : List ViewRow) (k now : Knowledge) : Type 0 where
  views : ViewChanged d (rows_without (notice_keys ns) rows) k.views now.views
  queue : now.queue ≡ k.queue ++ events_of d (map flow_removed_bytes (filter (is_asked_for flags) ns))
  ports : now.ports ≡ k.ports
  moment : now.moment ≡ k.moment

abbrev AskedAs : (Key → ℕ) → List ViewRow → Notice → Type 0
AskedAs flags rows n = is_asked n.removed.key (Some rows) ≡ asks_notice (flags n.removed.key)

asked-later : (flags : Key → ℕ) (j : Key) (rows : List ViewRow) (ns : List Notice) → is_key_among (notice_keys ns) j ≡ false → AllByRecursion (AskedAs flags rows) ns → AllByRecursion (AskedAs flags (without_key j rows)) ns
asked-later flags j rows [] new h = tt
asked-later flags j rows (n ∷ ns) new h =
    let parts = or_parts (key_number n.removed.key == key_number j) (is_key_among (notice_keys ns) j) new in
    (asked-without n.removed.key j rows (turned (key_number j) (key_number n.removed.key) ∙ parts.0) ∙ h.0, asked-later flags j rows ns parts.1 h.1)

notice-handled : (flags : Key → ℕ) (d : ℕ) (n : Notice) (rows : List ViewRow) (k : Knowledge) → ReadNotice n → AskedAs flags rows n → rows_at d k.views ≡ Some rows
    → NoticesHandled flags d (n ∷ []) rows k (handled (From d (flow_removed_bytes n)) k)
unfolding events_of
notice-handled flags d n rows k reads asked are =
    let done = known-handled d (flow_removed_bytes n) k (is-known d rows k are) ∙ ap (λ r. told_read d r k) reads.read in
    let told : is_asked n.removed.key (rows_at d k.views) ≡ asks_notice (flags n.removed.key) = ap (is_asked n.removed.key) are ∙ asked in
    subst (NoticesHandled flags d (n ∷ []) rows k) (sym done) (record {
      views = view-changed d (without_key n.removed.key) rows k.views are;
      queue = elim (cases_Bool (asks_notice (flags n.removed.key))) [
        | inl asks ↦ rw (told, asks) (rw reads.read refl)
        | inr silent ↦ rw (told, silent) (sym (append-nil k.queue))
      ];
      ports = refl;
      moment = refl;
    })

events-append : (d : ℕ) (xs ys : List (List ℕ)) → events_of d (xs ++ ys) ≡ events_of d xs ++ events_of d ys
unfolding events_of
events-append d xs ys = filter_map-append (λ bytes. event_of_read d (reading_of bytes)) xs ys

asked-cons : (flags : Key → ℕ) (n : Notice) (ns : List Notice) → map flow_removed_bytes (filter (is_asked_for flags) (n ∷ [])) ++ map flow_removed_bytes (filter (is_asked_for flags) ns) ≡ map flow_removed_bytes (filter (is_asked_for flags) (n ∷ ns))
asked-cons flags n ns =
    elim (cases_Bool (asks_notice (flags n.removed.key))) [
      | inl asks ↦ rw asks refl
      | inr silent ↦ rw silent refl
    ]

-- the engine handles notices of entries with other keys each
notices-handled : (flags : Key → ℕ) (d : ℕ) (ns : List Notice) (rows : List ViewRow) (k : Knowledge) → AllByRecursion ReadNotice ns → Distinct (notice_keys ns) → AllByRecursion (AskedAs flags rows) ns → rows_at d k.views ≡ Some rows
    → NoticesHandled flags d ns rows k (handled_all (map (From d) (map flow_removed_bytes ns)) k)
unfolding events_of
notices-handled flags d [] rows k reads distinct asked are = record {
  views = record { here = are; others = λ e other. refl; order = λ least ascend. ascend };
  queue = sym (append-nil k.queue);
  ports = refl;
  moment = refl;
}
notices-handled flags d (n ∷ ns) rows k reads distinct asked are =
    let next : Knowledge = handled (From d (flow_removed_bytes n)) k in
    let first = notice-handled flags d n rows k reads.0 asked.0 are in
    let rest = notices-handled flags d ns (without_key n.removed.key rows) next reads.1 distinct.1 (asked-later flags n.removed.key rows ns distinct.0 asked.1) first.views.here in
    record {
      views = view-then d (without_key n.removed.key rows) (rows_without (notice_keys (n ∷ ns)) rows) k.views next.views _ first.views rest.views;
      queue =
          rest.queue
          ∙ ap (λ (q : List Event). q ++ events_of d (map flow_removed_bytes (filter (is_asked_for flags) ns))) first.queue
          ∙ append_assoc k.queue (events_of d (map flow_removed_bytes (filter (is_asked_for flags) (n ∷ [])))) (events_of d (map flow_removed_bytes (filter (is_asked_for flags) ns)))
          ∙ ap (λ (q : List Event). k.queue ++ q)
          (sym (events-append d (map flow_removed_bytes (filter (is_asked_for flags) (n ∷ []))) (map flow_removed_bytes (filter (is_asked_for flags) ns)))
          ∙ ap (events_of d) (asked-cons flags n ns));
      ports = rest.ports ∙ first.ports;
      moment = rest.moment ∙ first.moment;
    }

-- ---- The notices of a moment

abbrev tells : Entry → Notice
tells e = notice_at (deadline e) e

removed-at : (o : Option (ℕ × Reason)) (e : Entry) → (notice_at o e).removed ≡ e
removed-at None e = refl
removed-at (Some d) e = refl

keys-told : (es : List Entry) → notice_keys (map tells es) ≡ keys es
keys-told [] = refl
keys-told (e ∷ es) = ap₂ (λ (k : Key) ks. k ∷ ks) (ap (λ (x : Entry). x.key) (removed-at (deadline e) e)) (keys-told es)

read-notice : (t : ℕ) → t < 2 ^ 32 → (e : Entry) → SoundEntry e × (is_due t e ≡ true) → ReadNotice (tells e)
unfolding flow_removed_bytes
read-notice t within e is = record {
  read = reading_of-message_bytes 0 (FlowRemoved (flow_removed (tells e))) (omega arith) (notice-message t e is.0 within is.1);
}

asked-all : (flags : Key → ℕ) (rows : List ViewRow) → ((k : Key) → is_asked k (Some rows) ≡ asks_notice (flags k)) → (ns : List Notice) → AllByRecursion (AskedAs flags rows) ns
asked-all flags rows same [] = tt
asked-all flags rows same (n ∷ ns) = (same n.removed.key, asked-all flags rows same ns)

ask-all : (es : List Entry) → AllSound es → AskAll es
ask-all [] h = tt
ask-all (e ∷ es) h = (h.0.asks, ask-all es h.1)

bytes-by_fields : (ns : List Notice) → map flow_removed_bytes ns ≡ map (λ (f : Removed). message_bytes 0 (FlowRemoved f)) (map flow_removed ns)
unfolding flow_removed_bytes
bytes-by_fields [] = refl
bytes-by_fields (n ∷ ns) = ap (λ xs. message_bytes 0 (FlowRemoved (flow_removed n)) ∷ xs) (bytes-by_fields ns)

-- what the owners see is what they asked for
seen-bytes : (rows : List ViewRow) (t : ℕ) (es : List Entry) → AskAll es → map flow_removed_bytes (expiry_notices t (map (correction_in rows) es)) ≡ map flow_removed_bytes (filter (is_asked_for (flags_in rows)) (expiry_notices t es))
seen-bytes rows t es asks =
    bytes-by_fields (expiry_notices t (map (correction_in rows) es))
    ∙ ap (map (λ (f : Removed). message_bytes 0 (FlowRemoved f))) (notices-shown rows t es asks)
    ∙ sym (bytes-by_fields (filter (is_asked_for (flags_in rows)) (expiry_notices t es)))

due-goes : (t : ℕ) (e : Entry) → SoundEntry e → gives_notice t e ≡ is_due t e
due-goes t e is = ap (λ (b : Bool). is_due t e && b) is.asks ∙ and-true (is_due t e)

abbrev going : ℕ → List Entry → List Entry
going t es = by_deadline (filter (gives_notice t) es)

-- the keys that went are those of entries that were due
gone-due : (t : ℕ) (es : List Entry) → IsTable es → AllSound es → AllByRecursion (λ e. is_key_among (keys (going t es)) e.key ≡ is_due t e) es
gone-due t es is sound =
    all-both SoundEntry (λ e. is_key_among (keys (filter (gives_notice t) es)) e.key ≡ gives_notice t e) (λ e. is_key_among (keys (going t es)) e.key ≡ is_due t e)
    (λ e s has. has-by_deadline e.key (filter (gives_notice t) es) ∙ has ∙ due-goes t e s) es sound (has-filter (gives_notice t) 0 es is)

module _ (d t : ℕ) (s : SwitchState) (rows : List ViewRow) (k : Knowledge) (known : SwitchKnown d s rows k) (is : IsTable s.table.entries) (sound : AllSound s.table.entries) (within : t < 2 ^ 32) where
  abbrev entries : List Entry
  entries = s.table.entries

  abbrev gone : List Key
  gone = keys (going t entries)

  abbrev rows_then : List ViewRow
  rows_then = filter (λ r. not (is_key_among gone r.key)) rows

  asked-so : (j : Key) → is_asked j (Some rows) ≡ asks_notice (flags_in rows j)
  asked-so j = asked-flags j 0 rows (subst (RowsAscend 0) (sym known.agrees) (rows-ascend 0 entries is))

  reads-all : AllByRecursion ReadNotice (map tells (going t entries))
  reads-all =
      all-map (λ e. SoundEntry e × (is_due t e ≡ true)) ReadNotice tells (read-notice t within) (going t entries)
      (all-by_deadline (λ e. SoundEntry e × (is_due t e ≡ true)) (filter (gives_notice t) entries)
      (all-filter SoundEntry (λ e. SoundEntry e × (is_due t e ≡ true)) (gives_notice t) (λ e one passes. (one, (and_parts (is_due t e) (asks_notice e.flags) passes).0)) entries sound))

  handled-so : NoticesHandled (flags_in rows) d (map tells (going t entries)) rows k (handled_all (map (From d) (map flow_removed_bytes (map tells (going t entries)))) k)
  handled-so =
      notices-handled (flags_in rows) d (map tells (going t entries)) rows k reads-all
      (subst Distinct (sym (keys-told (going t entries))) (distinct-by_deadline (filter (gives_notice t) entries) (distinct-filter (gives_notice t) 0 entries is)))
      (asked-all (flags_in rows) rows asked-so (map tells (going t entries))) known.rows_are

  rows-then-are : rows_without (notice_keys (map tells (going t entries))) rows ≡ rows_then
  rows-then-are = ap (λ (ks : List Key). rows_without ks rows) (keys-told (going t entries)) ∙ rows_without-filter gone rows

  stays-alike : filter (λ e. not (is_key_among gone e.key)) entries ≡ filter (λ e. not (is_due t e)) entries
  stays-alike =
      filter-alike (λ e. not (is_key_among gone e.key)) (λ e. not (is_due t e)) entries
      (all-both SoundEntry (λ e. is_key_among gone e.key ≡ is_due t e) (λ e. not (is_key_among gone e.key) ≡ not (is_due t e)) (λ e one has. ap not has) entries sound (gone-due t entries is sound))

  agrees-then : rows_of_view rows_then ≡ rows_of_table (filter (λ e. not (is_due t e)) entries)
  agrees-then =
      view-filter (λ j. not (is_key_among gone j)) rows
      ∙ ap (filter (λ p. not (is_key_among gone p.0))) known.agrees
      ∙ sym (table-filter (λ j. not (is_key_among gone j)) entries)
      ∙ ap rows_of_table stays-alike

  not-true : (a : Bool) → not a ≡ true → a ≡ false
  not-true true h = absurd cc
  not-true false h = refl

  flags-then : AllByRecursion (λ e. flags_in rows_then e.key ≡ flags_in rows e.key) (filter (λ e. not (is_due t e)) entries)
  flags-then =
      all-filter (λ e. is_key_among gone e.key ≡ is_due t e) (λ e. flags_in rows_then e.key ≡ flags_in rows e.key) (λ e. not (is_due t e))
      (λ e has stays. flags-kept gone e.key rows (has ∙ not-true (is_due t e) stays)) entries (gone-due t entries is sound)

  seen-here : map flow_removed_bytes (expiry_notices t (map (correction_in rows) entries)) ≡ map flow_removed_bytes (filter (is_asked_for (flags_in rows)) (map tells (going t entries)))
  unfolding expiry_notices
  seen-here = seen-bytes rows t entries (ask-all entries sound)

  advanced : SwitchHandled d (Advance t) s rows k (handled_all (map (From d) (map flow_removed_bytes (map tells (going t entries)))) k)
  unfolding after_stimulus sent_by_stimulus expire
  advanced = record {
    rows_now = rows_then;
    views = subst (λ (r : List ViewRow). ViewChanged d r k.views (handled_all (map (From d) (map flow_removed_bytes (map tells (going t entries)))) k).views) rows-then-are handled-so.views;
    queue = handled-so.queue ∙ ap (λ sent. k.queue ++ events_of d sent) (sym seen-here);
    agrees = agrees-then;
    shown =
        ap (λ (es : List Entry). record s { moment = t; table = record s.table { entries = es } }) (shown-alike rows rows_then (filter (λ e. not (is_due t e)) entries) flags-then)
        ∙ sym (moment-shown (correction_in rows) (goes_along rows) t s (go_together rows entries));
    ports = ap (known_ports d) handled-so.ports ∙ known.ports;
    others = λ e other. ap (known_ports e) handled-so.ports;
    moment = handled-so.moment;
  }

pub advance-switch : (d t : ℕ) (s : SwitchState) (rows : List ViewRow) (k : Knowledge) → SwitchKnown d s rows k → IsTable s.table.entries → AllSound s.table.entries → t < 2 ^ 32
    → SwitchHandled d (Advance t) s rows k (handled_all (map (From d) (sent_by_stimulus (Advance t) s)) k)
unfolding sent_by_stimulus expiry_notices
advance-switch d t s rows k known is sound within = advanced d t s rows k known is sound within
