-- What follows about switches as they are shown: packets, counts, time and ports do to what is shown what they do to the switch itself, a
-- PACKET_OUT too, and of the notices of expiry those are shown that were asked for.
use Rattle.std.proofs.Common.{◌≡◌, ◌==◌, ℕ, ◌≤◌, Bool, true, false, not, ◌&&◌, nat_lt, nat_le, List, [], ◌∷◌, ◌++◌, length, map, filter, Option, Some, None, if◌then◌else◌, ◌+◌, refl, sym, ap, ap₂, ◌∙◌, arith, inl, inr}
use Rattle.std.proofs.lemmas.Bool.{cases_lt, cases_Bool, le-leb}
use Rattle.std.proofs.lemmas.Bool.Decides.{leb_tells}
use Rattle.std.specs.List.{AllByRecursion}
use Rattle.std.specs.Option.{option_map}
use Rattle.of_types.specs.declared.errors.OfError.{OfError}
use Rattle.of_types.specs.declared.journal.PortChange.{PortChange}
use Rattle.of_types.specs.declared.journal.PortChange.TheVariants as changes
use Rattle.of_types.specs.declared.journal.Stimulus.{Stimulus}
use Rattle.of_types.specs.declared.journal.Stimulus.TheVariants.{Frame, Advance, Port, Counts, Raw}
use Rattle.of_match.specs.declared.key.Key.{Key}
use Rattle.of_match.specs.declared.packet_key.PacketKey.{PacketKey}
use Rattle.of_match.specs.Key.{key_number}
use Rattle.of_match.specs.Fields.{is_exact}
use Rattle.of_match.specs.Match.{fields_in}
use Rattle.of_match.specs.Covers.{is_covering}
use Rattle.of_action.specs.declared.action.Action.{Action}
use Rattle.of_wire.specs.declared.bodies.PacketOut.{PacketOut as Packet}
use Rattle.of_wire.specs.declared.message.Message.TheVariants.{PacketOut}
use Rattle.eth_key.specs.PacketFields.{key_of}
use Rattle.flow_timeouts.specs.declared.timeouts.Reason.{Reason}
use Rattle.flow_table.specs.declared.entry.Entry.{Entry}
use Rattle.flow_table.specs.Table.{TableState, place_of, with_entry}
use Rattle.flow_table.specs.laws.TableLaws.{with_entry-before, with_entry-same, with_entry-after}
use Rattle.flow_table.specs.Change.{asks_notice, unless_refused}
use Rattle.flow_table.specs.Hit.{rank, best, better, counted, hit, hit_by, with_more, with_counts}
use Rattle.flow_table.specs.Expiry.{among, by_deadline, deadline, has_come, moment_of, end_of, is_due, notice_at, expire, expiry_notices}
use Rattle.flow_table.specs.Switch.{SwitchState, port_at}
use Rattle.flow_table.specs.Frames.{plus, after_output, after_outputs, hit_outputs, hit_count, entry_hit, after_counts, after_lookup, sent_by_hit, sent_by_lookup, after_packet_output, after_packet_outputs, after_packet_out, sent_by_packet_output, sent_by_packet_outputs, takes, after_arrival, after_frame, sent_by_frame}
use Rattle.flow_table.specs.Refusals.{packet_out_refusal, message_refusal}
use Rattle.flow_table.specs.Step.{after_taken, sent_by_taken, answered, after_message, sent_by_message, after_port_change, sent_by_port_change, after_stimulus, sent_by_stimulus, can_add}
use Rattle.flow_table.specs.Undone.{used_or, restored, undone}
use Rattle.undo_laws.specs.Corrected.{IsCorrection, corrected}
use Rattle.undo_laws.specs.laws.CorrectedLaws.{map-shown}
use Rattle.undo_laws.specs.CorrectedSwitch.{corrected_switch, with_counters, with_use, GoesAlong, GoesWith, GoTogether, AskAll, asks_shown, IsNoMoment}

-- ---- Entries in order of deadlines, some of them left out

abbrev AtLeast : ℕ → List Entry → Type 0
AtLeast n es = AllByRecursion (λ e. n ≤ end_of e) es

abbrev InOrder : List Entry → Type 0
InOrder [] = Unit {0}
InOrder (e ∷ es) = AtLeast (end_of e) es × InOrder es

AtLeast-less : (m n : ℕ) → m ≤ n → (es : List Entry) → AtLeast n es → AtLeast m es
AtLeast-less m n le [] h = tt
AtLeast-less m n le (e ∷ es) h = (omega (arith, le, h.0), AtLeast-less m n le es h.1)

AtLeast-among : (n : ℕ) (e : Entry) → n ≤ end_of e → (es : List Entry) → AtLeast n es → AtLeast n (among e es)
AtLeast-among n e le [] h = (le, tt)
AtLeast-among n e le (f ∷ fs) h =
    elim (leb_tells (end_of e) (end_of f)) [
      | inl first ↦ rw (first.0) (le, h)
      | inr later ↦ rw (later.0) (h.0, AtLeast-among n e le fs h.1)
    ]

InOrder-among : (e : Entry) (es : List Entry) → InOrder es → InOrder (among e es)
InOrder-among e [] h = (tt, tt)
InOrder-among e (f ∷ fs) h =
    elim (leb_tells (end_of e) (end_of f)) [
      | inl first ↦ rw (first.0) ((first.1, AtLeast-less (end_of e) (end_of f) first.1 fs h.0), h)
      | inr later ↦ rw (later.0) (AtLeast-among (end_of f) e (omega (arith, later.1)) fs h.0, InOrder-among e fs h.1)
    ]

InOrder-by_deadline : (es : List Entry) → InOrder (by_deadline es)
unfolding by_deadline
InOrder-by_deadline [] = tt
InOrder-by_deadline (e ∷ es) = InOrder-among e (by_deadline es) (InOrder-by_deadline es)

AtLeast-filter : (n : ℕ) (q : Entry → Bool) (es : List Entry) → AtLeast n es → AtLeast n (filter q es)
AtLeast-filter n q [] h = tt
AtLeast-filter n q (e ∷ es) h =
    elim (cases_Bool (q e)) [
      | inl passes ↦ rw passes (h.0, AtLeast-filter n q es h.1)
      | inr fails ↦ rw fails (AtLeast-filter n q es h.1)
    ]

among-first : (e : Entry) (es : List Entry) → AtLeast (end_of e) es → among e es ≡ e ∷ es
among-first e [] h = refl
among-first e (f ∷ fs) h = let first : nat_le (end_of e) (end_of f) ≡ true = le-leb (end_of e) (end_of f) h.0 in rw first refl

-- an entry that passes goes where it went among all
among-filter : (q : Entry → Bool) (e : Entry) → q e ≡ true → (es : List Entry) → InOrder es → filter q (among e es) ≡ among e (filter q es)
among-filter q e passes [] h = rw passes refl
among-filter q e passes (f ∷ fs) h =
    elim (leb_tells (end_of e) (end_of f)) [
      | inl first ↦
          let low : AtLeast (end_of e) (f ∷ fs) = (first.1, AtLeast-less (end_of e) (end_of f) first.1 fs h.0) in
          rw (first.0) (rw passes (sym (among-first e (filter q (f ∷ fs)) (AtLeast-filter (end_of e) q (f ∷ fs) low))))
      | inr later ↦ elim (cases_Bool (q f)) [
        | inl also ↦ rw (later.0) (rw also (rw (later.0) (ap (λ xs. f ∷ xs) (among-filter q e passes fs h.1))))
        | inr fails ↦ rw (later.0) (rw fails (among-filter q e passes fs h.1))
      ]
    ]

-- an entry that does not pass leaves no trace
among-left_out : (q : Entry → Bool) (e : Entry) → q e ≡ false → (es : List Entry) → filter q (among e es) ≡ filter q es
among-left_out q e fails [] = rw fails refl
among-left_out q e fails (f ∷ fs) =
    elim (leb_tells (end_of e) (end_of f)) [
      | inl first ↦ rw (first.0) (rw fails refl)
      | inr later ↦ elim (cases_Bool (q f)) [
        | inl also ↦ rw (later.0) (rw also (ap (λ xs. f ∷ xs) (among-left_out q e fails fs)))
        | inr not_either ↦ rw (later.0) (rw not_either (among-left_out q e fails fs))
      ]
    ]

by_deadline-filter : (q : Entry → Bool) (es : List Entry) → by_deadline (filter q es) ≡ filter q (by_deadline es)
unfolding by_deadline
by_deadline-filter q [] = refl
by_deadline-filter q (e ∷ es) =
    elim (cases_Bool (q e)) [
      | inl passes ↦
          rw passes (ap (among e) (by_deadline-filter q es) ∙ sym (among-filter q e passes (by_deadline es) (InOrder-by_deadline es)))
      | inr fails ↦ rw fails (by_deadline-filter q es ∙ sym (among-left_out q e fails (by_deadline es)))
    ]

-- ---- Entries as they are shown

abbrev some_entry : Entry → Option Entry
some_entry e = Some e

module _ (g : Entry → Entry) (a : GoesAlong g) where
  abbrev c : IsCorrection g
  c = a.corrects

  place-shown : (e : Entry) → place_of (g e) ≡ place_of e
  place-shown e = ap key_number (c.key e)

  with_entry-shown : (e : Entry) (es : List Entry) → with_entry (g e) (map g es) ≡ map g (with_entry e es)
  with_entry-shown e [] = refl
  with_entry-shown e (f ∷ fs) =
      let first = place-shown e in
      let second = place-shown f in
      elim (cases_lt (place_of e) (place_of f)) [
        | inl lt ↦ with_entry-before (g e) (g f) (map g fs) (omega arith) ∙ sym (ap (map g) (with_entry-before e f fs lt))
        | inr ge ↦ elim (cases_lt (place_of f) (place_of e)) [
          | inl gt ↦
              with_entry-after (g e) (g f) (map g fs) (omega arith)
              ∙ ap (λ xs. g f ∷ xs) (with_entry-shown e fs)
              ∙ sym (ap (map g) (with_entry-after e f fs gt))
          | inr le ↦
              let same : place_of e ≡ place_of f = omega arith in
              with_entry-same (g e) (g f) (map g fs) (omega arith) ∙ sym (ap (map g) (with_entry-same e f fs same))
        ]
      ]

  -- ---- Hits and counts

  rank-shown : (e : Entry) → rank (g e) ≡ rank e
  unfolding rank
  rank-shown e = ap (λ (k : Key). if is_exact (fields_in k.matching) then 65536 + k.priority else k.priority) (c.key e)

  better-shown : (e : Entry) (o : Option Entry) → better (g e) (option_map g o) ≡ option_map g (better e o)
  better-shown e None = refl
  better-shown e (Some f) =
      elim (cases_Bool (nat_lt (rank e) (rank f))) [
        | inl less ↦ rw (rank-shown e, rank-shown f, less) refl
        | inr not_less ↦ rw (rank-shown e, rank-shown f, not_less) refl
      ]

  pub best-shown : (k : PacketKey) (es : List Entry) → best k (map g es) ≡ option_map g (best k es)
  unfolding best
  best-shown k [] = refl
  best-shown k (e ∷ es) =
      let at : is_covering (g e).key.matching k ≡ is_covering e.key.matching k = ap (λ (l : Key). is_covering l.matching k) (c.key e) in
      elim (cases_Bool (is_covering e.key.matching k)) [
        | inl covers ↦ rw (at ∙ covers, covers) (ap (better (g e)) (best-shown k es) ∙ better-shown e (best k es))
        | inr other ↦ rw (at ∙ other, other) (best-shown k es)
      ]

  counted-shown : (len now : ℕ) (e : Entry) → counted len now (g e) ≡ g (counted len now e)
  counted-shown len now e = ap (with_use now) (a.counters 1 len e) ∙ a.used_now now (with_counters 1 len e)

  hit_by-shown : (o : Option Entry) (len now : ℕ) (es : List Entry) → hit_by (option_map g o) len now (map g es) ≡ map g (hit_by o len now es)
  hit_by-shown None len now es = refl
  hit_by-shown (Some e) len now es =
      ap (λ x. with_entry x (map g es)) (counted-shown len now e) ∙ with_entry-shown (counted len now e) es

  pub hit-shown : (k : PacketKey) (len now : ℕ) (es : List Entry) → hit k len now (map g es) ≡ map g (hit k len now es)
  unfolding hit
  hit-shown k len now es =
      ap (λ o. hit_by o len now (map g es)) (best-shown k es) ∙ hit_by-shown (best k es) len now es

  more-shown : (priority packets bytes : ℕ) (e : Entry) → with_more priority packets bytes (g e) ≡ g (with_more priority packets bytes e)
  more-shown priority packets bytes e =
      let at : ((g e).key.priority == priority) ≡ (e.key.priority == priority) = ap (λ (k : Key). k.priority == priority) (c.key e) in
      elim (cases_Bool (e.key.priority == priority)) [
        | inl same ↦ rw (at ∙ same, same) (a.counters packets bytes e)
        | inr other ↦ rw (at ∙ other, other) refl
      ]

  pub counts-shown : (priority packets bytes : ℕ) (es : List Entry) → with_counts priority packets bytes (map g es) ≡ map g (with_counts priority packets bytes es)
  unfolding with_counts
  counts-shown priority packets bytes es =
      map-shown (with_more priority packets bytes) g (more-shown priority packets bytes) es

  -- ---- Expiry, where the entries and what is shown of them go together

  due-shown : (now : ℕ) (e : Entry) → GoesWith g e → is_due now (g e) ≡ is_due now e
  unfolding is_due
  due-shown now e h = ap (has_come now) h.deadline

  end-shown : (e : Entry) → GoesWith g e → end_of (g e) ≡ end_of e
  unfolding end_of
  end-shown e h = ap moment_of h.deadline

  staying-shown : (now : ℕ) (es : List Entry) → GoTogether g es → filter (λ e. not (is_due now e)) (map g es) ≡ map g (filter (λ e. not (is_due now e)) es)
  staying-shown now [] all = refl
  staying-shown now (e ∷ es) all =
      elim (cases_Bool (is_due now e)) [
        | inl due ↦ rw (due-shown now e all.0, due) (staying-shown now es all.1)
        | inr stays ↦ rw (due-shown now e all.0, stays) (ap (λ xs. g e ∷ xs) (staying-shown now es all.1))
      ]

  pub expire-shown : (now : ℕ) (t : TableState) → GoTogether g t.entries → expire now (corrected g t) ≡ corrected g (expire now t)
  unfolding expire
  expire-shown now t all = ap (λ (es : List Entry). record t { entries = es }) (staying-shown now t.entries all)

  among-shown : (e : Entry) → GoesWith g e → (es : List Entry) → GoTogether g es → among (g e) (map g es) ≡ map g (among e es)
  among-shown e h [] all = refl
  among-shown e h (f ∷ fs) all =
      elim (cases_Bool (nat_le (end_of e) (end_of f))) [
        | inl first ↦ rw (end-shown e h, end-shown f all.0, first) refl
        | inr later ↦ rw (end-shown e h, end-shown f all.0, later) (ap (λ xs. g f ∷ xs) (among-shown e h fs all.1))
      ]

  together-among : (e : Entry) → GoesWith g e → (es : List Entry) → GoTogether g es → GoTogether g (among e es)
  together-among e h [] all = (h, tt)
  together-among e h (f ∷ fs) all =
      elim (cases_Bool (nat_le (end_of e) (end_of f))) [
        | inl first ↦ rw first (h, all)
        | inr later ↦ rw later (all.0, together-among e h fs all.1)
      ]

  together-by_deadline : (es : List Entry) → GoTogether g es → GoTogether g (by_deadline es)
  unfolding by_deadline
  together-by_deadline [] all = tt
  together-by_deadline (e ∷ es) all = together-among e all.0 (by_deadline es) (together-by_deadline es all.1)

  together-filter : (q : Entry → Bool) (es : List Entry) → GoTogether g es → GoTogether g (filter q es)
  together-filter q [] all = tt
  together-filter q (e ∷ es) all =
      elim (cases_Bool (q e)) [
        | inl passes ↦ rw passes (all.0, together-filter q es all.1)
        | inr fails ↦ rw fails (together-filter q es all.1)
      ]

  by_deadline-shown : (es : List Entry) → GoTogether g es → by_deadline (map g es) ≡ map g (by_deadline es)
  unfolding by_deadline
  by_deadline-shown [] all = refl
  by_deadline-shown (e ∷ es) all =
      ap (among (g e)) (by_deadline-shown es all.1) ∙ among-shown e all.0 (by_deadline es) (together-by_deadline es all.1)

  abbrev asks : Entry → Bool
  asks = asks_shown g

  -- those that go and whose owners asked
  going-shown : (now : ℕ) (es : List Entry) → GoTogether g es → filter (λ e. is_due now e && asks_notice e.flags) (map g es) ≡ map g (filter asks (filter (is_due now) es))
  going-shown now [] all = refl
  going-shown now (e ∷ es) all =
      elim (cases_Bool (is_due now e)) [
        | inl due ↦ elim (cases_Bool (asks e)) [
          | inl asked ↦ rw (due-shown now e all.0, due, asked) (ap (λ xs. g e ∷ xs) (going-shown now es all.1))
          | inr not_asked ↦ rw (due-shown now e all.0, due, not_asked) (going-shown now es all.1)
        ]
        | inr stays ↦ rw (due-shown now e all.0, stays) (going-shown now es all.1)
      ]

  -- those that go, where a notice of each is asked for
  going-all : (now : ℕ) (es : List Entry) → AskAll es → filter (λ e. is_due now e && asks_notice e.flags) es ≡ filter (is_due now) es
  going-all now [] all = refl
  going-all now (e ∷ es) all =
      elim (cases_Bool (is_due now e)) [
        | inl due ↦ rw (due, all.0) (ap (λ xs. e ∷ xs) (going-all now es all.1))
        | inr stays ↦ rw stays (going-all now es all.1)
      ]

  tells-shown : (es : List Entry) → GoTogether g es → map (λ e. notice_at (deadline e) e) (map g es) ≡ map (λ e. notice_at (deadline e) (g e)) es
  tells-shown [] all = refl
  tells-shown (e ∷ es) all =
      ap₂ (λ (d : Option (ℕ × Reason)) xs. notice_at d (g e) ∷ xs) (all.0).deadline (tells-shown es all.1)

  -- Of the entries that go those are shown in notices whose owners asked for them, in the same order, each as it is shown.
  pub expiry-shown : (now : ℕ) (es : List Entry) → GoTogether g es → expiry_notices now (map g es) ≡ map (λ e. notice_at (deadline e) (g e)) (filter asks (by_deadline (filter (is_due now) es)))
  unfolding expiry_notices
  expiry-shown now es all =
      let going : List Entry = filter (is_due now) es in
      let asked : List Entry = filter asks going in
      ap (λ xs. map (λ e. notice_at (deadline e) e) (by_deadline xs)) (going-shown now es all)
      ∙ ap (map (λ e. notice_at (deadline e) e)) (by_deadline-shown asked (together-filter asks going (together-filter (is_due now) es all)))
      ∙ tells-shown (by_deadline asked) (together-by_deadline asked (together-filter asks going (together-filter (is_due now) es all)))
      ∙ ap (map (λ e. notice_at (deadline e) (g e))) (by_deadline-filter asks going)

  -- The switch itself, of which a notice of each entry is asked for, tells all that go.
  pub expiry-all : (now : ℕ) (es : List Entry) → AskAll es → expiry_notices now es ≡ map (λ e. notice_at (deadline e) e) (by_deadline (filter (is_due now) es))
  unfolding expiry_notices
  expiry-all now es all = ap (λ xs. map (λ e. notice_at (deadline e) e) (by_deadline xs)) (going-all now es all)

  -- ---- Frames

  outputs-shown : (in_port : ℕ) (outs : List (ℕ × List ℕ)) (s : SwitchState) → after_outputs in_port outs (corrected_switch g s) ≡ corrected_switch g (after_outputs in_port outs s)
  unfolding after_outputs
  outputs-shown in_port [] s = refl
  outputs-shown in_port (out ∷ outs) s = outputs-shown in_port outs (after_output in_port out s)

  hit_outputs-shown : (o : Option Entry) (frame : List ℕ) → hit_outputs (option_map g o) frame ≡ hit_outputs o frame
  hit_outputs-shown None frame = refl
  hit_outputs-shown (Some e) frame = ap (λ (actions : List Action). hit_outputs (some_entry (record e { actions = actions })) frame) (c.actions e)

  hit_count-shown : (o : Option Entry) → hit_count (option_map g o) ≡ hit_count o
  hit_count-shown None = refl
  hit_count-shown (Some e) = refl

  counts_of-shown : (in_port : ℕ) (frame : List ℕ) (s : SwitchState) → after_counts in_port frame (corrected_switch g s) ≡ corrected_switch g (after_counts in_port frame s)
  unfolding after_counts
  counts_of-shown in_port frame s =
      ap₂ (λ (es : List Entry) (n : ℕ). record s { table = record s.table { entries = es }; lookups = plus s.lookups 1; matched = plus s.matched n })
      (hit-shown (key_of in_port frame) (length frame) s.moment s.table.entries)
      (ap hit_count (best-shown (key_of in_port frame) s.table.entries) ∙ hit_count-shown (entry_hit in_port frame s))

  lookup-shown : (in_port : ℕ) (frame : List ℕ) (s : SwitchState) → after_lookup in_port frame (corrected_switch g s) ≡ corrected_switch g (after_lookup in_port frame s)
  unfolding after_lookup
  lookup-shown in_port frame s =
      ap₂ (λ outs t. after_outputs in_port outs t)
      (ap (λ o. hit_outputs o frame) (best-shown (key_of in_port frame) s.table.entries) ∙ hit_outputs-shown (entry_hit in_port frame s) frame)
      (counts_of-shown in_port frame s)
      ∙ outputs-shown in_port (hit_outputs (entry_hit in_port frame s) frame) (after_counts in_port frame s)

  frame-shown : (port : ℕ) (bytes : List ℕ) (s : SwitchState) → after_frame port bytes (corrected_switch g s) ≡ corrected_switch g (after_frame port bytes s)
  unfolding after_frame
  frame-shown port bytes s =
      elim (cases_Bool (takes (port_at port s.ports))) [
        | inl taken ↦ rw taken (lookup-shown port bytes (after_arrival port bytes s))
        | inr dropped ↦ rw dropped refl
      ]

  sent_by_hit-shown : (port : ℕ) (bytes : List ℕ) (s : SwitchState) (o : Option Entry) → sent_by_hit port bytes s.ports (option_map g o) ≡ sent_by_hit port bytes s.ports o
  sent_by_hit-shown port bytes s None = refl
  sent_by_hit-shown port bytes s (Some e) = ap (λ (actions : List Action). sent_by_hit port bytes s.ports (some_entry (record e { actions = actions }))) (c.actions e)

  lookup_sent-shown : (port : ℕ) (bytes : List ℕ) (s : SwitchState) → sent_by_lookup port bytes (corrected_switch g s) ≡ sent_by_lookup port bytes s
  unfolding sent_by_lookup
  lookup_sent-shown port bytes s =
      ap (λ o. sent_by_hit port bytes s.ports o) (best-shown (key_of port bytes) s.table.entries)
      ∙ sent_by_hit-shown port bytes s (entry_hit port bytes s)

  frame_sent-shown : (port : ℕ) (bytes : List ℕ) (s : SwitchState) → sent_by_frame port bytes (corrected_switch g s) ≡ sent_by_frame port bytes s
  unfolding sent_by_frame
  frame_sent-shown port bytes s =
      elim (cases_Bool (takes (port_at port s.ports))) [
        | inl taken ↦ rw taken (lookup_sent-shown port bytes s)
        | inr dropped ↦ rw dropped refl
      ]

  -- ---- A PACKET_OUT: what goes to TABLE is looked up as a frame is

  packet_output-shown : (in_port : ℕ) (out : ℕ × List ℕ) (s : SwitchState) → after_packet_output in_port out (corrected_switch g s) ≡ corrected_switch g (after_packet_output in_port out s)
  unfolding after_packet_output
  packet_output-shown in_port out s =
      elim (cases_Bool (out.0 == 0xfff9)) [
        | inl table ↦ rw table (lookup-shown in_port out.1 s)
        | inr other ↦ rw other refl
      ]

  packet_outputs-shown : (in_port : ℕ) (outs : List (ℕ × List ℕ)) (s : SwitchState) → after_packet_outputs in_port outs (corrected_switch g s) ≡ corrected_switch g (after_packet_outputs in_port outs s)
  unfolding after_packet_outputs
  packet_outputs-shown in_port [] s = refl
  packet_outputs-shown in_port (out ∷ outs) s =
      ap (after_packet_outputs in_port outs) (packet_output-shown in_port out s) ∙ packet_outputs-shown in_port outs (after_packet_output in_port out s)

  packet_output_sent-shown : (in_port : ℕ) (out : ℕ × List ℕ) (s : SwitchState) → sent_by_packet_output in_port out (corrected_switch g s) ≡ sent_by_packet_output in_port out s
  unfolding sent_by_packet_output
  packet_output_sent-shown in_port out s =
      elim (cases_Bool (out.0 == 0xfff9)) [
        | inl table ↦ rw table (lookup_sent-shown in_port out.1 s)
        | inr other ↦ rw other refl
      ]

  packet_outputs_sent-shown : (in_port : ℕ) (outs : List (ℕ × List ℕ)) (s : SwitchState) → sent_by_packet_outputs in_port outs (corrected_switch g s) ≡ sent_by_packet_outputs in_port outs s
  unfolding sent_by_packet_outputs
  packet_outputs_sent-shown in_port [] s = refl
  packet_outputs_sent-shown in_port (out ∷ outs) s =
      ap₂ (λ (xs ys : List (List ℕ)). xs ++ ys) (packet_output_sent-shown in_port out s)
      (ap (sent_by_packet_outputs in_port outs) (packet_output-shown in_port out s) ∙ packet_outputs_sent-shown in_port outs (after_packet_output in_port out s))

  unless-shown : (o : Option OfError) (before after : SwitchState) → unless_refused o (corrected_switch g before) (corrected_switch g after) ≡ corrected_switch g (unless_refused o before after)
  unless-shown None before after = refl
  unless-shown (Some e) before after = refl

  -- A packet does to the switch what it does to what is shown,
  pub packet-shown : (p : Packet) (s : SwitchState) → after_message (PacketOut p) (corrected_switch g s) ≡ corrected_switch g (after_message (PacketOut p) s)
  unfolding after_message message_refusal after_taken
  packet-shown p s =
      ap (unless_refused (packet_out_refusal s.had p) (corrected_switch g s)) (packet_outputs-shown p.in_port _ s)
      ∙ unless-shown (packet_out_refusal s.had p) s (after_packet_out p s)

  answered-shown : (xid : ℕ) (p : Packet) (s : SwitchState) (o : Option OfError) → answered xid (PacketOut p) (corrected_switch g s) o ≡ answered xid (PacketOut p) s o
  unfolding sent_by_taken
  answered-shown xid p s None = packet_outputs_sent-shown p.in_port _ s
  answered-shown xid p s (Some e) = refl

  -- and what the switch sends for it is the same.
  pub packet_sent-shown : (xid : ℕ) (p : Packet) (s : SwitchState) → sent_by_message xid (PacketOut p) (corrected_switch g s) ≡ sent_by_message xid (PacketOut p) s
  unfolding sent_by_message message_refusal
  packet_sent-shown xid p s = answered-shown xid p s (packet_out_refusal s.had p)

  -- ---- Stimuli

  port-shown : (port : ℕ) (change : PortChange) (s : SwitchState) → after_port_change port change (corrected_switch g s) ≡ corrected_switch g (after_port_change port change s)
  unfolding after_port_change
  port-shown port changes.Up s = refl
  port-shown port changes.Down s = refl
  port-shown port changes.Add s = elim (cases_Bool (can_add port s.ports)) [ inl can ↦ rw can refl | inr cannot ↦ rw cannot refl ]
  port-shown port changes.Delete s = refl

  port_sent-shown : (port : ℕ) (change : PortChange) (s : SwitchState) → sent_by_port_change port change (corrected_switch g s) ≡ sent_by_port_change port change s
  unfolding sent_by_port_change
  port_sent-shown port changes.Up s = refl
  port_sent-shown port changes.Down s = refl
  port_sent-shown port changes.Add s = refl
  port_sent-shown port changes.Delete s = refl

  -- What happens to the switch happens to what is shown; where time passes, if both go together.
  pub moment-shown : (moment : ℕ) (s : SwitchState) → GoTogether g s.table.entries → after_stimulus (Advance moment) (corrected_switch g s) ≡ corrected_switch g (after_stimulus (Advance moment) s)
  unfolding after_stimulus
  moment-shown moment s all = ap (λ t. record s { moment = moment; table = t }) (expire-shown moment s.table all)

  pub stimulus-shown : (x : Stimulus) (s : SwitchState) → IsNoMoment x → after_stimulus x (corrected_switch g s) ≡ corrected_switch g (after_stimulus x s)
  unfolding after_stimulus
  stimulus-shown (Frame port bytes) s h = frame-shown port bytes s
  stimulus-shown (Advance moment) s h = absurd h
  stimulus-shown (Port port change) s h = port-shown port change s
  stimulus-shown (Counts priority packets bytes) s h =
      ap (λ (es : List Entry). record s { table = record s.table { entries = es } }) (counts-shown priority packets bytes s.table.entries)
  stimulus-shown (Raw bytes) s h = refl

  -- but for a moment, what it sends is the same
  pub sent-shown : (x : Stimulus) (s : SwitchState) → IsNoMoment x → sent_by_stimulus x (corrected_switch g s) ≡ sent_by_stimulus x s
  unfolding sent_by_stimulus
  sent-shown (Frame port bytes) s h = frame_sent-shown port bytes s
  sent-shown (Port port change) s h = port_sent-shown port change s
  sent-shown (Counts priority packets bytes) s h = refl
  sent-shown (Raw bytes) s h = refl
  sent-shown (Advance moment) s h = absurd h

-- ---- A table that is given back. It is shown as the earlier one was shown, given back out of the later one as that is shown.

used-shown : (g : Entry → Entry) → IsCorrection g → GoesAlong g → (now serial : ℕ) (es : List Entry) → used_or now serial (map g es) ≡ used_or now serial es
used-shown g c a now serial [] = refl
used-shown g c a now serial (e ∷ es) =
    elim (cases_Bool (e.serial == serial)) [
      | inl same ↦ rw (c.serial e, same) (a.used e)
      | inr other ↦ rw (c.serial e, other) (used-shown g c a now serial es)
    ]

restored-shown : (f g : Entry → Entry) → GoesAlong f → GoesAlong g → (now : ℕ) (before after : List Entry) → map (restored now (map g after)) (map f before) ≡ map f (map (restored now after) before)
restored-shown f g along also now [] after = refl
restored-shown f g along also now (e ∷ es) after =
    let serial = along.corrects.serial e in
    let used : used_or now (f e).serial (map g after) ≡ used_or now e.serial after = ap (λ (n : ℕ). used_or now n (map g after)) serial ∙ used-shown g also.corrects also now e.serial after in
    ap₂ (λ (x : Entry) (xs : List Entry). x ∷ xs) (ap (λ (n : ℕ). with_use n (f e)) used ∙ along.used_now (used_or now e.serial after) e) (restored-shown f g along also now es after)

pub undone-shown : (f g : Entry → Entry) → GoesAlong f → GoesAlong g → (before after : TableState) (now : ℕ) → undone (corrected f before) (corrected g after) now ≡ corrected f (undone before after now)
unfolding undone
undone-shown f g along also before after now =
    ap (λ (es : List Entry). record { entries = es; next = after.next }) (restored-shown f g along also now before.entries after.entries)
