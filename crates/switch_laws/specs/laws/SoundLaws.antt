-- What follows about sound entries: a change and a packet that the engine sends, a stimulus and an undo keep them so, their notices are
-- messages, and the rows of their statistics are spelled and read again.
use Rattle.std.proofs.Common.{◌≡◌, ◌≢◌, ◌==◌, ℕ, ◌+◌, ◌*◌, ◌/◌, ◌%◌, ◌^◌, ◌<◌, ◌≤◌, Bool, true, false, not, ◌&&◌, ◌||◌, nat_lt, List, [], ◌∷◌, map, filter, Option, Some, None, refl, sym, ◌∙◌, subst, inl, inr, arith, true≢false}
use Rattle.std.proofs.lemmas.Bool.{cases_Bool, eq-eqb, eqb-true, ne_eqb, leb-true, ltb-false}
use Rattle.std.proofs.lemmas.Option.{same_Some}
use Rattle.of_types.specs.declared.errors.OfError.{OfError}
use Rattle.of_types.specs.declared.journal.PortChange.{PortChange}
use Rattle.of_types.specs.declared.journal.PortChange.TheVariants as changes
use Rattle.of_types.specs.declared.journal.Stimulus.{Stimulus}
use Rattle.of_types.specs.declared.journal.Stimulus.TheVariants.{Frame, Advance, Port, Counts, Raw}
use Rattle.of_match.specs.declared.packet_key.PacketKey.{PacketKey}
use Rattle.of_match.specs.Covers.{is_covering}
use Rattle.eth_key.specs.PacketFields.{key_of}
use Rattle.of_wire.specs.declared.bodies.FlowMod.{FlowMod as Change}
use Rattle.of_wire.specs.declared.bodies.PacketOut.{PacketOut as Packet}
use Rattle.of_wire.specs.declared.message.Message.TheVariants.{FlowMod, FlowRemoved, PacketOut}
use Rattle.of_wire.specs.Spelling.{message_size}
use Rattle.of_wire.specs.Grammar.{IsMessage}
use Rattle.of_action.specs.Spelling.{list_size}
use Rattle.of_stats.specs.Flows.{IsRow, AreRows}
use Rattle.flow_timeouts.specs.declared.timeouts.Reason.{Reason}
use Rattle.flow_timeouts.specs.declared.timeouts.Reason.TheVariants as reasons
use Rattle.flow_table.specs.declared.entry.Entry.{Entry}
use Rattle.flow_table.specs.Table.{TableState, place_of, with_entry}
use Rattle.flow_table.specs.Change.{is_modify, is_delete, refusal, describes, adds, deletes, modified, new_entry, entries_after, changed, unless_refused}
use Rattle.flow_table.specs.laws.ChangeLaws.{entries_after-adds, entries_after-modify, entries_after-delete, is_delete-modify}
use Rattle.flow_table.specs.Hit.{rank, best, better, counted, hit, hit_by, with_more, with_counts}
use Rattle.flow_table.specs.Expiry.{deadline, has_come, is_due, reason_number, notice_at, expire}
use Rattle.flow_table.specs.Undone.{restored, undone}
use Rattle.flow_table.specs.Switch.{SwitchState, port_at}
use Rattle.flow_table.specs.Refusals.{or_else, most_action_bytes, is_emergency, no_buffer, flow_actions_refusal, flow_refusal, message_refusal}
use Rattle.flow_table.specs.Statistics.{flow_row}
use Rattle.flow_table.specs.Frames.{after_output, after_outputs, after_counts, after_lookup, hit_outputs, entry_hit, after_packet_output, after_packet_outputs, after_packet_out, takes, after_arrival, after_frame}
use Rattle.flow_table.specs.Step.{flow_removed, can_add, after_taken, after_message, after_port_change, after_stimulus}
use Rattle.lego_model.specs.Answers.{as_sent, with_notice}
use Rattle.net_txn.specs.laws.RowLaws.{sent, known_if}
use Rattle.net_txn.specs.AskSteps.{own_rows}
use Rattle.switch_laws.specs.Sound.{SoundEntry, AllSound}
use Rattle.switch_laws.specs.laws.ShownChangeLaws.{addition_passed}

-- ---- Lists

sound-with : (e : Entry) (es : List Entry) → SoundEntry e → AllSound es → AllSound (with_entry e es)
sound-with e [] is all = (is, tt)
sound-with e (f ∷ fs) is all =
    elim (cases_Bool (nat_lt (place_of e) (place_of f))) [
      | inl before ↦ rw before (is, all)
      | inr behind ↦ elim (cases_Bool (place_of e == place_of f)) [
        | inl there ↦ rw (behind, there) (is, all.1)
        | inr apart ↦ rw (behind, apart) (all.0, sound-with e fs is all.1)
      ]
    ]

sound-filter : (p : Entry → Bool) (es : List Entry) → AllSound es → AllSound (filter p es)
sound-filter p [] all = tt
sound-filter p (e ∷ es) all =
    elim (cases_Bool (p e)) [
      | inl passes ↦ rw passes (all.0, sound-filter p es all.1)
      | inr fails ↦ rw fails (sound-filter p es all.1)
    ]

sound-map : (g : Entry → Entry) → ((e : Entry) → SoundEntry e → SoundEntry (g e)) → (es : List Entry) → AllSound es → AllSound (map g es)
sound-map g keeps [] all = tt
sound-map g keeps (e ∷ es) all = (keeps e all.0, sound-map g keeps es all.1)

-- ---- A change as it is sent

-- an addition or a modification that a switch lets pass has no more bytes of actions than a row can show
abbrev Fits : Change → Type 0
Fits m = is_delete m ≡ false → list_size m.actions ≤ most_action_bytes

both_none : (a b : Option OfError) → or_else a b ≡ None → a ≡ None
both_none None b h = refl
both_none (Some e) b h = absurd cc

actions-fit : (had : List ℕ) (m : Change) → flow_actions_refusal had m ≡ None → list_size m.actions ≤ most_action_bytes
unfolding flow_actions_refusal
actions-fit had m h =
    let short : nat_lt most_action_bytes (list_size m.actions) ≡ false = known_if (not (m.buffer_id == no_buffer)) (nat_lt most_action_bytes (list_size m.actions)) _ _ _ h in
    ltb-false most_action_bytes (list_size m.actions) short

change-fits : (had : List ℕ) (m : Change) → flow_refusal had m ≡ None → Fits m
unfolding flow_refusal
change-fits had m h other = actions-fit had m (addition_passed (is_emergency m.flags) (nat_lt 4 m.command) (is_delete m) _ _ _ h other)

sent-fits : (m : Change) (s : SwitchState) → message_refusal s (as_sent (FlowMod m)) ≡ None → Fits m
unfolding message_refusal
sent-fits m s h = change-fits s.had (sent m) (both_none (flow_refusal s.had (sent m)) (refusal s.declared.cap (sent m) s.table.entries) h)

-- what puts an entry in or changes one is no DELETE
puts_no_delete : (add one two three four x : Bool) → (add ≡ true → three ≡ false) → (add ≡ true → four ≡ false) → (one ≡ true → three ≡ false) → (one ≡ true → four ≡ false) → (two ≡ true → three ≡ false) → (two ≡ true → four ≡ false)
    → (add || ((one || two) && x)) ≡ true → (three || four) ≡ false
puts_no_delete true one two three four x a b c d e f h = rw (a refl, b refl) refl
puts_no_delete false true two three four x a b c d e f h = rw (c refl, d refl) refl
puts_no_delete false false true three four x a b c d e f h = rw (e refl, f refl) refl
puts_no_delete false false false three four x a b c d e f h = absurd (true≢false (sym h))

other_than : (a b n : ℕ) → a ≢ b → (n == a) ≡ true → (n == b) ≡ false
other_than a b n apart is = ne_eqb n b (λ same. apart (sym (eqb-true n a is) ∙ same))

-- by its number, for ADD, MODIFY or MODIFY_STRICT
no_delete : (m : Change) (x : Bool) → (m.command == 0 || (is_modify m && x)) ≡ true → is_delete m ≡ false
no_delete m x h =
    puts_no_delete (m.command == 0) (m.command == 1) (m.command == 2) (m.command == 3) (m.command == 4) x (other_than 0 3 m.command (λ e. omega (arith, e))) (other_than 0 4 m.command (λ e. omega (arith, e)))
    (other_than 1 3 m.command (λ e. omega (arith, e))) (other_than 1 4 m.command (λ e. omega (arith, e))) (other_than 2 3 m.command (λ e. omega (arith, e))) (other_than 2 4 m.command (λ e. omega (arith, e))) h

adds-no_delete : (m : Change) (es : List Entry) → adds (sent m) es ≡ true → is_delete m ≡ false
unfolding adds
adds-no_delete m es h = no_delete m _ h

notice-asked : (flags : ℕ) → (with_notice flags % 2 % 2 == 1) ≡ true
notice-asked flags = let one : (flags / 2 * 2 + 1) % 2 % 2 ≡ 1 = omega arith in eq-eqb ((flags / 2 * 2 + 1) % 2 % 2) 1 one

new-sound : (now serial : ℕ) (m : Change) → IsMessage (FlowMod m) → list_size m.actions ≤ most_action_bytes → SoundEntry (new_entry now serial (sent m))
unfolding new_entry
new-sound now serial m is fits =
    let f = is.fields in
    record {
      asks = notice-asked m.flags;
      priority = f.1.1.1.1.0;
      cookie = f.0;
      idle = f.1.1.0;
      hard = f.1.1.1.0;
      packets = omega arith;
      bytes = omega arith;
      actions = is.tail;
      size = fits;
    }

modified-sound : (m : Change) (e : Entry) → IsMessage (FlowMod m) → list_size m.actions ≤ most_action_bytes → SoundEntry e → SoundEntry (modified m e)
modified-sound m e message fits is =
    elim (cases_Bool (describes m e.key)) [
      | inl meets ↦ rw meets (record { asks = is.asks; priority = is.priority; cookie = is.cookie; idle = is.idle; hard = is.hard; packets = is.packets; bytes = is.bytes; actions = message.tail; size = fits })
      | inr other ↦ rw other is
    ]

-- the modification is met as it is sent
sent-sound : (m : Change) (e : Entry) → IsMessage (FlowMod m) → list_size m.actions ≤ most_action_bytes → SoundEntry e → SoundEntry (modified (sent m) e)
unfolding describes
sent-sound m e message fits is = modified-sound m e message fits is

entries-sound : (now serial : ℕ) (m : Change) (es : List Entry) → IsMessage (FlowMod m) → Fits m → AllSound es → AllSound (entries_after now serial (sent m) es)
entries-sound now serial m es is fits all =
    elim (cases_Bool (adds (sent m) es)) [
      | inl puts ↦ subst AllSound (sym (entries_after-adds now serial (sent m) es puts)) (sound-with (new_entry now serial (sent m)) es (new-sound now serial m is (fits (adds-no_delete m es puts))) all)
      | inr keeps ↦ elim (cases_Bool (is_modify (sent m))) [
        | inl modifies ↦ subst AllSound (sym (entries_after-modify now serial (sent m) es keeps modifies)) (sound-map (modified (sent m)) (λ e one. sent-sound m e is (fits (is_delete-modify m modifies)) one) es all)
        | inr removes ↦ subst AllSound (sym (entries_after-delete now serial (sent m) es keeps removes)) (sound-filter (λ e. not (deletes (sent m) e)) es all)
      ]
    ]

unless-sound : (o : Option OfError) (before after : SwitchState) → AllSound before.table.entries → (o ≡ None → AllSound after.table.entries) → AllSound (unless_refused o before after).table.entries
unless-sound None before after b a = a refl
unless-sound (Some e) before after b a = b

-- A change that the engine sends keeps the entries sound.
pub change-sound : (m : Change) (s : SwitchState) → IsMessage (FlowMod m) → AllSound s.table.entries → AllSound (after_message (as_sent (FlowMod m)) s).table.entries
unfolding after_message after_taken changed
change-sound m s is all =
    unless-sound (message_refusal s (as_sent (FlowMod m))) s (record s { table = record { entries = entries_after s.moment s.table.next (sent m) s.table.entries; next = (changed s.moment (sent m) s.table).next } }) all
    (λ passed. entries-sound s.moment s.table.next m s.table.entries is (sent-fits m s passed) all)

-- ---- Stimuli

best-sound : (k : PacketKey) (es : List Entry) → AllSound es → (e : Entry) → best k es ≡ Some e → SoundEntry e
unfolding best
best-sound k [] all e is = absurd cc
best-sound k (f ∷ fs) all e is =
    elim (cases_Bool (is_covering f.key.matching k)) [
      | inl covers ↦ better-sound f (best k fs) e all.0 (λ g here. best-sound k fs all.1 g here) (rw covers at is)
      | inr other ↦ best-sound k fs all.1 e (rw other at is)
    ]
  where
    better-sound : (f : Entry) (o : Option Entry) (e : Entry) → SoundEntry f → ((g : Entry) → o ≡ Some g → SoundEntry g) → better f o ≡ Some e → SoundEntry e
    better-sound f None e first rest is = subst SoundEntry (same_Some f e is) first
    better-sound f (Some g) e first rest is =
        elim (cases_Bool (nat_lt (rank f) (rank g))) [
          | inl less ↦ subst SoundEntry (same_Some g e (rw less at is)) (rest g refl)
          | inr not_less ↦ subst SoundEntry (same_Some f e (rw not_less at is)) first
        ]

below : (n : ℕ) → n % 2 ^ 64 < 2 ^ 64
below n = omega arith

hit_by-sound : (o : Option Entry) (len now : ℕ) (es : List Entry) → ((e : Entry) → o ≡ Some e → SoundEntry e) → AllSound es → AllSound (hit_by o len now es)
hit_by-sound None len now es one all = all
hit_by-sound (Some e) len now es one all =
    let is = one e refl in
    sound-with (counted len now e) es (record { asks = is.asks; priority = is.priority; cookie = is.cookie; idle = is.idle; hard = is.hard; packets = below (e.packets + 1); bytes = below (e.bytes + len); actions = is.actions; size = is.size }) all

hit-sound : (k : PacketKey) (len now : ℕ) (es : List Entry) → AllSound es → AllSound (hit k len now es)
unfolding hit
hit-sound k len now es all = hit_by-sound (best k es) len now es (best-sound k es all) all

more-sound : (priority packets bytes : ℕ) (e : Entry) → SoundEntry e → SoundEntry (with_more priority packets bytes e)
more-sound priority packets bytes e is =
    elim (cases_Bool (e.key.priority == priority)) [
      | inl same ↦ rw same (record { asks = is.asks; priority = is.priority; cookie = is.cookie; idle = is.idle; hard = is.hard; packets = below (e.packets + packets); bytes = below (e.bytes + bytes); actions = is.actions; size = is.size })
      | inr other ↦ rw other is
    ]

outputs-sound : (in_port : ℕ) (outs : List (ℕ × List ℕ)) (s : SwitchState) → AllSound s.table.entries → AllSound (after_outputs in_port outs s).table.entries
unfolding after_outputs
outputs-sound in_port [] s all = all
outputs-sound in_port (out ∷ outs) s all = outputs-sound in_port outs (after_output in_port out s) all

counts-sound : (in_port : ℕ) (frame : List ℕ) (s : SwitchState) → AllSound s.table.entries → AllSound (after_counts in_port frame s).table.entries
unfolding after_counts
counts-sound in_port frame s all = hit-sound (key_of in_port frame) _ s.moment s.table.entries all

lookup-sound : (in_port : ℕ) (frame : List ℕ) (s : SwitchState) → AllSound s.table.entries → AllSound (after_lookup in_port frame s).table.entries
unfolding after_lookup
lookup-sound in_port frame s all =
    outputs-sound in_port (hit_outputs (entry_hit in_port frame s) frame) (after_counts in_port frame s) (counts-sound in_port frame s all)

frame-sound : (port : ℕ) (bytes : List ℕ) (s : SwitchState) → AllSound s.table.entries → AllSound (after_frame port bytes s).table.entries
unfolding after_frame
frame-sound port bytes s all =
    elim (cases_Bool (takes (port_at port s.ports))) [
      | inl taken ↦ rw taken (lookup-sound port bytes (after_arrival port bytes s) all)
      | inr dropped ↦ rw dropped all
    ]

port-sound : (port : ℕ) (change : PortChange) (s : SwitchState) → AllSound s.table.entries → AllSound (after_port_change port change s).table.entries
unfolding after_port_change
port-sound port changes.Up s all = all
port-sound port changes.Down s all = all
port-sound port changes.Add s all = elim (cases_Bool (can_add port s.ports)) [ inl can ↦ rw can all | inr cannot ↦ rw cannot all ]
port-sound port changes.Delete s all = all

-- A stimulus keeps the entries sound.
pub stimulus-sound : (x : Stimulus) (s : SwitchState) → AllSound s.table.entries → AllSound (after_stimulus x s).table.entries
unfolding after_stimulus expire with_counts
stimulus-sound (Frame port bytes) s all = frame-sound port bytes s all
stimulus-sound (Advance moment) s all = sound-filter (λ e. not (is_due moment e)) s.table.entries all
stimulus-sound (Port port change) s all = port-sound port change s all
stimulus-sound (Counts priority packets bytes) s all = sound-map (with_more priority packets bytes) (more-sound priority packets bytes) s.table.entries all
stimulus-sound (Raw bytes) s all = all

-- ---- A packet

packet_output-sound : (in_port : ℕ) (out : ℕ × List ℕ) (s : SwitchState) → AllSound s.table.entries → AllSound (after_packet_output in_port out s).table.entries
unfolding after_packet_output
packet_output-sound in_port out s all =
    elim (cases_Bool (out.0 == 0xfff9)) [
      | inl table ↦ rw table (lookup-sound in_port out.1 s all)
      | inr other ↦ rw other all
    ]

packet_outputs-sound : (in_port : ℕ) (outs : List (ℕ × List ℕ)) (s : SwitchState) → AllSound s.table.entries → AllSound (after_packet_outputs in_port outs s).table.entries
unfolding after_packet_outputs
packet_outputs-sound in_port [] s all = all
packet_outputs-sound in_port (out ∷ outs) s all = packet_outputs-sound in_port outs (after_packet_output in_port out s) (packet_output-sound in_port out s all)

-- A packet that the engine releases keeps the entries sound.
pub packet-sound : (p : Packet) (s : SwitchState) → AllSound s.table.entries → AllSound (after_message (PacketOut p) s).table.entries
unfolding after_message after_taken
packet-sound p s all = unless-sound (message_refusal s (PacketOut p)) s (after_packet_out p s) all (λ passed. packet_outputs-sound p.in_port _ s all)

-- ---- An undo

restored-sound : (now : ℕ) (after : List Entry) (e : Entry) → SoundEntry e → SoundEntry (restored now after e)
restored-sound now after e is = record { asks = is.asks; priority = is.priority; cookie = is.cookie; idle = is.idle; hard = is.hard; packets = is.packets; bytes = is.bytes; actions = is.actions; size = is.size }

-- An undo gives back sound entries.
pub undone-sound : (before after : TableState) (now : ℕ) → AllSound before.entries → AllSound (undone before after now).entries
unfolding undone
undone-sound before after now all = sound-map (restored now after.entries) (restored-sound now after.entries) before.entries all

-- ---- Notices

reason-fits : (r : Reason) → reason_number r < 256 ^ 1
reason-fits reasons.Idle = omega arith
reason-fits reasons.Hard = omega arith

due-by : (now : ℕ) (e : Entry) → is_due now e ≡ true → has_come now (deadline e) ≡ true
unfolding is_due
due-by now e due = due

notice-by : (d : Option (ℕ × Reason)) (now : ℕ) (e : Entry) → SoundEntry e → now < 2 ^ 32 → has_come now d ≡ true → IsMessage (FlowRemoved (flow_removed (notice_at d e)))
unfolding message_size
notice-by None now e is within due = absurd (true≢false (sym due))
notice-by (Some d) now e is within due =
    let le : d.0 ≤ now = leb-true d.0 now due in
    record {
      fields = (is.cookie, (is.priority, (reason-fits d.1, (omega (arith, le, within), (omega arith, (is.idle, (is.packets, (is.bytes, tt))))))));
      tail = tt;
      size = omega arith;
    }

-- A notice of expiry of a sound entry is a message.
pub notice-message : (now : ℕ) (e : Entry) → SoundEntry e → now < 2 ^ 32 → is_due now e ≡ true → IsMessage (FlowRemoved (flow_removed (notice_at (deadline e) e)))
notice-message now e is within due = notice-by (deadline e) now e is within (due-by now e due)

-- ---- Rows

row-fits : (now : ℕ) (e : Entry) → SoundEntry e → now < 2 ^ 32 → IsRow (flow_row now e)
row-fits now e is within = record {
  fields = (omega (arith, within), (is.priority, (is.idle, (is.hard, (is.cookie, (is.packets, (is.bytes, tt)))))));
  actions = is.actions;
  size = omega (arith, is.size);
}

rows-fit : (now : ℕ) (es : List Entry) → AllSound es → now < 2 ^ 32 → AreRows (map (flow_row now) es)
rows-fit now [] all within = tt
rows-fit now (e ∷ es) all within = (row-fits now e all.0 within, rows-fit now es all.1 within)

-- A switch whose entries are sound has rows that are spelled and read again.
pub rows-are : (s : SwitchState) → AllSound s.table.entries → s.moment < 2 ^ 32 → AreRows (own_rows s)
rows-are s all within = rows-fit s.moment s.table.entries all within
