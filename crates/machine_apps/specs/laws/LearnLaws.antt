-- What a learning switch learns always stands in its checkpoint, so that it resumes there.
use Rattle.std.proofs.Common.{◌≡◌, ℕ, zero, suc, ◌+◌, ◌*◌, ◌/◌, ◌%◌, ◌^◌, ◌<◌, ◌≤◌, true, cond, ◌&&◌, ◌||◌, nat_lt, nat_le, List, [], ◌∷◌, length, drop, Option, Some, None, Result, Ok, Err, refl, sym, ap, subst, ◌∙◌, arith, inl, inr}
use Rattle.std.specs.Prelude.{is_some, ◌==◌}
use Rattle.std.specs.List.{AllByRecursion}
use Rattle.std.specs.List.Sorted.{IsStrictlySortedBy}
use Rattle.std.specs.declared.cmp.Ordering.{Ordering}
use Rattle.std.specs.declared.cmp.Ordering.TheVariants.{Less, Equal, Greater}
use Rattle.std.specs.Ordering.{nat_cmp, ordering_reverse, match_ordering, is_eq}
use Rattle.std.specs.Cmp.Lexicographic.{slice_cmp}
use Rattle.std.specs.BTreeMap.{insert_entry}
use Rattle.std.specs.Map.{keys_of}
use Rattle.std.proofs.lemmas.Cmp.{nat_list_cmp_total}
use Rattle.std.proofs.lemmas.Bool.{and_parts, cases_Bool, cond_both, false≢true}
use Rattle.std.proofs.lemmas.Option.{same_Some}
use Rattle.std.proofs.lemmas.Grind.{common_steps}
use Rattle.std.proofs.lemmas.List.{length-append, length-take-le, length-drop}
use Rattle.of_types.specs.Fields.{IsBytes, number_bytes, piece}
use Rattle.of_types.specs.laws.FieldLaws.{number_at-lt, length-number_bytes, length-piece, IsBytes-drop}
use Rattle.of_wire.specs.declared.bodies.PacketIn.{PacketIn}
use Rattle.of_wire.specs.declared.message.Message.{Message}
use Rattle.of_wire.specs.declared.message.Message.TheVariants as messages
use Rattle.of_wire.specs.declared.message.Envelope.{Envelope}
use Rattle.of_wire.specs.declared.fault.WireFault.{WireFault}
use Rattle.of_wire.specs.Reading.{reading_of}
use Rattle.of_wire.specs.Grammar.{IsMessage}
use Rattle.of_wire.specs.laws.GrammarLaws.{IsRead-reading_of}
use Rattle.app_frames.specs.Frames.{AppNumbers}
use Rattle.app_frames.specs.declared.frame.Event.{Event}
use Rattle.app_frames.specs.declared.frame.EventKind.{EventKind}
use Rattle.app_frames.specs.declared.frame.EventKind.TheVariants as kinds
use Rattle.app_objects.specs.Resuming.{IsMachine}
use Rattle.app_objects.specs.laws.ResumingLaws.{IsRead, IsMachine-by}
use Rattle.machine_apps.specs.Learn.{Rows, port_at, with_row, is_taken, source, rows_after_packet, sent_on, frames_for_packet, packet_in, packet_read, packet_if, packet_of, rows_by, frames_by, rows_after, frames_for}
use Rattle.machine_apps.specs.Checkpoint.{checkpoint_of, rows_in, with_rows, is_ascending, is_checkpoint, restored, answers_to, learn_would}
use Rattle.machine_apps.specs.laws.CheckpointLaws.{AreFields, AreRows, IsBelow, restored-checkpoint_of}

-- ---- A row in its place

all_below : (a b : List ℕ) (keys : List (List ℕ)) → IsBelow a b → AllByRecursion (IsBelow b) keys → AllByRecursion (IsBelow a) keys
all_below a b [] below all = tt
all_below a b (key ∷ keys) below all = (nat_list_cmp_total.trans a b key below all.0, all_below a b keys below all.1)

below_inserted : (a : List ℕ) (rows : Rows) (s : List ℕ) (port : ℕ) → IsBelow a s → AllByRecursion (IsBelow a) (keys_of rows) → AllByRecursion (IsBelow a) (keys_of (insert_entry (slice_cmp nat_cmp) rows s port))
below_inserted a [] s port below all = (below, tt)
below_inserted a (row ∷ rows) s port below all = by (slice_cmp nat_cmp s row.0) (below_inserted a rows s port below all.1)
  where
    by : (o : Ordering) → AllByRecursion (IsBelow a) (keys_of (insert_entry (slice_cmp nat_cmp) rows s port))
        → AllByRecursion (IsBelow a) (keys_of (match_ordering o ((s, port) ∷ row ∷ rows) ((row.0, port) ∷ rows) (row ∷ insert_entry (slice_cmp nat_cmp) rows s port)))
    by Less later = (below, all)
    by Equal later = all
    by Greater later = (all.0, later)

inserted_sorted : (rows : Rows) (s : List ℕ) (port : ℕ) → IsStrictlySortedBy (slice_cmp nat_cmp) (keys_of rows) → IsStrictlySortedBy (slice_cmp nat_cmp) (keys_of (insert_entry (slice_cmp nat_cmp) rows s port))
unfolding IsStrictlySortedBy
inserted_sorted [] s port sorted = (tt, tt)
inserted_sorted (row ∷ rows) s port sorted = by (slice_cmp nat_cmp s row.0) refl (inserted_sorted rows s port sorted.1)
  where
    by : (o : Ordering) → slice_cmp nat_cmp s row.0 ≡ o → IsStrictlySortedBy (slice_cmp nat_cmp) (keys_of (insert_entry (slice_cmp nat_cmp) rows s port))
        → IsStrictlySortedBy (slice_cmp nat_cmp) (keys_of (match_ordering o ((s, port) ∷ row ∷ rows) ((row.0, port) ∷ rows) (row ∷ insert_entry (slice_cmp nat_cmp) rows s port)))
    by Less e later = ((e, all_below s row.0 (keys_of rows) e sorted.0), sorted)
    by Equal e later = sorted
    by Greater e later = (below_inserted row.0 rows s port (nat_list_cmp_total.antisymm row.0 s ∙ ap ordering_reverse e) sorted.0, later)

inserted_fields : (rows : Rows) (s : List ℕ) (port : ℕ) → length s ≡ 14 → port < 2 ^ 16 → AreFields rows → AreFields (insert_entry (slice_cmp nat_cmp) rows s port)
inserted_fields [] s port len fits fields = (len, fits, tt)
inserted_fields (row ∷ rows) s port len fits fields = by (slice_cmp nat_cmp s row.0) (inserted_fields rows s port len fits fields.2)
  where
    by : (o : Ordering) → AreFields (insert_entry (slice_cmp nat_cmp) rows s port)
        → AreFields (match_ordering o ((s, port) ∷ row ∷ rows) ((row.0, port) ∷ rows) (row ∷ insert_entry (slice_cmp nat_cmp) rows s port))
    by Less later = (len, fits, fields)
    by Equal later = (fields.0, fits, fields.2)
    by Greater later = (fields.0, fields.1, later)

inserted_few : (rows : Rows) (s : List ℕ) (port : ℕ) → length (insert_entry (slice_cmp nat_cmp) rows s port) ≤ length rows + 1
inserted_few [] s port = omega arith
inserted_few (row ∷ rows) s port = by (slice_cmp nat_cmp s row.0) (inserted_few rows s port)
  where
    by : (o : Ordering) → length (insert_entry (slice_cmp nat_cmp) rows s port) ≤ length rows + 1
        → length (match_ordering o ((s, port) ∷ row ∷ rows) ((row.0, port) ∷ rows) (row ∷ insert_entry (slice_cmp nat_cmp) rows s port)) ≤ length (row ∷ rows) + 1
    by Less later = omega arith
    by Equal later = omega arith
    by Greater later = omega (arith, later)

-- one that is there already takes no more room
none_later : (s : List ℕ) (rows : Rows) → AllByRecursion (IsBelow s) (keys_of rows) → port_at s rows ≡ None
none_later s [] all = refl
none_later s (row ∷ rows) all = rw all.0 (none_later s rows all.1)

inserted_same : (rows : Rows) (s : List ℕ) (port : ℕ) → IsStrictlySortedBy (slice_cmp nat_cmp) (keys_of rows) → is_some (port_at s rows) ≡ true → length (insert_entry (slice_cmp nat_cmp) rows s port) ≡ length rows
unfolding IsStrictlySortedBy
inserted_same [] s port sorted there = absurd (false≢true there)
inserted_same (row ∷ rows) s port sorted there = by (slice_cmp nat_cmp s row.0) refl there (inserted_same rows s port sorted.1)
  where
    by : (o : Ordering) → slice_cmp nat_cmp s row.0 ≡ o → is_some (cond (is_eq o) (Some row.1) (port_at s rows)) ≡ true → (is_some (port_at s rows) ≡ true → length (insert_entry (slice_cmp nat_cmp) rows s port) ≡ length rows)
        → length (match_ordering o ((s, port) ∷ row ∷ rows) ((row.0, port) ∷ rows) (row ∷ insert_entry (slice_cmp nat_cmp) rows s port)) ≡ length (row ∷ rows)
    by Less e there later = absurd (false≢true (sym (ap (λ (o : Option ℕ). is_some o) (none_later s rows (all_below s row.0 (keys_of rows) e sorted.0))) ∙ there))
    by Equal e there later = refl
    by Greater e there later = ap (λ (n : ℕ). suc n) (later there)

-- ---- What is learned

with_row_are : (s : List ℕ) (port : ℕ) (rows : Rows) → length s ≡ 14 → port < 2 ^ 16 → AreRows rows → AreRows (with_row s port rows)
unfolding with_row
with_row_are s port rows len fits are =
    cond_both (nat_lt (length rows) 65536 || is_some (port_at s rows)) (insert_entry (slice_cmp nat_cmp) rows s port) rows AreRows
    (λ room. record {
      few = by room;
      ascending = inserted_sorted rows s port are.ascending;
      fields = inserted_fields rows s port len fits are.fields;
    })
    (λ full. are)
  where
    by : (nat_lt (length rows) 65536 || is_some (port_at s rows)) ≡ true → length (insert_entry (slice_cmp nat_cmp) rows s port) ≤ 65536
    by room = elim (cases_Bool (is_some (port_at s rows))) [
      | inl there ↦ omega (arith, inserted_same rows s port are.ascending there, are.few)
      | inr not ↦ let less : length rows < 65536 = grind (arith, common_steps, room, not) in omega (arith, inserted_few rows s port, less)
    ]

taken_long : (p : PacketIn) → is_taken p ≡ true → 14 ≤ length p.payload
unfolding is_taken
taken_long p is = grind (arith, common_steps, is)

rows_after_packet_are : (d : ℕ) (p : PacketIn) (rows : Rows) → p.in_port < 2 ^ 16 → AreRows rows → AreRows (rows_after_packet d p rows)
unfolding rows_after_packet
rows_after_packet_are d p rows fits are =
    cond_both (is_taken p) (with_row (source d p) p.in_port rows) rows AreRows
    (λ taken. with_row_are (source d p) p.in_port rows (omega (arith, length-append (number_bytes 8 d) (piece 6 6 p.payload), length-number_bytes 8 d, length-piece 6 6 p.payload (omega (arith, taken_long p taken)))) fits are)
    (λ passed. are)

port_of : (m : Message) (p : PacketIn) → IsMessage m → packet_in m ≡ Some p → p.in_port < 2 ^ 16
port_of (messages.PacketIn packet) p is e = subst (λ (q : PacketIn). q.in_port < 2 ^ 16) (same_Some packet p e) is.fields.1.1.0
port_of other p is e = absurd cc

in_port_fits : (body : List ℕ) (kind : EventKind) (p : PacketIn) → IsBytes body → packet_if kind body ≡ Some p → p.in_port < 2 ^ 16
in_port_fits body kinds.PacketIn p fit e = read_port (reading_of body) (λ envelope found. (IsRead-reading_of body envelope fit found).message) e
  where
    read_port : (r : Result Envelope WireFault) → ((envelope : Envelope) → r ≡ Ok envelope → IsMessage envelope.message) → packet_read r ≡ Some p → p.in_port < 2 ^ 16
    read_port (Ok envelope) are e = port_of envelope.message p (are envelope refl) e
    read_port (Err fault) are e = absurd cc
in_port_fits body other p fit e = absurd cc

rows_after_are : (event : Event) (rows : Rows) → IsRead event → AreRows rows → AreRows (rows_after event rows)
rows_after_are event rows read are = by (packet_of event) (λ p e. in_port_fits event.body event.kind p read.body e)
  where
    by : (o : Option PacketIn) → ((p : PacketIn) → o ≡ Some p → p.in_port < 2 ^ 16) → AreRows (rows_by event.dpid o rows)
    by None fits = are
    by (Some p) fits = rows_after_packet_are event.dpid p rows (fits p refl) are

-- ---- What is read

with_rows_are : (rows more : Rows) → AreFields more → length rows + length more ≤ 65536 → AreRows rows → AreRows (with_rows rows more)
with_rows_are rows [] fields few are = are
with_rows_are rows (row ∷ more) fields few are =
    let fewer = inserted_few rows row.0 row.1 in
    with_rows_are (insert_entry (slice_cmp nat_cmp) rows row.0 row.1) more fields.2 (omega (arith, few, fewer))
    (record {
      few = omega (arith, few, fewer);
      ascending = inserted_sorted rows row.0 row.1 are.ascending;
      fields = inserted_fields rows row.0 row.1 fields.0 fields.1 are.fields;
    })

length-rows_in : (n : ℕ) (bytes : List ℕ) → length (rows_in n bytes) ≡ n
length-rows_in zero bytes = refl
length-rows_in (suc n) bytes = ap (λ (m : ℕ). suc m) (length-rows_in n (drop 16 bytes))

rows_in_fields : (n : ℕ) (bytes : List ℕ) → IsBytes bytes → 16 * n ≤ length bytes → AreFields (rows_in n bytes)
rows_in_fields zero bytes fit long = tt
rows_in_fields (suc n) bytes fit long = (
  length-take-le 14 bytes (omega (arith, long)),
  number_at-lt 2 14 bytes fit,
  rows_in_fields n (drop 16 bytes) (IsBytes-drop 16 bytes fit) (omega (arith, long, length-drop 16 bytes)),
)

none_are : AreRows []
unfolding IsStrictlySortedBy
none_are = record { few = omega arith; ascending = tt; fields = tt }

pub restored_are : (checkpoint : List ℕ) → IsBytes checkpoint → AreRows (restored checkpoint)
unfolding restored
restored_are checkpoint fit =
    let n = length checkpoint / 16 in
    cond_both (is_checkpoint checkpoint) (with_rows [] (rows_in n checkpoint)) [] AreRows
    (λ is.
    let parts = and_parts (length checkpoint % 16 == 0) (nat_le n 65536 && is_ascending None (rows_in n checkpoint)) is in
    let within = and_parts (nat_le n 65536) (is_ascending None (rows_in n checkpoint)) parts.1 in
    let few : n ≤ 65536 = grind (arith, common_steps, within.0) in
    with_rows_are [] (rows_in n checkpoint) (rows_in_fields n checkpoint fit (omega arith)) (omega (arith, length-rows_in n checkpoint, few)) none_are)
    (λ other. none_are)

-- ---- It resumes

numbers_for : (idle : ℕ) (event : Event) (rows : Rows) → event.dpid < 2 ^ 64 → AllByRecursion AppNumbers (frames_for idle event rows)
unfolding frames_for_packet
numbers_for idle event rows fits = by (packet_of event)
  where
    sent : (p : PacketIn) (known : Option ℕ) → AllByRecursion AppNumbers (sent_on idle event.dpid p known)
    sent p None = (fits, tt)
    sent p (Some port) = cond_both (port == p.in_port) _ _ (AllByRecursion AppNumbers) (λ same. (fits, tt)) (λ other. (fits, (fits, tt)))

    for_packet : (p : PacketIn) → AllByRecursion AppNumbers (frames_for_packet idle event.dpid p rows)
    for_packet p = cond_both (is_taken p) _ [] (AllByRecursion AppNumbers) (λ taken. sent p _) (λ passed. tt)

    by : (o : Option PacketIn) → AllByRecursion AppNumbers (frames_by idle event.dpid o rows)
    by None = tt
    by (Some p) = for_packet p

pub learning_resumes : (idle : ℕ) → IsMachine (learn_would idle)
learning_resumes idle = IsMachine-by (answers_to idle) rows_after restored AreRows (record {
  first = restored_are;
  next = rows_after_are;
  said = λ event rows. frames_for idle event rows;
  checkpoint = checkpoint_of;
  numbers = λ event rows fits. numbers_for idle event rows fits;
  done = λ event rows. refl;
  back = restored-checkpoint_of;
})
