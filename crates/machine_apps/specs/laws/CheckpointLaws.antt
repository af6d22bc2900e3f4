-- What a checkpoint is made of is read from it again.
use Rattle.std.proofs.Common.{◌≡◌, ℕ, ◌*◌, ◌/◌, ◌%◌, ◌^◌, ◌≤◌, ◌<◌, true, ◌&&◌, nat_le, List, [], ◌∷◌, ◌++◌, length, take, drop, None, Some, refl, sym, ap, ◌∙◌, append_assoc, arith}
use Rattle.std.specs.List.{AllByRecursion}
use Rattle.std.specs.List.Sorted.{IsStrictlySortedBy}
use Rattle.std.specs.declared.cmp.Ordering.TheVariants.{Less, Greater}
use Rattle.std.specs.Ordering.{nat_cmp, is_lt, ordering_reverse}
use Rattle.std.specs.Cmp.Lexicographic.{slice_cmp}
use Rattle.std.specs.Cmp.Derive.{both_true}
use Rattle.std.specs.BTreeMap.{insert_entry}
use Rattle.std.specs.Map.{keys_of}
use Rattle.std.proofs.lemmas.Cmp.{nat_list_cmp_total}
use Rattle.std.proofs.Math.Seq.{take-append_seam, drop-append_seam}
use Rattle.std.proofs.lemmas.List.{append-nil, length-append}
use Rattle.of_types.specs.Fields.{number_at, number_bytes}
use Rattle.of_types.specs.laws.FieldLaws.{number_at-number_bytes}
use Rattle.machine_apps.specs.Learn.{Rows}
use Rattle.machine_apps.specs.Checkpoint.{row_bytes, checkpoint_of, rows_in, is_ascending, with_rows, restored}

-- each station has 14 bytes, and each port fits two
abbrev pub AreFields : Rows → Type 0
AreFields [] = Unit {0}
AreFields (row ∷ rows) = (length row.0 ≡ 14) × (row.1 < 2 ^ 16) × AreFields rows

-- the rows that a learning switch can have: at most 65,536, each station above those before it
pub record AreRows (rows : Rows) : Type 0 where
  pub few : length rows ≤ 65536
  pub ascending : IsStrictlySortedBy (slice_cmp nat_cmp) (keys_of rows)
  pub fields : AreFields rows

abbrev pub IsBelow : List ℕ → List ℕ → Type 0
IsBelow a s = slice_cmp nat_cmp a s ≡ Less

-- ---- They ascend

ascending_from : (a : List ℕ) (rows : Rows) → AllByRecursion (IsBelow a) (keys_of rows) → IsStrictlySortedBy (slice_cmp nat_cmp) (keys_of rows) → is_ascending (Some a) rows ≡ true
unfolding IsStrictlySortedBy
ascending_from a [] all sorted = refl
ascending_from a (row ∷ rows) all sorted = both_true (ap is_lt all.0) (ascending_from row.0 rows sorted.0 sorted.1)

ascending : (rows : Rows) → IsStrictlySortedBy (slice_cmp nat_cmp) (keys_of rows) → is_ascending None rows ≡ true
unfolding IsStrictlySortedBy
ascending [] sorted = refl
ascending (row ∷ rows) sorted = ascending_from row.0 rows sorted.0 sorted.1

-- ---- Each row has its place behind the others

abbrev AreBefore : Rows → List ℕ → Type 0
AreBefore front s = AllByRecursion (λ (e : List ℕ × ℕ). IsBelow e.0 s) front

abbrev AreBeforeAll : Rows → Rows → Type 0
AreBeforeAll front [] = Unit {0}
AreBeforeAll front (row ∷ rows) = AreBefore front row.0 × AreBeforeAll front rows

before_more : (front : Rows) (row : List ℕ × ℕ) (s : List ℕ) → AreBefore front s → IsBelow row.0 s → AreBefore (front ++ row ∷ []) s
before_more [] row s all one = (one, tt)
before_more (e ∷ front) row s all one = (all.0, before_more front row s all.1 one)

before_all_more : (front : Rows) (row : List ℕ × ℕ) (rows : Rows) → AreBeforeAll front rows → AllByRecursion (IsBelow row.0) (keys_of rows) → AreBeforeAll (front ++ row ∷ []) rows
before_all_more front row [] all later = tt
before_all_more front row (next ∷ rows) all later = (before_more front row next.0 all.0 later.0, before_all_more front row rows all.1 later.1)

none_before : (rows : Rows) → AreBeforeAll [] rows
none_before [] = tt
none_before (row ∷ rows) = (tt, none_before rows)

last_place : (front : Rows) (row : List ℕ × ℕ) → AreBefore front row.0 → insert_entry (slice_cmp nat_cmp) front row.0 row.1 ≡ front ++ row ∷ []
last_place [] row all = refl
last_place (e ∷ front) row all =
    let above : slice_cmp nat_cmp row.0 e.0 ≡ Greater = nat_list_cmp_total.antisymm row.0 e.0 ∙ ap ordering_reverse all.0 in
    rw above (ap (λ (rows : Rows). e ∷ rows) (last_place front row all.1))

in_places : (front rows : Rows) → AreBeforeAll front rows → IsStrictlySortedBy (slice_cmp nat_cmp) (keys_of rows) → with_rows front rows ≡ front ++ rows
unfolding IsStrictlySortedBy
in_places front [] all sorted = sym (append-nil front)
in_places front (row ∷ rows) all sorted =
    ap (λ (begun : Rows). with_rows begun rows) (last_place front row all.0)
    ∙ in_places (front ++ row ∷ []) rows (before_all_more front row rows all.1 sorted.0) sorted.1
    ∙ append_assoc front (row ∷ []) rows

-- ---- The bytes of each row

length-number_bytes_two : (x : ℕ) → length (number_bytes 2 x) ≡ 2
unfolding number_bytes
length-number_bytes_two x = refl

length-row_bytes : (row : List ℕ × ℕ) → length row.0 ≡ 14 → length (row_bytes row) ≡ 16
length-row_bytes row len = grind (arith, length-append, len, length-number_bytes_two row.1)

length-checkpoint : (rows : Rows) → AreFields rows → length (checkpoint_of rows) ≡ 16 * length rows
unfolding checkpoint_of
length-checkpoint [] fields = refl
length-checkpoint (row ∷ rows) fields = grind (arith, length-append, length-row_bytes row fields.0, length-checkpoint rows fields.2)

first_row : (row : List ℕ × ℕ) (rest : List ℕ) → length row.0 ≡ 14 → row.1 < 2 ^ 16 → (take 14 (row_bytes row ++ rest), number_at 2 14 (row_bytes row ++ rest)) ≡ row
first_row row rest len lt =
    let apart : row_bytes row ++ rest ≡ row.0 ++ (number_bytes 2 row.1 ++ rest) = append_assoc row.0 (number_bytes 2 row.1) rest in
    let station : take 14 (row_bytes row ++ rest) ≡ row.0 = ap (λ (b : List ℕ). take 14 b) apart ∙ ap (λ (n : ℕ). take n (row.0 ++ (number_bytes 2 row.1 ++ rest))) (sym len) ∙ take-append_seam row.0 (number_bytes 2 row.1 ++ rest) in
    let port : number_at 2 14 (row_bytes row ++ rest) ≡ row.1 = ap (λ (b : List ℕ). number_at 2 14 b) apart ∙ number_at-number_bytes 2 14 row.1 row.0 rest len lt in
    ap (λ (s : List ℕ). (s, number_at 2 14 (row_bytes row ++ rest))) station ∙ ap (λ (p : ℕ). (row.0, p)) port

other_rows : (row : List ℕ × ℕ) (rest : List ℕ) → length row.0 ≡ 14 → drop 16 (row_bytes row ++ rest) ≡ rest
other_rows row rest len = ap (λ (n : ℕ). drop n (row_bytes row ++ rest)) (sym (length-row_bytes row len)) ∙ drop-append_seam (row_bytes row) rest

rows_read : (rows : Rows) → AreFields rows → rows_in (length rows) (checkpoint_of rows) ≡ rows
unfolding checkpoint_of
rows_read [] fields = refl
rows_read (row ∷ rows) fields =
    let rest = checkpoint_of rows in
    ap (λ (first : List ℕ × ℕ). first ∷ rows_in (length rows) (drop 16 (row_bytes row ++ rest))) (first_row row rest fields.0 fields.1)
    ∙ ap (λ (b : List ℕ). row ∷ rows_in (length rows) b) (other_rows row rest fields.0)
    ∙ ap (λ (more : Rows). row ∷ more) (rows_read rows fields.2)

-- ---- The whole

-- from its checkpoint a learning switch learns the same again
pub restored-checkpoint_of : (rows : Rows) → AreRows rows → restored (checkpoint_of rows) ≡ rows
unfolding restored
restored-checkpoint_of rows are =
    let bytes = checkpoint_of rows in
    let size = length-checkpoint rows are.fields in
    let whole : length bytes % 16 ≡ 0 = rw size (omega arith) in
    let count : length bytes / 16 ≡ length rows = rw size (omega arith) in
    let read : rows_in (length bytes / 16) bytes ≡ rows = ap (λ (n : ℕ). rows_in n bytes) count ∙ rows_read rows are.fields in
    let placed : with_rows [] rows ≡ rows = in_places [] rows (none_before rows) are.ascending in
    let fits : nat_le (length rows) 65536 ≡ true = grind (arith, are.few) in
    let test : (nat_le (length rows) 65536 && is_ascending None rows) ≡ true = both_true fits (ascending rows are.ascending) in
    rw (whole, read, count) (rw test placed)
