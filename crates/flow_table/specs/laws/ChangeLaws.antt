-- What follows about changes of a table.
use Rattle.std.proofs.Common.{◌≡◌, ◌≢◌, ◌==◌, ℕ, ◌≤◌, Bool, true, false, not, ◌&&◌, ◌||◌, if◌then◌else◌, nat_lt, List, [], ◌∷◌, map, filter, None, refl, ap, ◌∙◌, arith, inl, inr}
use Rattle.std.proofs.lemmas.Bool.{cond-true, cond-false, cond_both, ne_eqb, and_left, and_parts, or_cases, or_parts, eqb-true, eqb-false, cases_eq, cases_Bool}
use Rattle.std.specs.List.{list_any}
use Rattle.of_match.specs.declared.key.Key.{Key}
use Rattle.of_match.specs.Key.{key_number}
use Rattle.match_overlap.specs.Relations.{is_subsuming}
use Rattle.of_wire.specs.declared.bodies.FlowMod.{FlowMod}
use Rattle.flow_table.specs.declared.entry.Entry.{Entry}
use Rattle.flow_table.specs.Table.{TableState, place_of, has_key, IsTable, with_entry}
use Rattle.flow_table.specs.laws.TableLaws.{IsOnlyAt, IsTable-with_entry, IsTable-filter, IsTable-map}
use Rattle.flow_table.specs.Change.{key_in, is_strict, is_modify, is_delete, describes, sends_to, deletes, adds, asks_notice, modified, new_entry, refusal, notice, notices_of, entries_after, changed, means, tells}

-- ---- A strict description

pub describes-strict : (m : FlowMod) (k : Key) → is_strict m ≡ true → describes m k ≡ (key_number k == key_number (key_in m))
unfolding describes
describes-strict m k strict = cond-true (is_strict m) (key_number k == key_number (key_in m)) (is_subsuming m.matching k.matching) strict

pub IsOnlyAt-means : (m : FlowMod) → is_strict m ≡ true → IsOnlyAt (key_number (key_in m)) (means m)
IsOnlyAt-means m strict = record { others = λ e other. describes-strict m e.key strict ∙ ne_eqb (place_of e) (key_number (key_in m)) other }

pub IsOnlyAt-deletes : (m : FlowMod) → is_strict m ≡ true → IsOnlyAt (key_number (key_in m)) (deletes m)
IsOnlyAt-deletes m strict = record { others = λ e other. and_left (means m e) (sends_to m.out_port e.actions) ((IsOnlyAt-means m strict).others e other) }

pub IsOnlyAt-tells : (m : FlowMod) → is_strict m ≡ true → IsOnlyAt (key_number (key_in m)) (tells m)
IsOnlyAt-tells m strict = record { others = λ e other. and_left (deletes m e) (asks_notice e.flags) ((IsOnlyAt-deletes m strict).others e other) }

pub list_any-same : {X : Type 0} (p q : X → Bool) → ((x : X) → p x ≡ q x) → (xs : List X) → list_any p xs ≡ list_any q xs
list_any-same p q same [] = refl
list_any-same p q same (x ∷ xs) = ap (λ b. b || list_any p xs) (same x) ∙ ap (λ b. q x || b) (list_any-same p q same xs)

pub list_any-strict : (m : FlowMod) (es : List Entry) → is_strict m ≡ true → list_any (means m) es ≡ list_any (has_key (key_in m)) es
list_any-strict m es strict = list_any-same (means m) (has_key (key_in m)) (λ e. describes-strict m e.key strict) es

-- ---- A table stays one.

modified-keeps : (pass : Bool) (m : FlowMod) (e : Entry) → place_of (if pass then record e { actions = m.actions } else e) ≡ place_of e
modified-keeps true m e = refl
modified-keeps false m e = refl

pub place_of-modified : (m : FlowMod) (e : Entry) → place_of (modified m e) ≡ place_of e
place_of-modified m e = modified-keeps (describes m e.key) m e

pub IsTable-entries_after : (now serial : ℕ) (m : FlowMod) (es : List Entry) → IsTable es → IsTable (entries_after now serial m es)
unfolding entries_after
IsTable-entries_after now serial m es is =
    cond_both (adds m es) (with_entry (new_entry now serial m) es) (if is_modify m then map (modified m) es else filter (λ e. not (deletes m e)) es) IsTable
    (λ _. IsTable-with_entry es (new_entry now serial m) is)
    (λ _. cond_both (is_modify m) (map (modified m) es) (filter (λ e. not (deletes m e)) es) IsTable
    (λ _. IsTable-map (modified m) (place_of-modified m) es is)
    (λ _. IsTable-filter (λ e. not (deletes m e)) es is))

-- ---- Which of the three a change is.

pub is_delete-modify : (m : FlowMod) → is_modify m ≡ true → is_delete m ≡ false
is_delete-modify m does =
    elim (or_cases (m.command == 1) (m.command == 2) does) [
      | inl one ↦ let is : m.command ≡ 1 = eqb-true m.command 1 one in rw is refl
      | inr two ↦ let is : m.command ≡ 2 = eqb-true m.command 2 two in rw is refl
    ]

pub is_delete-adds : (m : FlowMod) (es : List Entry) → adds m es ≡ true → is_delete m ≡ false
unfolding adds
is_delete-adds m es does =
    elim (or_cases (m.command == 0) (is_modify m && not (list_any (means m) es)) does) [
      | inl zero ↦ let is : m.command ≡ 0 = eqb-true m.command 0 zero in rw is refl
      | inr some ↦ is_delete-modify m (and_parts (is_modify m) (not (list_any (means m) es)) some).0
    ]

pub is_delete-rest : (m : FlowMod) (es : List Entry) → m.command ≤ 4 → adds m es ≡ false → is_modify m ≡ false → is_delete m ≡ true
unfolding adds
is_delete-rest m es known adding modifying =
    let no0 : m.command ≢ 0 = eqb-false m.command 0 (or_parts (m.command == 0) (is_modify m && not (list_any (means m) es)) adding).0 in
    let no1 : m.command ≢ 1 = eqb-false m.command 1 (or_parts (m.command == 1) (m.command == 2) modifying).0 in
    let no2 : m.command ≢ 2 = eqb-false m.command 2 (or_parts (m.command == 1) (m.command == 2) modifying).1 in
    elim (cases_eq m.command 3) [
      | inl three ↦ rw three refl
      | inr other ↦ let four : m.command ≡ 4 = omega arith in rw four refl
    ]

pub notices_of-kept : (now : ℕ) (m : FlowMod) (es : List Entry) → is_delete m ≡ false → notices_of now m es ≡ []
unfolding notices_of
notices_of-kept now m es not_is = cond-false (is_delete m) (map (notice 2 now) (filter (tells m) es)) [] not_is

pub notices_of-delete : (now : ℕ) (m : FlowMod) (es : List Entry) → is_delete m ≡ true → notices_of now m es ≡ map (notice 2 now) (filter (tells m) es)
unfolding notices_of
notices_of-delete now m es does = cond-true (is_delete m) (map (notice 2 now) (filter (tells m) es)) [] does

pub entries_after-adds : (now serial : ℕ) (m : FlowMod) (es : List Entry) → adds m es ≡ true → entries_after now serial m es ≡ with_entry (new_entry now serial m) es
unfolding entries_after
entries_after-adds now serial m es does =
    cond-true (adds m es) (with_entry (new_entry now serial m) es) (if is_modify m then map (modified m) es else filter (λ e. not (deletes m e)) es) does

pub entries_after-modify : (now serial : ℕ) (m : FlowMod) (es : List Entry) → adds m es ≡ false → is_modify m ≡ true → entries_after now serial m es ≡ map (modified m) es
unfolding entries_after
entries_after-modify now serial m es not_is does =
    cond-false (adds m es) (with_entry (new_entry now serial m) es) (if is_modify m then map (modified m) es else filter (λ e. not (deletes m e)) es) not_is
    ∙ cond-true (is_modify m) (map (modified m) es) (filter (λ e. not (deletes m e)) es) does

pub entries_after-delete : (now serial : ℕ) (m : FlowMod) (es : List Entry) → adds m es ≡ false → is_modify m ≡ false → entries_after now serial m es ≡ filter (λ e. not (deletes m e)) es
unfolding entries_after
entries_after-delete now serial m es not_is none =
    cond-false (adds m es) (with_entry (new_entry now serial m) es) (if is_modify m then map (modified m) es else filter (λ e. not (deletes m e)) es) not_is
    ∙ cond-false (is_modify m) (map (modified m) es) (filter (λ e. not (deletes m e)) es) none

pub refusal-delete : (cap : ℕ) (m : FlowMod) (es : List Entry) → is_delete m ≡ true → refusal cap m es ≡ None
unfolding refusal
refusal-delete cap m es does =
    let adding : adds m es ≡ false = elim (cases_Bool (adds m es)) [
      | inl puts ↦ let other = is_delete-adds m es puts in absurd cc
      | inr keeps ↦ keeps
    ] in
    let known : nat_lt 4 m.command ≡ false = elim (or_cases (m.command == 3) (m.command == 4) does) [
      | inl three ↦ let is : m.command ≡ 3 = eqb-true m.command 3 three in rw is refl
      | inr four ↦ let is : m.command ≡ 4 = eqb-true m.command 4 four in rw is refl
    ] in
    rw (known, adding) refl

-- serials are counted upwards
pub next-changed-le : (now : ℕ) (m : FlowMod) (t : TableState) → t.next ≤ (changed now m t).next
unfolding changed
next-changed-le now m t =
    elim (cases_Bool (adds m t.entries)) [
      | inl puts ↦ rw puts (omega arith)
      | inr keeps ↦ rw keeps (omega arith)
    ]
