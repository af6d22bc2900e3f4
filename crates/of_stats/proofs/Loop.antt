-- Reading rows one after the other, as a loop does.
use Rattle.std.proofs.Common.{◌≡◌, ℕ, suc, ◌+◌, ◌-◌, ◌≤◌, ◌<◌, false, eqb, List, [], ◌∷◌, ◌++◌, length, drop, Result, Ok, Err, refl, sym, ap, ◌∙◌, append_assoc, arith}
use Rattle.std.proofs.lemmas.Bool.{ne_eqb}
use Rattle.std.proofs.lemmas.List.{append-nil, drop-drop, length-drop}
use Rattle.of_action.specs.Reading.{◌>>=◌}
use Rattle.of_stats.specs.declared.flow_row.FlowRow.{FlowRow}
use Rattle.of_stats.specs.declared.fault.StatsFault.{StatsFault}
use Rattle.of_stats.specs.declared.fault.StatsFault.TheVariants.{Bad, NoMemory}
use Rattle.of_stats.specs.Reading.{Fails, row_at, rows_from, rows_of}
use Rattle.of_stats.specs.laws.ReadingLaws.{IsRowLength-row_length_at, IsReadRow-row_at, rows_from-steps}

-- what was read before, and what is still read from a place on
unfoldable pub with_front : List FlowRow → Result (List FlowRow) StatsFault → Result (List FlowRow) StatsFault
with_front front read = read >>= λ others. Ok (front ++ others)

unfoldable pub read_from : ℕ → List ℕ → Result (List FlowRow) StatsFault
read_from place bytes = rows_from (length bytes - place) place (drop place bytes)

pub begins : (bytes : List ℕ) → with_front [] (read_from 0 bytes) ≡ rows_of bytes
unfolding with_front read_from rows_of
begins bytes = let none : length bytes - 0 ≡ length bytes = omega arith in rw none (unit (rows_from (length bytes) 0 bytes))
  where
    unit : (r : Result (List FlowRow) StatsFault) → (r >>= λ others. Ok ([] ++ others)) ≡ r
    unit (Ok x) = refl
    unit (Err e) = refl

-- one row: what is read from its place on
unrolled : (steps place : ℕ) (bytes : List ℕ) → length bytes - place ≡ suc steps → read_from place bytes ≡ (row_at place (drop place bytes) >>= λ first. rows_from steps (place + first.1) (drop first.1 (drop place bytes)) >>= λ others. Ok (first.0 ∷ others))
unfolding read_from rows_from
unrolled steps place bytes e =
    let some : eqb (length (drop place bytes)) 0 ≡ false = ne_eqb _ _ (λ none. omega (arith, none, length-drop place bytes)) in
    rw (e, some) refl

pub goes_on : (front : List FlowRow) (place len : ℕ) (bytes : List ℕ) (row : FlowRow) (total : Result (List FlowRow) StatsFault) → place < length bytes → row_at place (drop place bytes) ≡ Ok (row, len)
    → with_front front (read_from place bytes) ≡ total → with_front (front ++ row ∷ []) (read_from (place + len) bytes) ≡ total
unfolding with_front read_from
goes_on front place len bytes row total lt is so_far =
    let fits = IsRowLength-row_length_at (drop place bytes) len (IsReadRow-row_at place (drop place bytes) (row, len) is).length_read in
    let rest : length (drop (place + len) bytes) ≡ length bytes - (place + len) = length-drop (place + len) bytes in
    let steps : length bytes - place ≡ suc (length bytes - place - 1) = omega arith in
    let same : rows_from (length bytes - place - 1) (place + len) (drop (place + len) bytes) ≡ rows_from (length bytes - (place + len)) (place + len) (drop (place + len) bytes) = rows_from-steps (length bytes - place - 1) (length bytes - (place + len)) (place + len) (drop (place + len) bytes) (omega (arith, rest, fits.least)) (omega (arith, rest)) in
    let one : read_from place bytes ≡ (rows_from (length bytes - (place + len)) (place + len) (drop (place + len) bytes) >>= λ others. Ok (row ∷ others)) = unrolled (length bytes - place - 1) place bytes steps ∙ rw (is, drop-drop len place bytes, same) refl in
    sym (rw one (regroup (rows_from (length bytes - (place + len)) (place + len) (drop (place + len) bytes)))) ∙ so_far
  where
    regroup : (read : Result (List FlowRow) StatsFault) → ((read >>= λ others. Ok (row ∷ others)) >>= λ others. Ok (front ++ others)) ≡ (read >>= λ others. Ok ((front ++ row ∷ []) ++ others))
    regroup (Ok others) = ap (λ (rows : List FlowRow). Ok rows) (simp append_assoc)
    regroup (Err fault) = refl

ends : (front : List FlowRow) (place : ℕ) (bytes : List ℕ) (fault : StatsFault) (total : Result (List FlowRow) StatsFault) → place < length bytes → row_at place (drop place bytes) ≡ Err fault
    → with_front front (read_from place bytes) ≡ total → total ≡ Err fault
unfolding with_front
ends front place bytes fault total lt is so_far =
    let steps : length bytes - place ≡ suc (length bytes - place - 1) = omega arith in
    let one : read_from place bytes ≡ Err fault = unrolled (length bytes - place - 1) place bytes steps ∙ rw is refl in
    sym so_far ∙ rw one refl

pub is_done : (front : List FlowRow) (place : ℕ) (bytes : List ℕ) (total : Result (List FlowRow) StatsFault) → length bytes ≤ place → with_front front (read_from place bytes) ≡ total → total ≡ Ok front
unfolding with_front read_from rows_from
is_done front place bytes total le so_far =
    let steps : length bytes - place ≡ 0 = omega arith in
    sym so_far ∙ rw steps (ap (λ (rows : List FlowRow). Ok rows) (append-nil front))

pub gives_end : (front : List FlowRow) (place : ℕ) (bytes : List ℕ) (fault : StatsFault) (total : Result (List FlowRow) StatsFault) → place < length bytes → Fails fault (row_at place (drop place bytes))
    → with_front front (read_from place bytes) ≡ total → Fails fault total
gives_end front place bytes (Bad at) total lt is so_far = ends front place bytes (Bad at) total lt is so_far
gives_end front place bytes NoMemory total lt is so_far = tt
