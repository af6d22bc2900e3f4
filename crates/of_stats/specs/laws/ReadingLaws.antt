-- Laws of reading rows: what a length that was read fits, and that more steps change nothing.
use Rattle.std.proofs.Common.{◌≡◌, ℕ, zero, suc, ◌+◌, ◌≤◌, cond, ltb, ◌||◌, List, length, take, drop, Option, Some, None, Result, Ok, Err, refl, ap, subst, arith}
use Rattle.std.proofs.lemmas.Bool.{ltb-false, or_parts}
use Rattle.std.proofs.lemmas.List.{length-drop}
use Rattle.of_types.specs.Fields.{number_at}
use Rattle.of_action.specs.Reading.{◌>>=◌, actions_of}
use Rattle.of_action.specs.laws.ReadingLaws.{bind_ok}
use Rattle.of_action.specs.declared.action.Action.{Action}
use Rattle.of_action.specs.declared.fault.ActionFault.{ActionFault}
use Rattle.of_stats.specs.declared.flow_row.FlowRow.{FlowRow}
use Rattle.of_stats.specs.declared.fault.StatsFault.{StatsFault}
use Rattle.of_stats.specs.Reading.{row_length_at, row_with, if_actions, row_of, at_place, row_at, rows_from}
use Rattle.of_types.specs.laws.ChoiceLaws.{guard_some}

-- what is known of a length that was read
pub record IsRowLength (len : ℕ) (bytes : List ℕ) : Type 0 where
  pub said : number_at 2 0 bytes ≡ len
  pub least : 88 ≤ len
  pub within : len ≤ length bytes

some_is : (x y : ℕ) → Some x ≡ Some y → x ≡ y
some_is x y e = cc

pub IsRowLength-row_length_at : (bytes : List ℕ) (len : ℕ) → row_length_at bytes ≡ Some len → IsRowLength len bytes
unfolding row_length_at
IsRowLength-row_length_at bytes len e =
    let n = number_at 2 0 bytes in
    let a = guard_some (ltb (length bytes) 2) (cond (ltb n 88 || ltb (length bytes) n) None (Some n)) len e in
    let b = guard_some (ltb n 88 || ltb (length bytes) n) (Some n) len a.1 in
    let c = or_parts (ltb n 88) (ltb (length bytes) n) b.0 in
    let same : n ≡ len = some_is n len b.1 in
    let least : 88 ≤ n = ltb-false _ _ c.0 in
    let within : n ≤ length bytes = ltb-false _ _ c.1 in
    record { said = same; least = omega arith; within = omega arith }

-- what a row that was read came from
pub record IsReadRow (row : FlowRow) (len : ℕ) (bytes : List ℕ) : Type 0 where
  pub length_read : row_length_at bytes ≡ Some len
  pub actions : List Action
  pub actions_read : actions_of (drop 88 (take len bytes)) ≡ Ok actions
  pub value : row ≡ row_with (take len bytes) actions

at_place_ok : (place : ℕ) (o : Option ℕ) (len : ℕ) → at_place place o ≡ Ok len → o ≡ Some len
at_place_ok place (Some n) len e = let same : n ≡ len = cc in ap (λ (x : ℕ). Some x) same
at_place_ok place None len e = absurd cc

if_actions_ok : (place : ℕ) (bytes : List ℕ) (r : Result (List Action) ActionFault) (row : FlowRow) → if_actions place bytes r ≡ Ok row → (actions : List Action) × (r ≡ Ok actions) × (row ≡ row_with bytes actions)
if_actions_ok place bytes (Ok actions) row e = (actions, refl, cc)
if_actions_ok place bytes (Err fault) row e = absurd cc

abbrev the_row : FlowRow × ℕ → Result (FlowRow × ℕ) StatsFault
the_row x = Ok x

same_row : (x y : FlowRow × ℕ) → the_row x ≡ the_row y → x ≡ y
same_row x y e = cc

pub IsReadRow-row_at : (place : ℕ) (bytes : List ℕ) (first : FlowRow × ℕ) → row_at place bytes ≡ Ok first → IsReadRow first.0 first.1 bytes
unfolding row_at row_of
IsReadRow-row_at place bytes first e =
    let a = bind_ok (at_place place (row_length_at bytes)) (λ len. row_of place (take len bytes) >>= λ row. Ok (row, len)) first e in
    let b = bind_ok (row_of place (take a.0 bytes)) (λ row. Ok (row, a.0)) first a.2 in
    let c = if_actions_ok place (take a.0 bytes) (actions_of (drop 88 (take a.0 bytes))) b.0 b.1 in
    let made : FlowRow × ℕ = (b.0, a.0) in
    subst (λ (f : FlowRow × ℕ). IsReadRow f.0 f.1 bytes) (same_row made first b.2) (record {
      length_read = at_place_ok place (row_length_at bytes) a.0 a.1;
      actions = c.0;
      actions_read = c.1;
      value = c.2;
    })

-- one step of each, where the rest is read the same
same_step : (n m place : ℕ) (bytes : List ℕ) (r : Result (FlowRow × ℕ) StatsFault) → ((later : ℕ) (rest : List ℕ) → length rest ≤ n → length rest ≤ m → rows_from n later rest ≡ rows_from m later rest)
    → length bytes ≤ suc n → length bytes ≤ suc m → row_at place bytes ≡ r → rows_from (suc n) place bytes ≡ rows_from (suc m) place bytes
unfolding rows_from
same_step n m place bytes (Err fault) ih p q is = rw is refl
same_step n m place bytes (Ok first) ih p q is =
    let len = IsRowLength-row_length_at bytes first.1 (IsReadRow-row_at place bytes first is).length_read in
    let rest : length (drop first.1 bytes) + first.1 ≡ length bytes = omega (arith, length-drop first.1 bytes, len.within) in
    let same = ih (place + first.1) (drop first.1 bytes) (omega (arith, rest, len.least)) (omega (arith, rest, len.least)) in
    rw (is, same) refl

-- more steps than bytes read the same
pub rows_from-steps : (n m place : ℕ) (bytes : List ℕ) → length bytes ≤ n → length bytes ≤ m → rows_from n place bytes ≡ rows_from m place bytes
unfolding rows_from
rows_from-steps zero zero place bytes p q = refl
rows_from-steps zero (suc m) place bytes p q =
    let none : length bytes ≡ 0 = omega arith in
    rw none refl
rows_from-steps (suc n) zero place bytes p q =
    let none : length bytes ≡ 0 = omega arith in
    rw none refl
rows_from-steps (suc n) (suc m) place bytes p q = same_step n m place bytes (row_at place bytes) (rows_from-steps n m) p q refl
