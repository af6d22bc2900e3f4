-- Reading actions one after the other, as a loop does.
use Rattle.std.proofs.Common.{◌≡◌, ℕ, suc, ◌+◌, ◌-◌, ◌≤◌, ◌<◌, false, eqb, List, [], ◌∷◌, ◌++◌, length, take, drop, Result, Ok, Err, refl, sym, ap, ◌∙◌, append_assoc, arith}
use Rattle.std.proofs.lemmas.Bool.{ne_eqb}
use Rattle.std.proofs.lemmas.List.{append-nil, drop-drop, length-drop}
use Rattle.of_types.specs.Fields.{number_at}
use Rattle.of_action.specs.declared.action.Action.{Action}
use Rattle.of_action.specs.declared.fault.ActionKind.{ActionKind}
use Rattle.of_action.specs.declared.fault.ActionFault.{ActionFault}
use Rattle.of_action.specs.declared.fault.ActionFault.TheVariants.{Bad, NoMemory}
use Rattle.of_action.specs.Reading.{◌>>=◌, Fails, Tells, length_at, action_of, action_at, actions_from, actions_of}
use Rattle.of_action.specs.laws.ReadingLaws.{IsLength-length_at, action_at-ok, actions_from-steps}

-- what was read before, and what is still read from a place on
unfoldable pub with_front : List Action → Result (List Action) ActionFault → Result (List Action) ActionFault
with_front front read = read >>= λ others. Ok (front ++ others)

unfoldable pub read_from : ℕ → List ℕ → Result (List Action) ActionFault
read_from place bytes = actions_from (length bytes - place) place (drop place bytes)

pub begins : (bytes : List ℕ) → with_front [] (read_from 0 bytes) ≡ actions_of bytes
unfolding with_front read_from actions_of
begins bytes = let none : length bytes - 0 ≡ length bytes = omega arith in rw none (unit (actions_from (length bytes) 0 bytes))
  where
    unit : (r : Result (List Action) ActionFault) → (r >>= λ others. Ok ([] ++ others)) ≡ r
    unit (Ok x) = refl
    unit (Err e) = refl

-- one action: what is read from its place on
unrolled : (steps place : ℕ) (bytes : List ℕ) → length bytes - place ≡ suc steps → read_from place bytes ≡ (action_at place (drop place bytes) >>= λ first. actions_from steps (place + first.1) (drop first.1 (drop place bytes)) >>= λ others. Ok (first.0 ∷ others))
unfolding read_from actions_from
unrolled steps place bytes e =
    let some : eqb (length (drop place bytes)) 0 ≡ false = ne_eqb _ _ (λ none. omega (arith, none, length-drop place bytes)) in
    rw (e, some) refl

pub goes_on : (front : List Action) (place len : ℕ) (bytes : List ℕ) (action : Action) (total : Result (List Action) ActionFault) → place < length bytes → action_at place (drop place bytes) ≡ Ok (action, len)
    → with_front front (read_from place bytes) ≡ total → with_front (front ++ action ∷ []) (read_from (place + len) bytes) ≡ total
unfolding with_front read_from
goes_on front place len bytes action total lt is so_far =
    let fits = IsLength-length_at (drop place bytes) len (action_at-ok place (drop place bytes) (action, len) is).0 in
    let rest : length (drop (place + len) bytes) ≡ length bytes - (place + len) = length-drop (place + len) bytes in
    let steps : length bytes - place ≡ suc (length bytes - place - 1) = omega arith in
    let same : actions_from (length bytes - place - 1) (place + len) (drop (place + len) bytes) ≡ actions_from (length bytes - (place + len)) (place + len) (drop (place + len) bytes) = actions_from-steps (length bytes - place - 1) (length bytes - (place + len)) (place + len) (drop (place + len) bytes) (omega (arith, rest, fits.least)) (omega (arith, rest)) in
    let one : read_from place bytes ≡ (actions_from (length bytes - (place + len)) (place + len) (drop (place + len) bytes) >>= λ others. Ok (action ∷ others)) = unrolled (length bytes - place - 1) place bytes steps ∙ rw (is, drop-drop len place bytes, same) refl in
    sym (rw one (regroup (actions_from (length bytes - (place + len)) (place + len) (drop (place + len) bytes)))) ∙ so_far
  where
    regroup : (read : Result (List Action) ActionFault) → ((read >>= λ others. Ok (action ∷ others)) >>= λ others. Ok (front ++ others)) ≡ (read >>= λ others. Ok ((front ++ action ∷ []) ++ others))
    regroup (Ok others) = ap (λ (actions : List Action). Ok actions) (simp append_assoc)
    regroup (Err fault) = refl

pub ends : (front : List Action) (place : ℕ) (bytes : List ℕ) (fault : ActionFault) (total : Result (List Action) ActionFault) → place < length bytes → action_at place (drop place bytes) ≡ Err fault
    → with_front front (read_from place bytes) ≡ total → total ≡ Err fault
unfolding with_front
ends front place bytes fault total lt is so_far =
    let steps : length bytes - place ≡ suc (length bytes - place - 1) = omega arith in
    let one : read_from place bytes ≡ Err fault = unrolled (length bytes - place - 1) place bytes steps ∙ rw is refl in
    sym so_far ∙ rw one refl

pub is_done : (front : List Action) (place : ℕ) (bytes : List ℕ) (total : Result (List Action) ActionFault) → length bytes ≤ place → with_front front (read_from place bytes) ≡ total → total ≡ Ok front
unfolding with_front read_from actions_from
is_done front place bytes total le so_far =
    let steps : length bytes - place ≡ 0 = omega arith in
    sym so_far ∙ rw steps (ap (λ (actions : List Action). Ok actions) (append-nil front))

pub gives_end : (front : List Action) (place : ℕ) (bytes : List ℕ) (fault : ActionFault) (total : Result (List Action) ActionFault) → place < length bytes → Fails fault (action_at place (drop place bytes))
    → with_front front (read_from place bytes) ≡ total → Fails fault total
gives_end front place bytes (Bad at kind) total lt is so_far = ends front place bytes (Bad at kind) total lt is so_far
gives_end front place bytes NoMemory total lt is so_far = tt

-- a length alone, and what reading makes of it
pub action_at-length : (place len : ℕ) (bytes : List ℕ) → length_at bytes ≡ Ok len → action_at place bytes ≡ Ok (action_of (number_at 2 0 bytes) (take len bytes), len)
unfolding action_at
action_at-length place len bytes is = rw is refl

pub action_at-fault : (place : ℕ) (bytes : List ℕ) (kind : ActionKind) → length_at bytes ≡ Err kind → action_at place bytes ≡ Err (Bad place kind)
unfolding action_at
action_at-fault place bytes kind is = rw is refl

pub tells_done : (total : Result (List Action) ActionFault) (front : List Action) → total ≡ Ok front → Tells {X = Unit {0}} (Ok tt) total
tells_done (Ok x) front e = tt
tells_done (Err fault) front e = absurd cc
