-- Laws of reading: what a length that was read fits, and that more steps change nothing.
use Rattle.std.proofs.Common.{◌≡◌, ℕ, zero, suc, ◌+◌, ◌≤◌, ◌%◌, Bool, true, false, cond, eqb, ltb, ◌||◌, not, List, length, take, drop, Option, Some, None, Result, Ok, Err, refl, ap, subst, arith}
use Rattle.std.proofs.lemmas.Bool.{eqb-true, ltb-false, or_parts}
use Rattle.std.proofs.lemmas.List.{length-drop}
use Rattle.of_types.specs.Fields.{number_at}
use Rattle.of_action.specs.declared.action.Action.{Action}
use Rattle.of_action.specs.declared.fault.ActionKind.{ActionKind}
use Rattle.of_action.specs.declared.fault.ActionKind.TheVariants.{BadLen}
use Rattle.of_action.specs.declared.fault.ActionFault.{ActionFault}
use Rattle.of_action.specs.Reading.{◌>>=◌, IsLength, table_length, if_table_has, length_at, at_place, action_of, action_at, actions_from}

-- a test that did not fail
pub guard_ok : {A F : Type 0} (b : Bool) (fault : F) (r : Result A F) (x : A) → cond b (Err fault) r ≡ Ok x → (b ≡ false) × (r ≡ Ok x)
guard_ok true fault r x e = absurd cc
guard_ok false fault r x e = (refl, e)

-- the value of a step that did not fail
pub bind_ok : {A B F : Type 0} (r : Result A F) (f : A → Result B F) (y : B) → (r >>= f) ≡ Ok y → (x : A) × (r ≡ Ok x) × (f x ≡ Ok y)
bind_ok (Ok x) f y e = (x, refl, e)
bind_ok (Err d) f y e = absurd cc

pub table_ok : (len n : ℕ) (o : Option ℕ) → if_table_has len o ≡ Ok n → (o ≡ Some len) × (len ≡ n)
table_ok len n None e = absurd cc
table_ok len n (Some m) e = same (eqb m len) refl e
  where
    same : (b : Bool) → eqb m len ≡ b → cond b (Ok len) (Err BadLen) ≡ Ok n → (Some m ≡ Some len) × (len ≡ n)
    same true t e = (ap (λ (k : ℕ). Some k) (eqb-true m len t), cc)
    same false t e = absurd cc

-- the wide kinds have 16 bytes
wide : (kind len : ℕ) → table_length kind len ≡ Some len → (kind ≡ 4 → len ≡ 16) × (kind ≡ 5 → len ≡ 16) × (kind ≡ 11 → len ≡ 16)
unfolding table_length
wide kind len e =
    (λ k. let h : table_length 4 len ≡ Some len = subst (λ (n : ℕ). table_length n len ≡ Some len) k e in cc, λ k. let h : table_length 5 len ≡ Some len = subst (λ (n : ℕ). table_length n len ≡ Some len) k e in cc, λ k. let h : table_length 11 len ≡ Some len = subst (λ (n : ℕ). table_length n len ≡ Some len) k e in cc)

pub IsLength-length_at : (bytes : List ℕ) (len : ℕ) → length_at bytes ≡ Ok len → IsLength (number_at 2 0 bytes) (length bytes) len
unfolding length_at
IsLength-length_at bytes len e =
    let n = number_at 2 2 bytes in
    let kind = number_at 2 0 bytes in
    let a = guard_ok (ltb (length bytes) 4) BadLen (cond (ltb n 8 || (not (eqb (n % 8) 0) || ltb (length bytes) n)) (Err BadLen) (if_table_has n (table_length kind n))) len e in
    let b = guard_ok (ltb n 8 || (not (eqb (n % 8) 0) || ltb (length bytes) n)) BadLen (if_table_has n (table_length kind n)) len a.1 in
    let c = or_parts (ltb n 8) (not (eqb (n % 8) 0) || ltb (length bytes) n) b.0 in
    let d = or_parts (not (eqb (n % 8) 0)) (ltb (length bytes) n) c.1 in
    let f = table_ok n len (table_length kind n) b.1 in
    let w = wide kind n f.0 in
    let least : 8 ≤ n = ltb-false _ _ c.0 in
    let within : n ≤ length bytes = ltb-false _ _ d.1 in
    subst (λ (m : ℕ). IsLength kind (length bytes) m) f.1 (record { least = least; within = within; source = w.0; target = w.1; queue = w.2 })

pub action_at-ok : (place : ℕ) (bytes : List ℕ) (first : Action × ℕ) → action_at place bytes ≡ Ok first → (length_at bytes ≡ Ok first.1) × (first.0 ≡ action_of (number_at 2 0 bytes) (take first.1 bytes))
unfolding action_at
action_at-ok place bytes first e = at (length_at bytes) refl e
  where
    at : (r : Result ℕ ActionKind) → length_at bytes ≡ r → (at_place place r >>= λ len. Ok (action_of (number_at 2 0 bytes) (take len bytes), len)) ≡ Ok first → (length_at bytes ≡ Ok first.1) × (first.0 ≡ action_of (number_at 2 0 bytes) (take first.1 bytes))
    at (Ok len) is h =
        let made : Action × ℕ = (action_of (number_at 2 0 bytes) (take len bytes), len) in
        let same : made ≡ first = cc in
        subst (λ (f : Action × ℕ). (length_at bytes ≡ Ok f.1) × (f.0 ≡ action_of (number_at 2 0 bytes) (take f.1 bytes))) same (is, refl)
    at (Err kind) is h = absurd cc

-- one step of each, where the rest is read the same
same_step : (n m place : ℕ) (bytes : List ℕ) (r : Result (Action × ℕ) ActionFault) → ((later : ℕ) (rest : List ℕ) → length rest ≤ n → length rest ≤ m → actions_from n later rest ≡ actions_from m later rest)
    → length bytes ≤ suc n → length bytes ≤ suc m → action_at place bytes ≡ r → actions_from (suc n) place bytes ≡ actions_from (suc m) place bytes
unfolding actions_from
same_step n m place bytes (Err fault) ih p q is = rw is refl
same_step n m place bytes (Ok first) ih p q is =
    let len = IsLength-length_at bytes first.1 (action_at-ok place bytes first is).0 in
    let rest : length (drop first.1 bytes) + first.1 ≡ length bytes = omega (arith, length-drop first.1 bytes, len.within) in
    let same = ih (place + first.1) (drop first.1 bytes) (omega (arith, rest, len.least)) (omega (arith, rest, len.least)) in
    rw (is, same) refl

-- more steps than bytes read the same
pub actions_from-steps : (n m place : ℕ) (bytes : List ℕ) → length bytes ≤ n → length bytes ≤ m → actions_from n place bytes ≡ actions_from m place bytes
unfolding actions_from
actions_from-steps zero zero place bytes p q = refl
actions_from-steps zero (suc m) place bytes p q =
    let none : length bytes ≡ 0 = omega arith in
    rw none refl
actions_from-steps (suc n) zero place bytes p q =
    let none : length bytes ≡ 0 = omega arith in
    rw none refl
actions_from-steps (suc n) (suc m) place bytes p q = same_step n m place bytes (action_at place bytes) (actions_from-steps n m) p q refl
