-- A list that is written place by place, and the least of places.
use Rattle.std.proofs.Common.{◌≡◌, ◌==◌, ℕ, ◌+◌, ◌<◌, ◌≤◌, Bool, true, false, ◌&&◌, ◌||◌, cond, List, length, get_or, set, nat_lt, nat_le, Option, Some, None, refl, sym, ap, ◌∙◌, subst, arith, inl, inr}
use Rattle.std.proofs.lemmas.Bool.{cases_eq, or_cases, or_parts, and_parts, and_cases, ltb-true, ltb-false, leb-true, leb-false, eqb-true, eqb-false}
use Rattle.std.proofs.Common.{get_or-set_same, get_or-set_other}
use Rattle.net_guard.specs.declared.hop.Hop.{Hop}
use Rattle.net_guard.specs.Links.{Place, IsBefore, place_at}
use Rattle.net_guard.specs.Loops.{IsLeastOf, earlier_of}

pub set_more : (P : ℕ → ℕ → Type 0) (xs : List ℕ) (i x : ℕ) → i < length xs → ((k : ℕ) → k < i → P k (get_or xs k 0)) → P i x → (k : ℕ) → k < i + 1 → P k (get_or (set xs i x) k 0)
set_more P xs i x within below here k lt =
    elim (cases_eq k i) [
      | inl same ↦ rw (same, get_or-set_same) here
      | inr other ↦ rw get_or-set_other (below k (omega arith))
    ]

-- ---- the lesser of two places

-- the first of two places is not behind the second
abbrev is_first : Place → Place → Bool
is_first q p = nat_lt q.0 p.0 || (q.0 == p.0 && nat_le q.1 p.1)

first_true : (q p : Place) → is_first q p ≡ true → IsBefore p q → ⊥
first_true q p is before =
    elim (or_cases (nat_lt q.0 p.0) (q.0 == p.0 && nat_le q.1 p.1) is) [
      | inl lower ↦ let a : q.0 < p.0 = ltb-true q.0 p.0 lower in elim before [ inl b ↦ omega arith | inr b ↦ omega (arith, b.0) ]
      | inr both ↦
          let parts = and_parts (q.0 == p.0) (nat_le q.1 p.1) both in
          let a : q.0 ≡ p.0 = eqb-true q.0 p.0 parts.0 in
          let c : q.1 ≤ p.1 = leb-true q.1 p.1 parts.1 in
          elim before [ inl b ↦ omega arith | inr b ↦ omega (arith, b.1) ]
    ]

-- otherwise the second is before the first
first_false : (q p : Place) → is_first q p ≡ false → IsBefore p q
first_false q p is =
    let parts = or_parts (nat_lt q.0 p.0) (q.0 == p.0 && nat_le q.1 p.1) is in
    let a : p.0 ≤ q.0 = ltb-false q.0 p.0 parts.0 in
    elim (cases_eq q.0 p.0) [
      | inl same ↦ elim (and_cases (q.0 == p.0) (nat_le q.1 p.1) parts.1) [
        | inl other ↦ absurd (eqb-false q.0 p.0 other same)
        | inr upper ↦ inr (sym same, leb-false q.1 p.1 upper)
      ]
      | inr other ↦ inl (omega arith)
    ]

before_trans : (x p q : Place) → IsBefore x p → IsBefore p q → IsBefore x q
before_trans x p q first second =
    elim first [
      | inl a ↦ elim second [ inl b ↦ inl (omega arith) | inr b ↦ inl (omega (arith, b.0)) ]
      | inr a ↦ elim second [ inl b ↦ inl (omega (arith, a.0)) | inr b ↦ inr (a.0 ∙ b.0, omega (arith, a.1, b.1)) ]
    ]

not_before_itself : (p : Place) → IsBefore p p → ⊥
not_before_itself p before = elim before [ inl a ↦ omega arith | inr a ↦ omega (arith, a.1) ]

-- ---- the least place of one number more

pub IsLeastOf-none : (hops : List Hop) (test : ℕ → Bool) → IsLeastOf hops test 0 None
IsLeastOf-none hops test = λ i below. absurd (omega arith)

skipped : (hops : List Hop) (test : ℕ → Bool) (n : ℕ) (best : Option Place) → IsLeastOf hops test n best → test n ≡ false → IsLeastOf hops test (n + 1) best
skipped hops test n None is none = λ i below. elim (cases_eq i n) [ inl same ↦ ap test same ∙ none | inr other ↦ is i (omega arith) ]
skipped hops test n (Some p) is none = (
  (is.0.0, (omega (arith, is.0.1.0), is.0.1.1, is.0.1.2)),
  λ i below passes before. elim (cases_eq i n) [ inl same ↦ absurd (cc (none, passes, ap test same)) | inr other ↦ is.1 i (omega arith) passes before ],
)

taken_by : (hops : List Hop) (test : ℕ → Bool) (n : ℕ) (q : Place) (b : Bool) → IsLeastOf hops test n (Some q) → test n ≡ true → is_first q (place_at hops n) ≡ b → IsLeastOf hops test (n + 1) (Some (cond b q (place_at hops n)))
taken_by hops test n q true is passes first = (
  (is.0.0, (omega (arith, is.0.1.0), is.0.1.1, is.0.1.2)),
  λ i below good before. elim (cases_eq i n) [
    | inl same ↦ first_true q (place_at hops n) first (subst (λ k. IsBefore (place_at hops k) q) same before)
    | inr other ↦ is.1 i (omega arith) good before
  ],
)
taken_by hops test n q false is passes first =
    let p = place_at hops n in (
      (n, (omega arith, passes, refl)),
      λ i below good before. elim (cases_eq i n) [
        | inl same ↦ not_before_itself p (subst (λ k. IsBefore (place_at hops k) p) same before)
        | inr other ↦ is.1 i (omega arith) good (before_trans (place_at hops i) p q before (first_false q p first))
      ],
    )

taken : (hops : List Hop) (test : ℕ → Bool) (n : ℕ) (best : Option Place) → IsLeastOf hops test n best → test n ≡ true → IsLeastOf hops test (n + 1) (Some (earlier_of best (place_at hops n)))
taken hops test n None is passes =
    let p = place_at hops n in (
      (n, (omega arith, passes, refl)),
      λ i below good before. elim (cases_eq i n) [
        | inl same ↦ not_before_itself p (subst (λ k. IsBefore (place_at hops k) p) same before)
        | inr other ↦ absurd (cc (is i (omega arith), good))
      ],
    )
taken hops test n (Some q) is passes = taken_by hops test n q (is_first q (place_at hops n)) is passes refl

pub IsLeastOf-more : (hops : List Hop) (test : ℕ → Bool) (n : ℕ) (best : Option Place) (passes : Bool) → passes ≡ test n → IsLeastOf hops test n best → IsLeastOf hops test (n + 1) (cond passes (Some (earlier_of best (place_at hops n))) best)
IsLeastOf-more hops test n best true same is = taken hops test n best is (sym same)
IsLeastOf-more hops test n best false same is = skipped hops test n best is (sym same)
