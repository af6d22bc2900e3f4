-- Where a place leads, and walks of places against walks of their numbers.
use Rattle.std.proofs.Common.{◌≡◌, ◌==◌, ℕ, zero, suc, ◌<◌, ◌≤◌, Bool, true, ◌&&◌, List, [], ◌∷◌, ◌++◌, length, get_or, Option, Some, None, refl, sym, ap, ◌∙◌, subst, arith, inl, inr}
use Rattle.std.specs.List.{list_any}
use Rattle.std.proofs.lemmas.Bool.{or_cases, and_parts, and_from, eqb-true, eq-eqb}
use Rattle.std.proofs.lemmas.List.Folds.{list_any_at}
use Rattle.flow_table.specs.View.{TableView}
use Rattle.net_guard.specs.declared.hop.Hop.{Hop}
use Rattle.net_guard.specs.declared.scope.Scope.{Scope}
use Rattle.net_guard.specs.Links.{Place, Guarded, IsBefore, is_same, hop_at, place_at}
use Rattle.net_guard.specs.Leading.{leads, leads_over}
use Rattle.net_guard.specs.Walks.{IsWalk, reaches}
use Rattle.net_guard.specs.Loops.{IsOnLoop, IsLeastLoop, IsLeastOf, step_of, returns_to, has_loop}
use Rattle.net_guard.specs.laws.WalkLaws.{walk-append, reaches-joins, reaches-step, any_below-from, any_below-at}

pub same_from : (p q : Place) → is_same p q ≡ true → p ≡ q
same_from p q is =
    let parts = and_parts (p.0 == q.0) (p.1 == q.1) is in
    let dpid : p.0 ≡ q.0 = eqb-true p.0 q.0 parts.0 in
    let port : p.1 ≡ q.1 = eqb-true p.1 q.1 parts.1 in
    λ i. (dpid i, port i)

pub same_itself : (p : Place) → is_same p p ≡ true
same_itself p = and_from (p.0 == p.0) (p.1 == p.1) (eq-eqb p.0 p.0 refl) (eq-eqb p.1 p.1 refl)

-- some item passes, and stands at a number
pub any_at : {A : Type 0} (test : A → Bool) (xs : List A) (d : A) → list_any test xs ≡ true → (i : ℕ) × ((i < length xs) × (test (get_or xs i d) ≡ true))
any_at test [] d is = absurd cc
any_at test (x ∷ xs) d is =
    elim (or_cases (test x) (list_any test xs) is) [
      | inl here ↦ (0, (omega arith, here))
      | inr behind ↦ let found = any_at test xs d behind in (suc found.0, (omega (arith, found.1.0), found.1.1))
    ]

-- a step of numbers is a step of places
pub step-leads : (g : Guarded) (scope : Scope) (tables : List TableView) (i j : ℕ) → j < length g.hops → step_of g scope tables i j ≡ true → leads g scope tables (place_at g.hops i) (place_at g.hops j) ≡ true
unfolding leads
step-leads g scope tables i j within is =
    let p = place_at g.hops i in
    let q = place_at g.hops j in
    let d : Hop = record { from = (0, 0); to = (0, 0) } in
    list_any_at (λ h. is_same h.to q && leads_over g scope tables p h) g.hops j d within (and_from (is_same q q) (leads_over g scope tables p (hop_at g.hops j)) (same_itself q) is)

-- a step of places is one of numbers
pub leads-step : (g : Guarded) (scope : Scope) (tables : List TableView) (p q : Place) → leads g scope tables p q ≡ true → (j : ℕ) × ((j < length g.hops) × (place_at g.hops j ≡ q) × (leads_over g scope tables p (hop_at g.hops j) ≡ true))
unfolding leads
leads-step g scope tables p q is =
    let d : Hop = record { from = (0, 0); to = (0, 0) } in
    let found = any_at (λ h. is_same h.to q && leads_over g scope tables p h) g.hops d is in
    let parts = and_parts (is_same (place_at g.hops found.0) q) (leads_over g scope tables p (hop_at g.hops found.0)) found.1.1 in
    (found.0, (found.1.0, same_from (place_at g.hops found.0) q parts.0, parts.1))

-- what is reached by numbers is walked to
pub reaches-walk : (g : Guarded) (scope : Scope) (tables : List TableView) (k i j : ℕ) → k ≤ length g.hops → j < length g.hops → reaches (step_of g scope tables) k i j ≡ true
    → (between : List Place) × IsWalk (leads g scope tables) (place_at g.hops i) between (place_at g.hops j)
unfolding reaches
reaches-walk g scope tables zero i j most within is = ([], step-leads g scope tables i j within is)
reaches-walk g scope tables (suc k) i j most within is =
    let r = reaches (step_of g scope tables) k in
    elim (or_cases (r i j) (r i k && r k j) is) [
      | inl near ↦ reaches-walk g scope tables k i j (omega arith) within near
      | inr far ↦
          let parts = and_parts (r i k) (r k j) far in
          let first = reaches-walk g scope tables k i k (omega arith) (omega arith) parts.0 in
          let second = reaches-walk g scope tables k k j (omega arith) within parts.1 in (
            first.0 ++ place_at g.hops k ∷ second.0,
            walk-append (leads g scope tables) (place_at g.hops i) first.0 (place_at g.hops k) second.0 (place_at g.hops j) first.1 second.1,
          )
    ]

-- where a walk of places ends is reached from each number of its begin
pub record Arrives (g : Guarded) (scope : Scope) (tables : List TableView) (p q : Place) (j : ℕ) : Type 0 where
  pub within : j < length g.hops
  pub at : place_at g.hops j ≡ q
  pub reached : (i : ℕ) → place_at g.hops i ≡ p → reaches (step_of g scope tables) (length g.hops) i j ≡ true

step_from : (g : Guarded) (scope : Scope) (tables : List TableView) (p : Place) (i j : ℕ) → place_at g.hops i ≡ p → leads_over g scope tables p (hop_at g.hops j) ≡ true → step_of g scope tables i j ≡ true
step_from g scope tables p i j at is = ap (λ (x : Place). leads_over g scope tables x (hop_at g.hops j)) at ∙ is

pub walk-reaches : (g : Guarded) (scope : Scope) (tables : List TableView) (p : Place) (between : List Place) (q : Place) → IsWalk (leads g scope tables) p between q → (j : ℕ) × Arrives g scope tables p q j
walk-reaches g scope tables p [] q walk =
    let step = leads-step g scope tables p q walk in
    let j = step.0 in (
      j,
      record {
        within = step.1.0;
        at = step.1.1;
        reached = λ i at. reaches-step (step_of g scope tables) (length g.hops) i j (step_from g scope tables p i j at step.1.2);
      },
    )
walk-reaches g scope tables p (m ∷ between) q walk =
    let step = leads-step g scope tables p m walk.0 in
    let k = step.0 in
    let rest = walk-reaches g scope tables m between q walk.1 in
    let j = rest.0 in (
      j,
      record {
        within = rest.1.within;
        at = rest.1.at;
        reached = λ i at.
            reaches-joins (step_of g scope tables) (length g.hops) k i j step.1.0
            (reaches-step (step_of g scope tables) (length g.hops) i k (step_from g scope tables p i k at step.1.2))
            (rest.1.reached k step.1.1);
      },
    )

-- ---- loops

-- a place on a loop has a number that returns to itself
pub loop-returns : (g : Guarded) (scope : Scope) (tables : List TableView) (p : Place) → IsOnLoop g scope tables p → (j : ℕ) × ((j < length g.hops) × (place_at g.hops j ≡ p) × (returns_to g scope tables j ≡ true))
unfolding returns_to
loop-returns g scope tables p loop =
    let found = walk-reaches g scope tables p loop.0 p loop.1 in
    (found.0, (found.1.within, found.1.at, found.1.reached found.0 found.1.at))

pub returns-loop : (g : Guarded) (scope : Scope) (tables : List TableView) (i : ℕ) → i < length g.hops → returns_to g scope tables i ≡ true → IsOnLoop g scope tables (place_at g.hops i)
unfolding returns_to
returns-loop g scope tables i within is = reaches-walk g scope tables (length g.hops) i i (omega arith) within is

pub least_loop : (g : Guarded) (scope : Scope) (tables : List TableView) (test : ℕ → Bool) (found : Option Place) → ((i : ℕ) → i < length g.hops → test i ≡ returns_to g scope tables i) → IsLeastOf g.hops test (length g.hops) found
    → IsLeastLoop g scope tables found
least_loop g scope tables test None are none = λ p loop.
    let back = loop-returns g scope tables p loop in
    absurd (cc (none back.0 back.1.0, are back.0 back.1.0, back.1.2))
least_loop g scope tables test (Some p) are is =
    let at = is.0 in (
      subst (IsOnLoop g scope tables) at.1.2 (returns-loop g scope tables at.0 at.1.0 (sym (are at.0 at.1.0) ∙ at.1.1)),
      λ q loop before.
          let back = loop-returns g scope tables q loop in
          is.1 back.0 back.1.0 (are back.0 back.1.0 ∙ back.1.2) (subst (λ (x : Place). IsBefore x p) (sym back.1.1) before),
    )

pub has_loop-from : (g : Guarded) (scope : Scope) (tables : List TableView) (p : Place) → IsOnLoop g scope tables p → has_loop g tables scope ≡ true
unfolding has_loop
has_loop-from g scope tables p loop =
    let back = loop-returns g scope tables p loop in
    any_below-from (returns_to g scope tables) (length g.hops) back.0 back.1.0 back.1.2

pub has_loop-at : (g : Guarded) (scope : Scope) (tables : List TableView) → has_loop g tables scope ≡ true → (p : Place) × IsOnLoop g scope tables p
unfolding has_loop
has_loop-at g scope tables is =
    let back = any_below-at (returns_to g scope tables) (length g.hops) is in
    (place_at g.hops back.0, returns-loop g scope tables back.0 back.1.0 back.1.1)
