-- The order of the parts of an undo: one part more.
use Rattle.std.specs.Prelude.{◌≡◌, ◌⊎◌, ◌==◌, ℕ, Bool, true, false, ◌||◌, List, [], ◌∷◌, map, refl}
use Rattle.std.specs.List.{list_any}
use Rattle.std.proofs.Common.{sym, ap, subst, eq-eqb, inl, inr}
use Rattle.std.proofs.lemmas.Bool.{ne_eqb, cases_eq}
use Rattle.net_txn.specs.Undos.{Part, parts_of, is_stuck, inverses_of, inverse_in, IsThinned, EndsByBarriers}

pub thinned_more : {X : Type 0} (xs : List X) (y : X) (ys : List X) → IsThinned xs ys → IsThinned xs (y ∷ ys)
thinned_more [] y ys is = tt
thinned_more (x ∷ xs) y ys is = inr is

-- no barrier was sent behind the last inverse
pub ends_none : (parts : List (ℕ × Part)) → EndsByBarriers [] parts
ends_none parts = record { last = []; front = parts; parts_is = refl; no_inverse = refl; in_order = tt; each = λ d among free. absurd cc }

pub or_here : (a b : Bool) → a ≡ true → (a || b) ≡ true
or_here true b is = refl
or_here false b is = absurd cc

-- a part of the next switch that is no inverse
ends_part : (d : ℕ) (p : Part) (switches : List ℕ) (parts : List (ℕ × Part)) → inverse_in d p ≡ [] → EndsByBarriers switches parts → EndsByBarriers (d ∷ switches) ((d, p) ∷ parts)
ends_part d p switches parts none e = record {
  last = (d, p) ∷ e.last;
  front = e.front;
  parts_is = ap (λ (ps : List (ℕ × Part)). (d, p) ∷ ps) e.parts_is;
  no_inverse = rw none e.no_inverse;
  in_order = inl (refl, e.in_order);
  each = λ c among free. elim (cases_eq d c) [
    | inl same ↦ inr (or_here (d == c) (list_any (λ q. q.0 == c) e.last) (eq-eqb d c same))
    | inr other ↦ there c (ne_eqb d c other) among free
  ];
}
  where
    there : (c : ℕ) → (d == c) ≡ false → list_any (λ b. b == c) (d ∷ switches) ≡ true → is_stuck (parts_of c ((d, p) ∷ parts)) ≡ false
        → (inverses_of (parts_of c ((d, p) ∷ parts)) ≡ []) ⊎ (list_any (λ q. q.0 == c) ((d, p) ∷ e.last) ≡ true)
    there c other among free = rw other (e.each c (rw other at among) (rw other at free))

-- no barrier goes to the next switch, which failed or was sent no inverse
pub ends_skipped : (d : ℕ) (switches : List ℕ) (parts : List (ℕ × Part)) → (is_stuck (parts_of d parts) ≡ false → inverses_of (parts_of d parts) ≡ []) → EndsByBarriers switches parts → EndsByBarriers (d ∷ switches) parts
ends_skipped d switches parts none e = record {
  last = e.last;
  front = e.front;
  parts_is = e.parts_is;
  no_inverse = e.no_inverse;
  in_order = thinned_more (map (λ (q : ℕ × Part). q.0) e.last) d switches e.in_order;
  each = λ c among free. elim (cases_eq d c) [
    | inl same ↦ inl (subst (λ (n : ℕ). is_stuck (parts_of n parts) ≡ false → inverses_of (parts_of n parts) ≡ []) same none free)
    | inr other ↦ e.each c (rw (ne_eqb d c other) at among) free
  ];
}

-- the switches so far: none while inverses are sent, and then one more for each barrier
abbrev pub EndsStep : ℕ → List ℕ → List ℕ → Type 0
EndsStep d switches more = (more ≡ []) ⊎ (more ≡ d ∷ switches)

pub ends_more : (d : ℕ) (p : Part) (switches more : List ℕ) (parts : List (ℕ × Part)) → inverse_in d p ≡ [] → EndsStep d switches more → EndsByBarriers switches parts → EndsByBarriers more ((d, p) ∷ parts)
ends_more d p switches more parts none (inl is) e = subst (λ (ds : List ℕ). EndsByBarriers ds ((d, p) ∷ parts)) (sym is) (ends_none ((d, p) ∷ parts))
ends_more d p switches more parts none (inr is) e = subst (λ (ds : List ℕ). EndsByBarriers ds ((d, p) ∷ parts)) (sym is) (ends_part d p switches parts none e)
