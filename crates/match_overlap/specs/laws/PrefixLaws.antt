-- The relations of one field that is any, or an address and the length of its prefix.
use Rattle.std.proofs.Common.{◌≡◌, ◌==◌, ℕ, ◌+◌, ◌-◌, ◌*◌, ◌/◌, ◌^◌, ◌<◌, ◌≤◌, leb, min, Bool, true, false, cond, Option, Some, None, refl, sym, ap, ◌∙◌, arith, inl, inr}
use Rattle.std.proofs.lemmas.Bool.{and_parts, and_from, leb-true, leb-false, le-leb, eqb-true, eq-eqb, cases_lt}
use Rattle.std.proofs.lemmas.Nat.{shr-shr, shr_high, shr_below, pow-add}
use Rattle.std.proofs.Math.Nat.{add-div_right, mul-le-mul_right}
use Rattle.std.proofs.Math.Pow.{shr_mono, pow_mono, pow-lt}
use Rattle.std.specs.Prelude.{IfSome}
use Rattle.of_match.specs.Fields.{IsPrefix}
use Rattle.of_match.specs.Covers.{AgreesOnPrefix}
use Rattle.match_overlap.specs.Fieldwise.{first_bits, prefix_subsumes, prefix_overlaps, prefix_meet}
use Rattle.of_match.specs.laws.FieldsLaws.{clear_is}

-- addresses that agree on a prefix agree on a shorter one
pub shorter : (m n x y : ℕ) → m ≤ n → first_bits n x ≡ first_bits n y → first_bits m x ≡ first_bits m y
shorter m n x y le e =
    let more : 32 - m ≡ (32 - n) + ((32 - m) - (32 - n)) = omega arith in
    rw (more, ← shr-shr x (32 - n) ((32 - m) - (32 - n)), ← shr-shr y (32 - n) ((32 - m) - (32 - n))) (ap (λ v. v / 2 ^ ((32 - m) - (32 - n))) e)

-- the lowest and the highest address that the field takes
abbrev pub low_address : Option (ℕ × ℕ) → ℕ
low_address None = 0
low_address (Some p) = p.0

abbrev pub high_address : Option (ℕ × ℕ) → ℕ
high_address None = 2 ^ 32 - 1
high_address (Some p) = p.0 + (2 ^ (32 - p.1) - 1)

positive : (k : ℕ) → 0 < 2 ^ k
positive k = pow_mono {i = 0} {j = k} (omega arith)

pub low_address-taken : (o : Option (ℕ × ℕ)) → AgreesOnPrefix o (low_address o)
low_address-taken None = tt
low_address-taken (Some p) = refl

pub high_address-taken : (o : Option (ℕ × ℕ)) → IfSome o IsPrefix → AgreesOnPrefix o (high_address o)
high_address-taken None is = tt
high_address-taken (Some p) is =
    let lt : 2 ^ (32 - p.1) - 1 < 2 ^ (32 - p.1) = omega (arith, positive (32 - p.1)) in
    ap (λ x. (x + (2 ^ (32 - p.1) - 1)) / 2 ^ (32 - p.1)) (sym (clear_is p is)) ∙ shr_high (p.0 / 2 ^ (32 - p.1)) (32 - p.1) (2 ^ (32 - p.1) - 1) lt

pub low_address-within : (o : Option (ℕ × ℕ)) → IfSome o IsPrefix → low_address o < 2 ^ 32
low_address-within None is = omega arith
low_address-within (Some p) is = is.fits

pub high_address-within : (o : Option (ℕ × ℕ)) → IfSome o IsPrefix → high_address o < 2 ^ 32
high_address-within None is = omega arith
high_address-within (Some p) is =
    let sum : 32 ≡ p.1 + (32 - p.1) = omega (arith, is.at_most) in
    let whole : 2 ^ 32 ≡ 2 ^ (p.1 + (32 - p.1)) = ap (λ n. 2 ^ n) sum in
    let front : p.0 / 2 ^ (32 - p.1) < 2 ^ p.1 = shr_below p.0 p.1 (32 - p.1) (omega (arith, is.fits, whole)) in
    omega (arith, clear_is p is, mul-le-mul_right (2 ^ (32 - p.1)) front, pow-add 2 p.1 (32 - p.1), whole, positive (32 - p.1))

-- addresses this far apart differ in a bit of the prefix
apart : (i low high v : ℕ) → low + 2 ^ i ≤ high → low / 2 ^ i ≡ v → high / 2 ^ i ≡ v → ⊥
apart i low high v le el eh = absurd (omega (arith, shr_mono {a = low + 2 ^ i} {b = high} i le, add-div_right low (positive i), el, eh))

pub prefix_subsumes-sound : (o p : Option (ℕ × ℕ)) (x : ℕ) → prefix_subsumes o p ≡ true → AgreesOnPrefix p x → AgreesOnPrefix o x
prefix_subsumes-sound None p x t h = tt
prefix_subsumes-sound (Some p) None x t h = absurd cc
prefix_subsumes-sound (Some p) (Some q) x t h =
    let parts = and_parts (leb p.1 q.1) (first_bits p.1 p.0 == first_bits p.1 q.0) t in
    shorter p.1 q.1 x q.0 (leb-true p.1 q.1 parts.0) h ∙ sym (eqb-true (first_bits p.1 p.0) (first_bits p.1 q.0) parts.1)

-- the lowest and the highest address that the second takes show where the test fails
pub prefix_subsumes-complete : (o p : Option (ℕ × ℕ)) → IfSome o IsPrefix → IfSome p IsPrefix → AgreesOnPrefix o (low_address p) → AgreesOnPrefix o (high_address p) → prefix_subsumes o p ≡ true
prefix_subsumes-complete None p ho hp el eh = refl
prefix_subsumes-complete (Some p) None ho hp el eh =
    absurd (apart (32 - p.1) 0 (2 ^ 32 - 1) (first_bits p.1 p.0) (omega (arith, pow_mono {i = 32 - p.1} {j = 31} (omega (arith, ho.at_least)))) el eh)
prefix_subsumes-complete (Some p) (Some q) ho hq el eh =
    elim (cases_lt q.1 p.1) [
      | inl lt ↦ absurd (apart (32 - p.1) q.0 (q.0 + (2 ^ (32 - q.1) - 1)) (first_bits p.1 p.0) (omega (arith, pow-lt {i = 32 - p.1} {j = 32 - q.1} (omega (arith, ho.at_most)))) el eh)
      | inr le ↦ and_from (leb p.1 q.1) (first_bits p.1 p.0 == first_bits p.1 q.0) (le-leb p.1 q.1 le) (eq-eqb (first_bits p.1 p.0) (first_bits p.1 q.0) (sym el))
    ]

pub prefix_subsumes-antisym : (o p : Option (ℕ × ℕ)) → IfSome o IsPrefix → IfSome p IsPrefix → prefix_subsumes o p ≡ true → prefix_subsumes p o ≡ true → o ≡ p
prefix_subsumes-antisym None None ho hp t u = refl
prefix_subsumes-antisym None (Some q) ho hp t u = absurd cc
prefix_subsumes-antisym (Some p) None ho hp t u = absurd cc
prefix_subsumes-antisym (Some p) (Some q) ho hq t u =
    let pq = and_parts (leb p.1 q.1) (first_bits p.1 p.0 == first_bits p.1 q.0) t in
    let qp = and_parts (leb q.1 p.1) (first_bits q.1 q.0 == first_bits q.1 p.0) u in
    let len : p.1 ≡ q.1 = omega (arith, leb-true p.1 q.1 pq.0, leb-true q.1 p.1 qp.0) in
    let bits : first_bits p.1 p.0 ≡ first_bits p.1 q.0 = eqb-true (first_bits p.1 p.0) (first_bits p.1 q.0) pq.1 in
    let address : p.0 ≡ q.0 =
    sym (clear_is p ho) ∙ ap (λ v. v * 2 ^ (32 - p.1)) bits ∙ ap (λ n. q.0 / 2 ^ (32 - n) * 2 ^ (32 - n)) len ∙ clear_is q hq in
    λ i. Some (address i, len i)

pub prefix_overlaps-complete : (o p : Option (ℕ × ℕ)) (x : ℕ) → AgreesOnPrefix o x → AgreesOnPrefix p x → prefix_overlaps o p ≡ true
prefix_overlaps-complete None p x h k = refl
prefix_overlaps-complete (Some p) None x h k = refl
prefix_overlaps-complete (Some p) (Some q) x h k =
    eq-eqb (first_bits (min p.1 q.1) p.0) (first_bits (min p.1 q.1) q.0)
    (sym (shorter (min p.1 q.1) p.1 x p.0 (omega arith) h) ∙ shorter (min p.1 q.1) q.1 x q.0 (omega arith) k)

meet-both-at : (p q : ℕ × ℕ) (x : ℕ) (b : Bool) → leb q.1 p.1 ≡ b → first_bits (min p.1 q.1) p.0 ≡ first_bits (min p.1 q.1) q.0 → AgreesOnPrefix (cond b (Some p) (Some q)) x → AgreesOnPrefix (Some p) x × AgreesOnPrefix (Some q) x
meet-both-at p q x true e t h =
    let le : q.1 ≤ p.1 = leb-true q.1 p.1 e in
    let n : min p.1 q.1 ≡ q.1 = omega arith in
    (h, shorter q.1 p.1 x p.0 le h ∙ (ap (λ n. first_bits n p.0) (sym n) ∙ t ∙ ap (λ n. first_bits n q.0) n))
meet-both-at p q x false e t h =
    let lt : p.1 < q.1 = leb-false q.1 p.1 e in
    let n : min p.1 q.1 ≡ p.1 = omega arith in
    (shorter p.1 q.1 x q.0 (omega arith) h ∙ (ap (λ n. first_bits n q.0) (sym n) ∙ sym t ∙ ap (λ n. first_bits n p.0) n), h)

pub prefix_meet-both : (o p : Option (ℕ × ℕ)) (x : ℕ) → prefix_overlaps o p ≡ true → AgreesOnPrefix (prefix_meet o p) x → AgreesOnPrefix o x × AgreesOnPrefix p x
prefix_meet-both None p x t h = (tt, h)
prefix_meet-both (Some p) None x t h = (h, tt)
prefix_meet-both (Some p) (Some q) x t h = meet-both-at p q x (leb q.1 p.1) refl (eqb-true (first_bits (min p.1 q.1) p.0) (first_bits (min p.1 q.1) q.0) t) h

meet-choice : (p q : ℕ × ℕ) (P : Option (ℕ × ℕ) → Type 0) (b : Bool) → P (Some p) → P (Some q) → P (cond b (Some p) (Some q))
meet-choice p q P true h k = h
meet-choice p q P false h k = k

pub prefix_meet-from : (o p : Option (ℕ × ℕ)) (x : ℕ) → AgreesOnPrefix o x → AgreesOnPrefix p x → AgreesOnPrefix (prefix_meet o p) x
prefix_meet-from None p x h k = k
prefix_meet-from (Some p) None x h k = h
prefix_meet-from (Some p) (Some q) x h k = meet-choice p q (λ o. AgreesOnPrefix o x) (leb q.1 p.1) h k

pub prefix_meet-within : (o p : Option (ℕ × ℕ)) → IfSome o IsPrefix → IfSome p IsPrefix → IfSome (prefix_meet o p) IsPrefix
prefix_meet-within None p h k = k
prefix_meet-within (Some p) None h k = h
prefix_meet-within (Some p) (Some q) h k = meet-choice p q (λ o. IfSome o IsPrefix) (leb q.1 p.1) h k
