-- Keys ascend as their numbers do, and keys with the same number are one key.
use Rattle.std.proofs.Common.{◌≡◌, ℕ, suc, ◌+◌, ◌-◌, ◌*◌, ◌^◌, ◌<◌, ◌≤◌, List, [], ◌∷◌, length, refl, sym, ap, subst, ◌∙◌, arith, inl, inr}
use Rattle.std.proofs.lemmas.Bool.{cases_lt}
use Rattle.std.proofs.lemmas.Map.Lookups.{exact_bytes, exact_unsigned}
use Rattle.std.proofs.Math.Nat.{mul-le-mul_right, pow-suc}
use Rattle.std.specs.Ordering.{nat_cmp, ordering_then}
use Rattle.std.specs.Cmp.{nat_cmp_is}
use Rattle.std.specs.Cmp.Lexicographic.{slice_cmp}
use Rattle.std.specs.declared.cmp.Ordering.{Ordering}
use Rattle.std.specs.declared.cmp.Ordering.TheVariants.{Less, Equal, Greater}
use Rattle.of_match.specs.declared.flow_match.Match.{Match}
use Rattle.of_match.specs.declared.key.Key.{Key}
use Rattle.of_match.specs.laws.FieldsLaws.{AreBytes}
use Rattle.of_match.specs.laws.MatchLaws.{bytes-injective, match-length, match-AreBytes}
use Rattle.of_match.specs.Key.{key_cmp, number, key_number, IsKey}

-- ---- The order of numbers in a base.

below-less : (m n : ℕ) → m < n → nat_cmp m n ≡ Less
below-less m n lt = sym (nat_cmp_is m n Less lt)

above-greater : (m n : ℕ) → n < m → nat_cmp m n ≡ Greater
above-greater m n lt = sym (nat_cmp_is m n Greater lt)

same-equal : (m n : ℕ) → m ≡ n → nat_cmp m n ≡ Equal
same-equal m n e = sym (nat_cmp_is m n Equal e)

digit-lt : (p q m n base : ℕ) → m < base → p < q → p * base + m < q * base + n
digit-lt p q m n base hm lt = omega (arith, mul-le-mul_right {m = suc p} {n = q} base lt)

digits-same : (p q m n base : ℕ) → p ≡ q → nat_cmp (p * base + m) (q * base + n) ≡ nat_cmp m n
digits-same p q m n base e =
    elim (cases_lt m n) [
      | inl lt ↦ rw (below-less m n lt) (below-less (p * base + m) (q * base + n) (omega (arith, ap (λ k. k * base) e)))
      | inr le ↦ elim (cases_lt n m) [
        | inl gt ↦ rw (above-greater m n gt) (above-greater (p * base + m) (q * base + n) (omega (arith, ap (λ k. k * base) e)))
        | inr ge ↦ rw (same-equal m n (omega arith)) (same-equal (p * base + m) (q * base + n) (omega (arith, ap (λ k. k * base) e)))
      ]
    ]

-- a number of two digits is ordered by the first digit, then by the second
pub digits-cmp : (p q m n base : ℕ) → m < base → n < base → nat_cmp (p * base + m) (q * base + n) ≡ ordering_then (nat_cmp p q) (nat_cmp m n)
digits-cmp p q m n base hm hn =
    elim (cases_lt p q) [
      | inl lt ↦ rw (below-less p q lt) (below-less _ _ (digit-lt p q m n base hm lt))
      | inr le ↦ elim (cases_lt q p) [
        | inl gt ↦ rw (above-greater p q gt) (above-greater _ _ (digit-lt q p n m base hn gt))
        | inr ge ↦ let e : p ≡ q = omega arith in rw (same-equal p q e) (digits-same p q m n base e)
      ]
    ]

-- ---- The bytes of a match.

number-lt : (bytes : List ℕ) → AreBytes bytes → number bytes < 256 ^ length bytes
unfolding number
number-lt [] h = omega arith
number-lt (b ∷ bytes) h =
    let more : b ≤ 255 = omega (arith, h.0) in
    rw (pow-suc 256 (length bytes)) (omega (arith, mul-le-mul_right {m = b} {n = 255} (256 ^ length bytes) more, number-lt bytes h.1))

number-cmp : (xs ys : List ℕ) → length xs ≡ length ys → AreBytes xs → AreBytes ys → nat_cmp (number xs) (number ys) ≡ slice_cmp nat_cmp xs ys
unfolding number
number-cmp [] [] e hx hy = refl
number-cmp [] (y ∷ ys) e hx hy = absurd (omega arith)
number-cmp (x ∷ xs) [] e hx hy = absurd (omega arith)
number-cmp (x ∷ xs) (y ∷ ys) e hx hy =
    let same : length xs ≡ length ys = omega arith in
    ap (λ k. nat_cmp (x * 256 ^ length xs + number xs) (y * 256 ^ k + number ys)) (sym same)
    ∙ digits-cmp x y (number xs) (number ys) (256 ^ length xs) (number-lt xs hx.1) (rw same (number-lt ys hy.1))
    ∙ ap (ordering_then (nat_cmp x y)) (number-cmp xs ys same hx.1 hy.1)

pub match-number-lt : (m : Match) → number m.bytes < 256 ^ 40
match-number-lt m = subst (λ k. number m.bytes < 256 ^ k) (match-length m) (number-lt m.bytes (match-AreBytes m))

priority-cmp : (p q : ℕ) → p < 2 ^ 16 → q < 2 ^ 16 → nat_cmp (65535 - p) (65535 - q) ≡ nat_cmp q p
priority-cmp p q hp hq =
    elim (cases_lt q p) [
      | inl lt ↦ rw (below-less q p lt) (below-less (65535 - p) (65535 - q) (omega arith))
      | inr le ↦ elim (cases_lt p q) [
        | inl gt ↦ rw (above-greater q p gt) (above-greater (65535 - p) (65535 - q) (omega arith))
        | inr ge ↦ rw (same-equal q p (omega arith)) (same-equal (65535 - p) (65535 - q) (omega arith))
      ]
    ]

pub key_number-cmp : (a b : Key) → IsKey a → IsKey b → nat_cmp (key_number a) (key_number b) ≡ key_cmp a b
unfolding key_number
key_number-cmp a b ha hb =
    digits-cmp (65535 - a.priority) (65535 - b.priority) (number a.matching.bytes) (number b.matching.bytes) (256 ^ 40) (match-number-lt a.matching) (match-number-lt b.matching)
    ∙ ap (λ o. ordering_then o (nat_cmp (number a.matching.bytes) (number b.matching.bytes))) (priority-cmp a.priority b.priority ha.priority hb.priority)
    ∙ ap (ordering_then (nat_cmp b.priority a.priority)) (number-cmp a.matching.bytes b.matching.bytes (match-length a.matching ∙ sym (match-length b.matching)) (match-AreBytes a.matching) (match-AreBytes b.matching))

then-first : (r s : Ordering) → ordering_then r s ≡ Equal → r ≡ Equal
then-first Less s e = absurd cc
then-first Equal s e = refl
then-first Greater s e = absurd cc

then-second : (r s : Ordering) → ordering_then r s ≡ Equal → s ≡ Equal
then-second Less s e = absurd cc
then-second Equal s e = e
then-second Greater s e = absurd cc

-- keys that compare as equal are one key
pub key_cmp-equal : (a b : Key) → key_cmp a b ≡ Equal → a ≡ b
key_cmp-equal a b e =
    let priority : b.priority ≡ a.priority = exact_unsigned b.priority a.priority (then-first _ _ e) in
    let bytes : a.matching.bytes ≡ b.matching.bytes = exact_bytes a.matching.bytes b.matching.bytes (then-second _ _ e) in
    let matching : a.matching ≡ b.matching = bytes-injective a.matching b.matching bytes in
    λ i. record { priority = sym priority i; matching = matching i }

pub key_number-injective : (a b : Key) → IsKey a → IsKey b → key_number a ≡ key_number b → a ≡ b
key_number-injective a b ha hb e = key_cmp-equal a b (sym (key_number-cmp a b ha hb) ∙ same-equal (key_number a) (key_number b) e)
