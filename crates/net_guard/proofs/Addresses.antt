-- Addresses and their numbers, and the value that stands for an address.
use Rattle.std.proofs.Common.{◌≡◌, ◌⊎◌, ℕ, suc, ◌+◌, ◌*◌, ◌^◌, ◌<◌, ◌≤◌, List, [], ◌∷◌, length, refl, sym, ap, ap₂, ◌∙◌, subst, arith, inl, inr}
use Rattle.std.specs.Prelude.{slice_index}
use Rattle.std.specs.List.{Contains}
use Rattle.std.proofs.lemmas.Bool.{cases_lt}
use Rattle.std.proofs.Math.Nat.{mul-le-mul_right}
use Rattle.of_match.specs.Fields.{IsAddress}
use Rattle.of_match.specs.Key.{number}
use Rattle.net_guard.proofs.Numbers.{number_below, Contains-here, Contains-behind, Contains-cases, no_fewer}

digit_not_less : (x y m n base : ℕ) → n < base → x < y → x * base + m ≡ y * base + n → m < base → ⊥
digit_not_less x y m n base small less same low = omega (arith, mul-le-mul_right {m = suc x} {n = y} base less)

same_digits : (x y m n base : ℕ) → m < base → n < base → x * base + m ≡ y * base + n → (m ≡ n) × (x ≡ y)
same_digits x y m n base low small same =
    elim (cases_lt x y) [
      | inl less ↦ absurd (digit_not_less x y m n base small less same low)
      | inr le ↦ elim (cases_lt y x) [
        | inl less ↦ absurd (digit_not_less y x n m base low less (sym same) small)
        | inr ge ↦ let e : x ≡ y = omega arith in (omega (arith, ap (λ k. k * base) e), e)
      ]
    ]

number_one : (xs ys : List ℕ) → length xs ≡ length ys → ((i : ℕ) → slice_index xs i < 256) → ((i : ℕ) → slice_index ys i < 256) → number xs ≡ number ys → xs ≡ ys
unfolding number
number_one [] [] same a b e = refl
number_one [] (y ∷ ys) same a b e = absurd (omega arith)
number_one (x ∷ xs) [] same a b e = absurd (omega arith)
number_one (x ∷ xs) (y ∷ ys) same a b e =
    let len : length xs ≡ length ys = omega arith in
    let low = number_below xs (λ i. a (suc i)) in
    let small = subst (λ n. number ys < 256 ^ n) (sym len) (number_below ys (λ i. b (suc i))) in
    let both = same_digits x y (number xs) (number ys) (256 ^ length xs) low small (e ∙ ap (λ n. y * 256 ^ n + number ys) (sym len)) in
    let rest = number_one xs ys len (λ i. a (suc i)) (λ i. b (suc i)) both.0 in
    ap₂ (λ z zs. z ∷ zs) both.1 rest

-- addresses with one number are one
pub address_one : (a b : List ℕ) → IsAddress a → IsAddress b → number a ≡ number b → a ≡ b
address_one a b is_a is_b same = number_one a b (is_a.len ∙ sym is_b.len) is_a.bytes is_b.bytes same

-- ---- the greatest number of a list that is not above an address

pub record IsFloor (x : ℕ) (xs : List ℕ) (v : ℕ) : Type 0 where
  pub among : Contains xs v
  pub below : v ≤ x
  pub greatest : (a : ℕ) → Contains xs a → a ≤ x → a ≤ v

floor_or : (x : ℕ) (xs : List ℕ) → ((v : ℕ) × IsFloor x xs v) ⊎ ((a : ℕ) → Contains xs a → x < a)
floor_or x [] = inr (λ a c. absurd (no_fewer a c))
floor_or x (y ∷ ys) =
    elim (cases_lt x y) [
      | inl above ↦ elim (floor_or x ys) [
        | inl had ↦ inl (
          had.0,
          record {
            among = Contains-behind had.0 y ys had.1.among;
            below = had.1.below;
            greatest = λ a c le. elim (Contains-cases a y ys c) [ inl same ↦ absurd (omega arith) | inr behind ↦ had.1.greatest a behind le ];
          },
        )
        | inr none ↦ inr (λ a c. elim (Contains-cases a y ys c) [ inl same ↦ omega arith | inr behind ↦ none a behind ])
      ]
      | inr within ↦ elim (floor_or x ys) [
        | inl had ↦ elim (cases_lt had.0 y) [
          | inl lower ↦ inl (
            y,
            record {
              among = Contains-here y ys;
              below = within;
              greatest = λ a c le. elim (Contains-cases a y ys c) [ inl same ↦ omega arith | inr behind ↦ let most = had.1.greatest a behind le in omega arith ];
            },
          )
          | inr upper ↦ inl (
            had.0,
            record {
              among = Contains-behind had.0 y ys had.1.among;
              below = had.1.below;
              greatest = λ a c le. elim (Contains-cases a y ys c) [ inl same ↦ omega arith | inr behind ↦ had.1.greatest a behind le ];
            },
          )
        ]
        | inr none ↦ inl (
          y,
          record {
            among = Contains-here y ys;
            below = within;
            greatest = λ a c le. elim (Contains-cases a y ys c) [ inl same ↦ omega arith | inr behind ↦ let over = none a behind in absurd (omega arith) ];
          },
        )
      ]
    ]

pub floor : (x : ℕ) (xs : List ℕ) → (v : ℕ) × IsFloor x (0 ∷ xs) v
floor x xs = elim (floor_or x (0 ∷ xs)) [ inl had ↦ had | inr none ↦ let over = none 0 (Contains-here 0 xs) in absurd (omega arith) ]
