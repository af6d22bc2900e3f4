-- Sets as bits: what a place more, both sets, and what two sets have in common have.
use Rattle.std.proofs.Common.{◌≡◌, ◌==◌, ℕ, ◌*◌, ◌%◌, ◌^◌, ◌<◌, false, ◌&&◌, ◌||◌, min, max, refl, arith, inl, inr, Bool, true}
use Rattle.std.proofs.lemmas.Bool.{cases_eq, eq-eqb, ne_eqb}
use Rattle.std.proofs.lemmas.Bool.Decides.{nat_tests}
use Rattle.std.proofs.lemmas.Nat.Bits.{bit_at_or, bit_at_and, bit_at-lt, bit_at-zero, bit_at_set_same, bit_at_set_other}
use Rattle.std.specs.Int.{bit_at, w128}
use Rattle.std.specs.Prelude.{bit_or, bit_and}
use Rattle.net_guard.specs.Bits.{has}

pub has-none : (k : ℕ) → has 0 k ≡ false
unfolding has
has-none k = rw (bit_at-zero k) refl

greater : (a b : ℕ) → a < 2 → b < 2 → (max a b == 1) ≡ ((a == 1) || (b == 1))
greater a b la lb = grind (arith, nat_tests)

lesser : (a b : ℕ) → a < 2 → b < 2 → (min a b == 1) ≡ ((a == 1) && (b == 1))
lesser a b la lb = grind (arith, nat_tests)

pub or-none : (a b : Bool) → b ≡ false → (a || b) ≡ a
or-none true b none = refl
or-none false b none = none

pub has-or : (a b k : ℕ) → has (bit_or a b) k ≡ (has a k || has b k)
unfolding has
has-or a b k = rw (bit_at_or a b k) (greater (bit_at a k) (bit_at b k) (bit_at-lt a k) (bit_at-lt b k))

pub has-and : (a b k : ℕ) → has (bit_and a b) k ≡ (has a k && has b k)
unfolding has
has-and a b k = rw (bit_at_and a b k) (lesser (bit_at a k) (bit_at b k) (bit_at-lt a k) (bit_at-lt b k))

pub has-with : (set i k : ℕ) → i < 128 → has (bit_or set (1 * 2 ^ i % 2 ^ 128)) k ≡ (k == i || has set k)
unfolding has
has-with set i k below =
    elim (cases_eq k i) [
      | inl same ↦ rw (same, bit_at_set_same w128 set i below, eq-eqb i i refl) refl
      | inr other ↦ rw (bit_at_set_other w128 set i below k other, ne_eqb k i other) refl
    ]
