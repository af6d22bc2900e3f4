-- Lengths in two bytes, and a list's bytes one action further.
use Rattle.std.proofs.Common.{◌≡◌, ℕ, ◌/◌, ◌%◌, refl, arith}
use Rattle.of_types.specs.Fields.{number_bytes}

pub low_half : (x : ℕ) → number_bytes 2 (x % 65536) ≡ number_bytes 2 x
unfolding number_bytes
low_half x =
    let high : x % 65536 / 256 % 256 ≡ x / 256 % 256 = omega arith in
    let low : x % 65536 % 256 ≡ x % 256 = omega arith in
    rw (high, low) refl
