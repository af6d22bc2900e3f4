-- The Internet checksum (RFC 1071).
use Rattle.std.specs.Prelude.{◌==◌, ℕ, ◌+◌, ◌-◌, ◌*◌, ◌%◌, List, [], ◌∷◌, nat_lt, if◌then◌else◌}

-- The sum of the words of 16 bits, the high byte first. An odd byte at the end has a zero byte behind it.
unfoldable pub word_sum : List ℕ → ℕ
word_sum [] = 0
word_sum (high ∷ []) = 256 * high
word_sum (high ∷ low ∷ bytes) = 256 * high + low + word_sum bytes

-- The one's complement sum of words that have this sum: a carry out of the high bit is added at the low one,
-- so that sums are equal modulo 2^16 - 1, and only words that are all zero have the sum zero.
abbrev pub ones_complement_sum : ℕ → ℕ
ones_complement_sum sum = if sum == 0 then 0 else 1 + (sum - 1) % 0xffff

-- The checksum is the one's complement of that sum: with it among the words, the checksum is 0.
unfoldable pub checksum : ℕ → ℕ
checksum sum = 0xffff - ones_complement_sum sum

-- ---- The same by the standard's procedure: words added one by one, each carry added at the low bit (RFC 1071, 1).

abbrev pub with_carry : ℕ → ℕ → ℕ
with_carry a b = if nat_lt (a + b) 0x1_0000 then a + b else a + b - 0xffff

unfoldable pub carried_sum : List ℕ → ℕ
carried_sum [] = 0
carried_sum (high ∷ []) = 256 * high
carried_sum (high ∷ low ∷ bytes) = with_carry (256 * high + low) (carried_sum bytes)
