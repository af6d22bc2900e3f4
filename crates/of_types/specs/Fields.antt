-- Numbers and bytes at offsets. All numbers of the wire have their highest byte first (OpenFlow 1.0.0, 5).
use Rattle.std.specs.Prelude.{ℕ, ◌+◌, ◌<◌, List, ◌++◌, length, take, drop, slice_index}
use Rattle.byteorder.specs.Endian.{big_number, big_bytes}

-- the number in the n bytes from offset at on
unfoldable pub number_at : ℕ → ℕ → List ℕ → ℕ
number_at n at bytes = big_number n (drop at bytes)

-- the n bytes of a number
unfoldable pub number_bytes : ℕ → ℕ → List ℕ
number_bytes n x = big_bytes n x

-- the n bytes from offset at on
abbrev pub piece : ℕ → ℕ → List ℕ → List ℕ
piece n at bytes = take n (drop at bytes)

-- the bytes, with a field instead of those from offset at on
abbrev pub with_field : ℕ → List ℕ → List ℕ → List ℕ
with_field at field bytes = take at bytes ++ (field ++ drop (at + length field) bytes)

-- each is a byte
abbrev pub IsBytes : List ℕ → Type 0
IsBytes bytes = (i : ℕ) → slice_index bytes i < 256
