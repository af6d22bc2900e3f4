-- The order of a flow table: priority descending, then the 40 bytes of the match ascending. Our own choice:
-- OpenFlow 1.0.0 leaves the order among equal priorities open (3.4 Matching).
use Rattle.std.specs.Prelude.{ℕ, ◌+◌, ◌-◌, ◌*◌, ◌^◌, ◌<◌, List, [], ◌∷◌, length}
use Rattle.std.specs.Ordering.{nat_cmp, on, flip_args, then_cmp}
use Rattle.std.specs.Cmp.Lexicographic.{slice_cmp}
use Rattle.std.specs.declared.cmp.Ordering.{Ordering}
use Rattle.of_match.specs.declared.key.Key.{Key}

abbrev pub key_cmp : Key → Key → Ordering
key_cmp = then_cmp (flip_args (on (λ k. k.priority) nat_cmp)) (on (λ k. k.matching.bytes) (slice_cmp nat_cmp))

-- the number that the bytes write in base 256
unfoldable pub number : List ℕ → ℕ
number [] = 0
number (b ∷ bytes) = b * 256 ^ length bytes + number bytes

-- The number of a key in the order of a table: keys ascend as these numbers do.
unfoldable pub key_number : Key → ℕ
key_number k = (65535 - k.priority) * 256 ^ 40 + number k.matching.bytes

-- what each key of the program is
pub record IsKey (k : Key) : Type 0 where
  pub priority : k.priority < 2 ^ 16
