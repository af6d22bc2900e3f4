-- Which of some keys a packet takes, said of keys in any order (OpenFlow 1.0.0, 3.4 Matching): of those that cover it the one of greatest
-- rank, and among equals the least key.
use Rattle.std.specs.Prelude.{◌≡◌, ℕ, ◌+◌, ◌<◌, ◌≤◌, true, false, List, length, slice_index_or, Option, Some, None, if◌then◌else◌}
use Rattle.std.proofs.Common.{◌⊎◌}
use Rattle.of_match.specs.declared.key.Key.{Key}
use Rattle.of_match.specs.declared.packet_key.PacketKey.{PacketKey}
use Rattle.of_match.specs.Covers.{is_covering}
use Rattle.of_match.specs.Fields.{is_exact}
use Rattle.of_match.specs.Key.{key_number}
use Rattle.of_match.specs.Match.{fields_in}
use Rattle.tuple_index.specs.Groups.{wildcards}

-- the rank of the entry with a key
unfoldable pub key_rank : Key → ℕ
key_rank k = if is_exact (fields_in k.matching) then 65536 + k.priority else k.priority

-- the first is taken before the second, or is it
abbrev pub Prevails : Key → Key → Type 0
Prevails a b = (key_rank b < key_rank a) ⊎ ((key_rank a ≡ key_rank b) × (key_number a ≤ key_number b))

-- of the keys that pass a condition on their places, none covers the packet, or the one at a place is taken
abbrev pub IsTakenOf : (ℕ → Type 0) → PacketKey → List Key → Option ℕ → Type 0
IsTakenOf P packet ks None = (i : ℕ) (k : Key) → P i → i < length ks → is_covering (slice_index_or ks i k).matching packet ≡ false
IsTakenOf P packet ks (Some j) =
    (j < length ks)
    × ((k : Key) → is_covering (slice_index_or ks j k).matching packet ≡ true)
    × ((i : ℕ) (k : Key) → P i → i < length ks → is_covering (slice_index_or ks i k).matching packet ≡ true → Prevails (slice_index_or ks j k) (slice_index_or ks i k))

-- of the first n keys
abbrev pub IsTaken : ℕ → PacketKey → List Key → Option ℕ → Type 0
IsTaken n packet ks found = IsTakenOf (λ i. i < n) packet ks found

-- of the keys in the group of the key at a place
abbrev pub IsTakenInGroup : ℕ → PacketKey → List Key → Option ℕ → Type 0
IsTakenInGroup at packet ks found =
    IsTakenOf (λ i. (k : Key) → wildcards (slice_index_or ks i k).matching ≡ wildcards (slice_index_or ks at k).matching) packet ks found
