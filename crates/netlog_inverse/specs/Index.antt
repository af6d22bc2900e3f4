-- The index of a log: where the images of each key stand in it, in the order of switches, keys and positions. All of this is our own.
use Rattle.std.specs.Prelude.{◌≡◌, ◌==◌, ℕ, ◌+◌, ◌*◌, ◌^◌, ◌<◌, ◌≤◌, Bool, true, false, ◌&&◌, Option, Some, None, List, [], ◌∷◌, ◌++◌, length, slice_index_or}
use Rattle.of_match.specs.declared.key.Key.{Key}
use Rattle.of_match.specs.Key.{key_number}
use Rattle.flow_table.specs.Sorted.{Ascends, at_place}
use Rattle.netlog_inverse.specs.declared.image.Logged.{Logged}
use Rattle.netlog_inverse.specs.declared.image.PutBack.{PutBack}
use Rattle.netlog_inverse.specs.declared.image.PutBack.TheVariants.{Row}
use Rattle.netlog_inverse.specs.declared.index.Spot.{Spot}

-- keys of switches ascend as these numbers do
unfoldable pub key_place : ℕ → Key → ℕ
key_place d k = d * 256 ^ 42 + key_number k

abbrev pub rank_of : ℕ → Key → ℕ → ℕ
rank_of d k at = key_place d k * 2 ^ 64 + at

abbrev pub rank : Spot → ℕ
rank s = rank_of s.dpid s.key s.at

-- the spot is of that key of that switch
abbrev pub is_spot_of : ℕ → Key → Spot → Bool
is_spot_of d k s = s.dpid == d && key_number s.key == key_number k

-- where the images of keys stand, the first image at this position
abbrev pub spot_at : ℕ → ℕ → PutBack → List Spot
spot_at i d (Row k row lost) = record { dpid = d; key = k; at = i } ∷ []
spot_at i d other = []

abbrev pub spots : ℕ → List Logged → List Spot
spots i [] = []
spots i (l ∷ log) = spot_at i l.dpid l.image.put ++ spots (i + 1) log

-- the index holds the spots of the log, in order
pub record IsIndex (log : List Logged) (index : List Spot) : Type 0 where
  pub in_order : Ascends rank 0 index
  pub same : (n : ℕ) → at_place rank n index ≡ at_place rank n (spots 0 log)
  pub long : length index ≡ length (spots 0 log)

-- the spots before the i-th stand below a rank, and those from the j-th on do not
pub record Parts (n i j : ℕ) (index : List Spot) : Type 0 where
  pub below : (k : ℕ) (s : Spot) → k < i → rank (slice_index_or index k s) < n
  pub above : (k : ℕ) (s : Spot) → j ≤ k → k < length index → n ≤ rank (slice_index_or index k s)

-- the first position of a spot that does not stand below a rank
abbrev pub IsBound : ℕ → List Spot → ℕ → Type 0
IsBound n index i = (i ≤ length index) × Parts n i i index

-- whether the spot at a position is of a key of a switch
abbrev pub IsHere : ℕ → Key → ℕ → List Spot → Bool → Type 0
IsHere d k i index true = (i < length index) × ((s : Spot) → is_spot_of d k (slice_index_or index i s) ≡ true)
IsHere d k i index false = (s : Spot) → i < length index → is_spot_of d k (slice_index_or index i s) ≡ false

-- the key of an image, if it is of one
abbrev pub key_in_put : PutBack → Option Key
key_in_put (Row k row lost) = Some k
key_in_put other = None

-- the least rank of a switch's spots, and one below all ranks of the keys behind a key
unfoldable pub dpid_rank : ℕ → ℕ
dpid_rank d = d * 256 ^ 42 * 2 ^ 64

abbrev pub start_rank : ℕ → Option Key → ℕ
start_rank d None = dpid_rank d
start_rank d (Some k) = rank_of d k 18446744073709551615
