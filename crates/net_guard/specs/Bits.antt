-- Sets of places as the bits of a number: place i is in the set where bit i is 1.
use Rattle.std.specs.Prelude.{◌≡◌, ◌==◌, ℕ, ◌<◌, Bool, List, length, slice_index, if◌then◌else◌, bit_or}
use Rattle.std.specs.Int.{bit_at}
use Rattle.net_guard.specs.declared.hop.Hop.{Hop}
use Rattle.net_guard.specs.Links.{hop_at}

unfoldable pub has : ℕ → ℕ → Bool
has set i = bit_at set i == 1

-- the set has those hops that pass the test
pub record Marks (set : ℕ) (hops : List Hop) (test : Hop → Bool) : Type 0 where
  pub each : (i : ℕ) → i < length hops → has set i ≡ test (hop_at hops i)

-- the set with those that follow a place, where it has the place
unfoldable pub joined : ℕ → ℕ → ℕ → ℕ
joined k behind set = if has set k then bit_or set behind else set

-- whether the second of two places is in the set of the first
abbrev pub edge_of : List ℕ → ℕ → ℕ → Bool
edge_of graph i j = has (slice_index graph i) j
