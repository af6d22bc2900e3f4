use Rattle.std.proofs.Common.{◌≡◌, ◌<◌, ◌≤◌, ◌-◌, ℕ, false, length, get_or}
use Rattle.of_match.specs.declared.key.Key.{Key}
use Rattle.tuple_index.specs.Reach.{key_clashes}
use Rattle.tuple_index.proofs.reaching.clashes_some.Given as goal

abbrev pub invariant-loop-at : goal.invariant-loop-at
invariant-loop-at l =
    (l.at ≤ length l.keys) × ((i : ℕ) (k : Key) → i < l.at → key_clashes l.key (get_or l.keys i k) ≡ false)

abbrev pub decreases-loop-at : goal.decreases-loop-at
decreases-loop-at l = length l.keys - l.at
