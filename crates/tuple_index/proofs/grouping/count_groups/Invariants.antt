use Rattle.std.proofs.Common.{◌≡◌, ◌+◌, ◌≤◌, ◌-◌, length, drop, map}
use Rattle.tuple_index.specs.Groups.{wildcards, different}
use Rattle.tuple_index.proofs.grouping.count_groups.Given as goal

abbrev pub invariant-loop-at : goal.invariant-loop-at
invariant-loop-at l =
    (l.at ≤ length l.keys) × (l.count ≤ l.at)
    × (l.count + different (map (λ k. wildcards k.matching) (drop l.at l.keys)) ≡ different (map (λ k. wildcards k.matching) l.keys))

abbrev pub decreases-loop-at : goal.decreases-loop-at
decreases-loop-at l = length l.keys - l.at
