use Rattle.std.proofs.Common.{◌≤◌, ◌-◌, length}
use Rattle.tuple_index.specs.Taken.{IsTaken}
use Rattle.tuple_index.proofs.hitting.find.Given as goal

abbrev pub invariant-loop-at : goal.invariant-loop-at
invariant-loop-at l = (l.at ≤ length l.keys) × IsTaken l.at l.k l.keys l.found

abbrev pub decreases-loop-at : goal.decreases-loop-at
decreases-loop-at l = length l.keys - l.at
