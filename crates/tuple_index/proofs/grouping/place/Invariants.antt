use Rattle.std.proofs.Common.{◌≤◌, ◌-◌, length}
use Rattle.flow_table.specs.Sorted.{Around}
use Rattle.tuple_index.specs.Groups.{spot}
use Rattle.tuple_index.proofs.grouping.place.Given as goal

abbrev pub invariant-loop-low : goal.invariant-loop-low
invariant-loop-low l = (l.low ≤ l.high) × (l.high ≤ length l.keys) × Around spot (spot l.key) l.low l.high l.keys

abbrev pub decreases-loop-low : goal.decreases-loop-low
decreases-loop-low l = l.high - l.low
