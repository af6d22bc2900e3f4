use Rattle.std.proofs.Common.{◌≤◌, ◌-◌, length}
use Rattle.of_match.specs.Key.{key_number}
use Rattle.flow_table.specs.Table.{Parts}
use Rattle.tuple_index.proofs.describing.position.Given as goal

abbrev pub invariant-loop-low : goal.invariant-loop-low
invariant-loop-low l = (l.low ≤ l.high) × (l.high ≤ length l.entries) × Parts (key_number l.key) l.low l.high l.entries

abbrev pub decreases-loop-low : goal.decreases-loop-low
decreases-loop-low l = l.high - l.low
