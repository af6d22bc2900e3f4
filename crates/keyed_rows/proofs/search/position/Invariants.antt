use Rattle.std.proofs.Common.{◌≤◌, ◌-◌, length}
use Rattle.of_match.specs.Key.{key_number}
use Rattle.flow_table.specs.Sorted.{Around}
use Rattle.keyed_rows.specs.Keyed.{place}
use Rattle.keyed_rows.proofs.search.position.Given as goal

abbrev pub invariant-loop-low : goal.invariant-loop-low
invariant-loop-low g l = (l.low ≤ l.high) × (l.high ≤ length l.rows) × Around (place g.T.Keyed.key_of) (key_number l.key) l.low l.high l.rows

abbrev pub decreases-loop-low : goal.decreases-loop-low
decreases-loop-low g l = l.high - l.low
