use Rattle.std.proofs.Common.{◌≤◌, ◌-◌, length}
use Rattle.flow_table.specs.Sorted.{Around}
use Rattle.shadow_tables.specs.InStep.{lent_place}
use Rattle.shadow_tables.proofs.tables.position.Given as goal

abbrev pub invariant-loop-low : goal.invariant-loop-low
invariant-loop-low l = (l.low ≤ l.high) × (l.high ≤ length l.views) × Around lent_place l.dpid l.low l.high l.views

abbrev pub decreases-loop-low : goal.decreases-loop-low
decreases-loop-low l = l.high - l.low
