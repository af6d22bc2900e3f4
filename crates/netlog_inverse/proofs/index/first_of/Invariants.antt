use Rattle.std.proofs.Common.{◌≤◌, ◌-◌, length}
use Rattle.netlog_inverse.specs.Index.{dpid_rank, Parts}
use Rattle.netlog_inverse.proofs.index.first_of.Given as goal

abbrev pub invariant-loop-low : goal.invariant-loop-low
invariant-loop-low l = (l.low ≤ l.high) × (l.high ≤ length l.index) × Parts (dpid_rank l.dpid) l.low l.high l.index

abbrev pub decreases-loop-low : goal.decreases-loop-low
decreases-loop-low l = l.high - l.low
