use Rattle.std.proofs.Common.{◌-◌}
use Rattle.keyed_rows.specs.Keyed.{place}
use Rattle.keyed_rows.specs.laws.OrderLaws.{IsRest}
use Rattle.keyed_rows.proofs.search.are_in_order.Given as goal

abbrev pub invariant-loop-at : goal.invariant-loop-at
invariant-loop-at g l = IsRest (place g.T.Keyed.key_of) l.at l.rows

abbrev pub decreases-loop-at : goal.decreases-loop-at
decreases-loop-at g l = l.last - l.at
