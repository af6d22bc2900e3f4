use Rattle.std.proofs.Common.{arith}
use Rattle.std.proofs.lemmas.Bool.{ltb-true, ltb-false}
use Rattle.netlog_inverse.specs.laws.SpotLaws.{rank-low, rank-high}
use Rattle.netlog_inverse.proofs.index.is_below.Goals as goal

pub returns-clause-below : goal.returns-clause-below
returns-clause-below c = λ is. rank-low c.args.spot.now c.args.dpid (omega arith) (ltb-true c.args.spot.now.dpid c.args.dpid is)

pub returns-clause-above : goal.returns-clause-above
returns-clause-above c = λ is. rank-high c.args.spot.now c.args.dpid (ltb-false c.args.spot.now.dpid c.args.dpid is)
