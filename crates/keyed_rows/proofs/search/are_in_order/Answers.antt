use Rattle.std.proofs.Common.{refl, arith}
use Rattle.keyed_rows.specs.Keyed.{place}
use Rattle.keyed_rows.specs.laws.OrderLaws.{IsRest-last}
use Rattle.keyed_rows.proofs.search.are_in_order.Goals as goal

pub returns : goal.returns
returns g c = let all = IsRest-last (place g.T.Keyed.key_of) c.args.rows.now c.loop-at.at (omega arith) c.loop-at.invariant in (λ yes. all, λ h. refl)
