use Rattle.std.proofs.Common.{Bool, subst}
use Rattle.netlog_inverse.specs.Index.{IsHere}
use Rattle.netlog_inverse.specs.laws.SpotLaws.{first-found, first-absent}
use Rattle.netlog_inverse.proofs.index.first_from.Goals as goal

pub returns-then-is_here : goal.returns-then-is_here
returns-then-is_here c = λ log h small.
    let here = subst (λ (b : Bool). IsHere c.args.dpid c.args.key.now c.bound-place.result c.args.index.now b) c.if-is_here.true c.is_here.ensures in
    let spot = c.index-index-place.result in
    first-found log c.args.index.now c.args.from c.args.dpid c.args.key.now c.bound-place.result spot h small c.bound-place.ensures here.0 (here.1 spot)

pub returns-else-is_here : goal.returns-else-is_here
returns-else-is_here c = λ log h small.
    let here = subst (λ (b : Bool). IsHere c.args.dpid c.args.key.now c.bound-place.result c.args.index.now b) c.if-is_here.false c.is_here.ensures in
    first-absent log c.args.index.now c.args.from c.args.dpid c.args.key.now c.bound-place.result h small c.bound-place.ensures here
