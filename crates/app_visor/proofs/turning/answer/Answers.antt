use Rattle.std.proofs.Common.{subst}
use Rattle.app_visor.specs.Beats.{Exchanges}
use Rattle.app_visor.specs.laws.TurnLaws.{leads_exchanged}
use Rattle.app_visor.specs.laws.PlayLaws.{plays_answered, plays_unanswered}
use Rattle.app_visor.proofs.turning.answer.Goals as goal

pub returns-then-branch-clause-leads : goal.returns-then-branch-clause-leads
returns-then-branch-clause-leads g c = leads_exchanged c.in_ok-exchange.field-0 c.in_ok-exchange.ensures.ok

pub returns-then-branch-clause-ok : goal.returns-then-branch-clause-ok
returns-then-branch-clause-ok g c =
    let e = rw c.if-branch.true at c.in_ok-exchange.ensures.ok in
    let old = g.W.World.seen c.args.world.now in
    let new = g.W.World.seen c.exchange.new.world in
    let net = c.args.txn.now.net.now in
    let now_net = c.exchange.new.txn.net.now in
    plays_answered g.W.World.Tells (g.J.Judge.accepts c.args.judge.now) c.args.app c.args.dpid c.args.bytes old new net now_net
    (subst (λ b. Exchanges g.W.World.Tells c.args.app c.args.dpid b _ old new net now_net) c.as_slice.ensures e)

pub returns-clause-leads : goal.returns-clause-leads
returns-clause-leads g c = leads_exchanged c.in_ok-exchange.field-0 c.in_ok-exchange.ensures.ok

pub returns-clause-ok : goal.returns-clause-ok
returns-clause-ok g c =
    let e = rw c.if-branch.false at c.in_ok-exchange.ensures.ok in
    let old = g.W.World.seen c.args.world.now in
    let new = g.W.World.seen c.exchange.new.world in
    let net = c.args.txn.now.net.now in
    let now_net = c.exchange.new.txn.net.now in
    plays_unanswered g.W.World.Tells (g.J.Judge.accepts c.args.judge.now) c.args.app c.args.dpid c.args.bytes old new net now_net
    (subst (λ b. Exchanges g.W.World.Tells c.args.app c.args.dpid b _ old new net now_net) c.as_slice.ensures e)
