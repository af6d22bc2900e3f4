use Rattle.std.proofs.Common.{Ok, sym, subst, ◌∙◌}
use Rattle.std.proofs.lemmas.Result.{err_from_is_err_and}
use Rattle.of_wire.specs.declared.bodies.Stats.{Stats as Query}
use Rattle.net_txn.specs.Queries.{Queried}
use Rattle.net_txn.specs.laws.SettleLaws.{settles_gone, settles_standing, settles_short}
use Rattle.net_txn.proofs.net.Net.settle_doubt.Goals as goal

pub returns-in_err-shows_gone-clause-settles : goal.returns-in_err-shows_gone-clause-settles
returns-in_err-shows_gone-clause-settles g c =
    let p = err_from_is_err_and c.from_residual-in_err-shows_gone.result c.from_residual-in_err-shows_gone.ensures.1 in
    rw (p.1, p.2) (settles_short {Tells = g.W.World.Tells} c.args.dpid c.args.frame.now c.args.key.now (g.W.World.seen c.args.world.now) (g.W.World.seen c.query_or_lose.new.world) c.args.self.now c.query_or_lose.new.self c.in_ok-answer.answer
    (subst (λ (q : Query). Queried g.W.World.Tells (record { dpid = c.args.dpid; xid = c.args.self.now.xid; query = q }) (g.W.World.seen c.args.world.now) (g.W.World.seen c.query_or_lose.new.world) c.args.self.now c.query_or_lose.new.self (Ok c.in_ok-answer.answer)) c.in_ok-query.ensures.query c.in_ok-answer.ensures.queried))

pub returns-then-branch-clause-settles : goal.returns-then-branch-clause-settles
returns-then-branch-clause-settles g c =
    settles_gone {Tells = g.W.World.Tells} c.args.dpid c.args.frame.now c.args.key.now (g.W.World.seen c.args.world.now) (g.W.World.seen c.query_or_lose.new.world) (g.W.World.seen c.arrived.new.world) c.args.self.now c.query_or_lose.new.self c.arrived.new.self c.in_ok-answer.answer c.arrived.result
    (subst (λ (q : Query). Queried g.W.World.Tells (record { dpid = c.args.dpid; xid = c.args.self.now.xid; query = q }) (g.W.World.seen c.args.world.now) (g.W.World.seen c.query_or_lose.new.world) c.args.self.now c.query_or_lose.new.self (Ok c.in_ok-answer.answer)) c.in_ok-query.ensures.query c.in_ok-answer.ensures.queried)
    (sym c.in_ok-shows_gone.ensures ∙ c.if-branch.true) c.arrived.ensures

pub returns-clause-settles : goal.returns-clause-settles
returns-clause-settles g c =
    settles_standing {Tells = g.W.World.Tells} c.args.dpid c.args.frame.now c.args.key.now (g.W.World.seen c.args.world.now) (g.W.World.seen c.query_or_lose.new.world) c.args.self.now c.query_or_lose.new.self c.in_ok-answer.answer
    (subst (λ (q : Query). Queried g.W.World.Tells (record { dpid = c.args.dpid; xid = c.args.self.now.xid; query = q }) (g.W.World.seen c.args.world.now) (g.W.World.seen c.query_or_lose.new.world) c.args.self.now c.query_or_lose.new.self (Ok c.in_ok-answer.answer)) c.in_ok-query.ensures.query c.in_ok-answer.ensures.queried)
    (sym c.in_ok-shows_gone.ensures ∙ c.if-branch.false)
