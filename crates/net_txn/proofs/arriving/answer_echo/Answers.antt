use Rattle.std.proofs.Common.{◌∙◌, refl}
use Rattle.std.proofs.lemmas.Result.{err_from_is_err_and}
use Rattle.net_txn.specs.laws.TalkLaws.{speaks_none, says_speak, says_told}
use Rattle.net_txn.specs.laws.ArrivalLaws.{says_halt}
use Rattle.net_txn.specs.laws.OwnIdLaws.{echo_ascends}
use Rattle.net_txn.proofs.arriving.answer_echo.Goals as goal

pub returns-in_err-reply-clause-speaks : goal.returns-in_err-reply-clause-speaks
returns-in_err-reply-clause-speaks g c = speaks_none g.W.World.Tells c.args.dpid 0 0 (g.W.World.seen c.args.world.now)

pub returns-in_err-reply-clause-halts : goal.returns-in_err-reply-clause-halts
returns-in_err-reply-clause-halts g c =
    let p = err_from_is_err_and c.from_residual.result c.from_residual.ensures.1 in
    rw (p.1, p.2) (refl, λ told. refl)

pub returns-clause-speaks : goal.returns-clause-speaks
returns-clause-speaks g c = says_speak 0 0 c.as_slice.result.now c.say.result c.say.ensures (echo_ascends c.args.dpid c.args.xid c.args.payload.now c.as_slice.result.now (c.as_slice.ensures ∙ c.in_ok-reply.ensures.bytes))

pub returns-clause-halts : goal.returns-clause-halts
returns-clause-halts g c = says_halt g.W.World.Tells c.args.dpid c.as_slice.result.now (g.W.World.seen c.args.world.now) (g.W.World.seen c.say.new.world) c.say.result c.say.ensures

pub returns-clause-told : goal.returns-clause-told
returns-clause-told g c =
    says_told g.W.World.Tells c.args.dpid c.as_slice.result.now _ (g.W.World.seen c.args.world.now) (g.W.World.seen c.say.new.world) c.say.result (c.as_slice.ensures ∙ c.in_ok-reply.ensures.bytes) c.say.ensures
