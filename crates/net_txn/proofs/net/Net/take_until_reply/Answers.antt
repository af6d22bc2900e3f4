use Rattle.std.proofs.Common.{subst, inl, inr, refl, Ok, Err}
use Rattle.std.specs.Prelude.{vec_len}
use Rattle.lego_model.specs.declared.fault.TxnFault.TheVariants.{NoMemory}
use Rattle.std.proofs.lemmas.Result.{err_from_is_err_and}
use Rattle.net_txn.specs.declared.halt.Halt.{Halt}
use Rattle.net_txn.specs.Net.{NetState}
use Rattle.net_txn.specs.ReleaseSteps.{BarrierStops, TakesUntilReply}
use Rattle.net_txn.specs.laws.PacketReleaseLaws.{stops_lost, short_behind}
use Rattle.net_txn.specs.laws.ReleaseStepLaws.{stays_same}
use Rattle.net_txn.specs.Parting.{IsPlainHalt}
use Rattle.net_txn.proofs.net.Net.take_until_reply.Goals as goal

pub returns-in_ok-take_all-in-Ok-clause-takes : goal.returns-in_ok-take_all-in-Ok-clause-takes
returns-in_ok-take_all-in-Ok-clause-takes g c =
    let old = g.W.World.seen c.args.world.now in
    let new = g.W.World.seen c.await_behind.new.world in
    subst (λ (x : NetState). TakesUntilReply g.W.World.Tells c.args.awaited.now old new x c.take_all.new.net c.args.queue.now c.take_all.new.queue (Ok tt)) c.self.view_is
    (inl (record { came = c.in-Ok.came.items; passed = c.in-Ok.ensures.awaits; taken = c.in_ok-take_all-in-Ok.ensures.ok; stays = c.in_ok-take_all-in-Ok.ensures.stays }))

pub returns-in_err-take_all-in-Ok-clause-takes : goal.returns-in_err-take_all-in-Ok-clause-takes
returns-in_err-take_all-in-Ok-clause-takes g c =
    let p = err_from_is_err_and c.from_residual.result c.from_residual.ensures.1 in
    let old = g.W.World.seen c.args.world.now in
    let new = g.W.World.seen c.await_behind.new.world in
    rw (p.1, p.2) (subst (λ (x : NetState). TakesUntilReply g.W.World.Tells c.args.awaited.now old new x c.take_all.new.net c.args.queue.now c.take_all.new.queue (Err NoMemory)) c.self.view_is
    (record { stops = short_behind c.args.awaited.now old new c.in-Ok.came.items c.in-Ok.ensures.awaits; stays = c.in_err-take_all-in-Ok.ensures.stays }))

pub returns-in-Err-Lost-clause-takes : goal.returns-in-Err-Lost-clause-takes
returns-in-Err-Lost-clause-takes g c =
    let old = g.W.World.seen c.args.world.now in
    let new = g.W.World.seen c.await_behind.new.world in
    subst (λ (x : NetState). TakesUntilReply g.W.World.Tells c.args.awaited.now old new x c.lose.new.self c.args.queue.now c.args.queue.now (Ok tt)) c.self.view_is
    (inr (record { broke = stops_lost c.args.awaited.now old new c.in-Err-Lost.field-0 c.in-Err-Lost.field-0-is c.in-Err-Lost.ensures.awaits; net_is = c.lose.ensures; queue_is = refl }))

pub returns-in-Err-Fault-clause-takes : goal.returns-in-Err-Fault-clause-takes
returns-in-Err-Fault-clause-takes g c =
    let s = c.self.inside in
    let old = g.W.World.seen c.args.world.now in
    let new = g.W.World.seen c.await_behind.new.world in
    let net : NetState = record { views = s.views; ports = s.ports.known; left = s.ports.left; log = s.log.items; held = record { packets = s.held.items; notices = s.notices }; xid = s.xid; moment = s.moment; kept = s.kept; room = vec_len s.rooms } in
    subst (λ (x : NetState). TakesUntilReply g.W.World.Tells c.args.awaited.now old new x net c.args.queue.now c.args.queue.now (Err c.in-Err-Fault.fault)) c.self.view_is
    (record { stops = subst (λ (h : Halt). BarrierStops g.W.World.Tells c.args.awaited.now old new h) c.in-Err-Fault.field-0-is c.in-Err-Fault.ensures.awaits; stays = stays_same net })

pub returns-in-Err-Fault-clause-parted : goal.returns-in-Err-Fault-clause-parted
returns-in-Err-Fault-clause-parted g c = λ can. subst IsPlainHalt c.in-Err-Fault.field-0-is (c.in-Err-Fault.ensures.parted can)
