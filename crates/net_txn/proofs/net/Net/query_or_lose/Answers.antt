use Rattle.std.proofs.Common.{refl, sym, ap, ◌∙◌, subst, arith, Ok, Err}
use Rattle.std.specs.Prelude.{vec_len}
use Rattle.app_frames.specs.declared.frame.Answer.TheVariants.{Unknown}
use Rattle.lego_model.specs.BarrierWaits.{next_xid}
use Rattle.net_txn.specs.Net.{NetState}
use Rattle.net_txn.specs.declared.halt.Halt.{Halt}
use Rattle.net_txn.specs.Asks.{Inquiry}
use Rattle.net_txn.specs.Queries.{QueriesFrom, Queried}
use Rattle.net_txn.specs.laws.QueryLaws.{queried_ok, queried_fault, queried_lost}
use Rattle.net_txn.specs.Parting.{IsPlainHalt}
use Rattle.net_txn.proofs.net.Net.query_or_lose.Goals as goal

pub returns-in-Ok-clause-queried : goal.returns-in-Ok-clause-queried
returns-in-Ok-clause-queried g c =
    let s = c.self.inside in
    let old = g.W.World.seen c.args.world.now in
    let new = g.W.World.seen c.ask_statistics.new.world in
    let net : NetState = record { views = s.views; ports = s.ports.known; left = s.ports.left; log = s.log.items; held = record { packets = s.held.items; notices = s.notices }; xid = s.xid; moment = s.moment; kept = s.kept; room = vec_len s.rooms } in
    let i : Inquiry = record { dpid = c.args.dpid; xid = s.xid; query = c.args.query } in
    let now : NetState = record net { xid = c.following-self-inside.result; kept = c.ask_statistics.new.kept } in
    subst (λ (n : NetState). Queried g.W.World.Tells (record { dpid = c.args.dpid; xid = n.xid; query = c.args.query }) old new n now (Ok c.in-Ok.answer)) c.self.view_is
    (queried_ok {Tells = g.W.World.Tells} i c.following-self-inside.result old new net c.ask_statistics.new.kept c.requires (omega arith) refl (c.following-self-inside.ensures.next ∙ ap next_xid c.following.ensures.next) c.in-Ok.answer c.in-Ok.ensures.queries)

pub returns-in-Err-Fault-clause-queried : goal.returns-in-Err-Fault-clause-queried
returns-in-Err-Fault-clause-queried g c =
    let s = c.self.inside in
    let old = g.W.World.seen c.args.world.now in
    let new = g.W.World.seen c.ask_statistics.new.world in
    let net : NetState = record { views = s.views; ports = s.ports.known; left = s.ports.left; log = s.log.items; held = record { packets = s.held.items; notices = s.notices }; xid = s.xid; moment = s.moment; kept = s.kept; room = vec_len s.rooms } in
    let i : Inquiry = record { dpid = c.args.dpid; xid = s.xid; query = c.args.query } in
    let now : NetState = record net { xid = c.following-self-inside.result; kept = c.ask_statistics.new.kept } in
    subst (λ (n : NetState). Queried g.W.World.Tells (record { dpid = c.args.dpid; xid = n.xid; query = c.args.query }) old new n now (Err c.in-Err-Fault.fault)) c.self.view_is
    (queried_fault {Tells = g.W.World.Tells} i c.following-self-inside.result old new net c.ask_statistics.new.kept c.requires (omega arith) refl (c.following-self-inside.ensures.next ∙ ap next_xid c.following.ensures.next) c.in-Err-Fault.fault
    (subst (λ (h : Halt). QueriesFrom g.W.World.Tells i old new s.kept c.ask_statistics.new.kept (Err h)) c.in-Err-Fault.field-0-is c.in-Err-Fault.ensures.queries))

pub returns-in-Err-Lost-clause-queried : goal.returns-in-Err-Lost-clause-queried
returns-in-Err-Lost-clause-queried g c =
    let s = c.self.inside in
    let old = g.W.World.seen c.args.world.now in
    let new = g.W.World.seen c.ask_statistics.new.world in
    let net : NetState = record { views = s.views; ports = s.ports.known; left = s.ports.left; log = s.log.items; held = record { packets = s.held.items; notices = s.notices }; xid = s.xid; moment = s.moment; kept = s.kept; room = vec_len s.rooms } in
    let i : Inquiry = record { dpid = c.args.dpid; xid = s.xid; query = c.args.query } in
    let now = queried_lost {Tells = g.W.World.Tells} i c.following-self-inside.result old new net c.ask_statistics.new.kept c.requires (omega arith) refl (c.following-self-inside.ensures.next ∙ ap next_xid c.following.ensures.next)
    (subst (λ (h : Halt). QueriesFrom g.W.World.Tells i old new s.kept c.ask_statistics.new.kept (Err h)) c.in-Err-Lost.field-0-is c.in-Err-Lost.ensures.queries) in
    subst (λ (n : NetState). Queried g.W.World.Tells (record { dpid = c.args.dpid; xid = n.xid; query = c.args.query }) old new n c.lose.new.self (Ok Unknown)) c.self.view_is
    (subst (λ (n : NetState). Queried g.W.World.Tells i old new net n (Ok Unknown)) (sym c.lose.ensures) now)

pub returns-in-Err-Fault-clause-parted : goal.returns-in-Err-Fault-clause-parted
returns-in-Err-Fault-clause-parted g c = λ can. subst IsPlainHalt c.in-Err-Fault.field-0-is (c.in-Err-Fault.ensures.parted can)
