use Rattle.std.proofs.Common.{sym, ap, ◌∙◌, subst, arith, Ok, Err, Some, None}
use Rattle.std.specs.Prelude.{vec_len}
use Rattle.lego_model.specs.BarrierWaits.{next_xid}
use Rattle.net_txn.specs.Net.{NetState}
use Rattle.net_txn.specs.declared.halt.Halt.{Halt}
use Rattle.net_txn.specs.Asks.{Asks}
use Rattle.net_txn.specs.AskSteps.{AsksFrom}
use Rattle.net_txn.specs.laws.AskFaultLaws.{asks_rows, asks_fault, asks_lost, ask_steps, ask_fault_steps}
use Rattle.net_txn.specs.Parting.{IsPlainHalt}
use Rattle.net_txn.proofs.net.Net.rows.Goals as goal

pub returns-in-Ok-clause-asks : goal.returns-in-Ok-clause-asks
returns-in-Ok-clause-asks g c =
    let s = c.self.inside in
    let old = g.W.World.seen c.args.world.now in
    let new = g.W.World.seen c.request_rows.new.world in
    let net : NetState = record { views = s.views; ports = s.ports.known; left = s.ports.left; log = s.log.items; held = record { packets = s.held.items; notices = s.notices }; xid = s.xid; moment = s.moment; kept = s.kept; room = vec_len s.rooms } in
    let now : NetState = record net { xid = c.following-self-inside.result; kept = c.request_rows.new.kept } in
    subst (λ (n : NetState). Asks g.W.World.Tells c.args.dpid old new n now (Ok (Some c.in-Ok.rows))) c.self.view_is
    (asks_rows {Tells = g.W.World.Tells} c.args.dpid c.following-self-inside.result old new net c.request_rows.new.kept c.in-Ok.rows (omega arith) (c.following-self-inside.ensures.next ∙ ap next_xid c.following.ensures.next) c.in-Ok.ensures.asks)

pub returns-in-Ok-clause-in_step : goal.returns-in-Ok-clause-in_step
returns-in-Ok-clause-in_step g c =
    rw (← ap (λ (n : NetState). n.kept) c.self.view_is)
    (ask_steps c.args.dpid c.self.inside.xid (g.W.World.seen c.args.world.now) (g.W.World.seen c.request_rows.new.world) c.self.inside.kept c.request_rows.new.kept c.in-Ok.rows (omega arith) c.in-Ok.ensures.asks)

pub returns-in-Err-Fault-clause-asks : goal.returns-in-Err-Fault-clause-asks
returns-in-Err-Fault-clause-asks g c =
    let s = c.self.inside in
    let old = g.W.World.seen c.args.world.now in
    let new = g.W.World.seen c.request_rows.new.world in
    let net : NetState = record { views = s.views; ports = s.ports.known; left = s.ports.left; log = s.log.items; held = record { packets = s.held.items; notices = s.notices }; xid = s.xid; moment = s.moment; kept = s.kept; room = vec_len s.rooms } in
    let now : NetState = record net { xid = c.following-self-inside.result; kept = c.request_rows.new.kept } in
    subst (λ (n : NetState). Asks g.W.World.Tells c.args.dpid old new n now (Err c.in-Err-Fault.fault)) c.self.view_is
    (asks_fault {Tells = g.W.World.Tells} c.args.dpid c.following-self-inside.result old new net c.request_rows.new.kept c.in-Err-Fault.fault (c.following-self-inside.ensures.next ∙ ap next_xid c.following.ensures.next) (subst (λ (h : Halt). AsksFrom g.W.World.Tells c.args.dpid c.self.inside.xid (g.W.World.seen c.args.world.now) (g.W.World.seen c.request_rows.new.world) c.self.inside.kept c.request_rows.new.kept (Err h)) c.in-Err-Fault.field-0-is c.in-Err-Fault.ensures.asks))

pub returns-in-Err-Fault-clause-in_step : goal.returns-in-Err-Fault-clause-in_step
returns-in-Err-Fault-clause-in_step g c =
    ask_fault_steps c.args.dpid c.self.inside.xid (g.W.World.seen c.args.world.now) (g.W.World.seen c.request_rows.new.world) c.self.inside.kept c.request_rows.new.kept c.in-Err-Fault.fault (omega arith) (subst (λ (h : Halt). AsksFrom g.W.World.Tells c.args.dpid c.self.inside.xid (g.W.World.seen c.args.world.now) (g.W.World.seen c.request_rows.new.world) c.self.inside.kept c.request_rows.new.kept (Err h)) c.in-Err-Fault.field-0-is c.in-Err-Fault.ensures.asks)

pub returns-in-Err-Lost-clause-asks : goal.returns-in-Err-Lost-clause-asks
returns-in-Err-Lost-clause-asks g c =
    let s = c.self.inside in
    let old = g.W.World.seen c.args.world.now in
    let new = g.W.World.seen c.request_rows.new.world in
    let net : NetState = record { views = s.views; ports = s.ports.known; left = s.ports.left; log = s.log.items; held = record { packets = s.held.items; notices = s.notices }; xid = s.xid; moment = s.moment; kept = s.kept; room = vec_len s.rooms } in
    let now = asks_lost {Tells = g.W.World.Tells} c.args.dpid c.following-self-inside.result old new net c.request_rows.new.kept (c.following-self-inside.ensures.next ∙ ap next_xid c.following.ensures.next) (subst (λ (h : Halt). AsksFrom g.W.World.Tells c.args.dpid c.self.inside.xid (g.W.World.seen c.args.world.now) (g.W.World.seen c.request_rows.new.world) c.self.inside.kept c.request_rows.new.kept (Err h)) c.in-Err-Lost.field-0-is c.in-Err-Lost.ensures.asks) in
    subst (λ (n : NetState). Asks g.W.World.Tells c.args.dpid old new n c.lose.new.self (Ok None)) c.self.view_is
    (subst (λ (n : NetState). Asks g.W.World.Tells c.args.dpid old new net n (Ok None)) (sym c.lose.ensures) now)

pub returns-in-Err-Fault-clause-parted : goal.returns-in-Err-Fault-clause-parted
returns-in-Err-Fault-clause-parted g c = λ can. subst IsPlainHalt c.in-Err-Fault.field-0-is (c.in-Err-Fault.ensures.parted can)
