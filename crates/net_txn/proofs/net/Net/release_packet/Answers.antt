use Rattle.std.proofs.Common.{rules, ◌≡◌, true, false, sym, ap, ◌∙◌, subst, arith, Ok, Err}
use Rattle.std.specs.Prelude.{vec_len}
use Rattle.std.proofs.lemmas.Result.{err_from_is_err_and}
use Rattle.lego_model.specs.declared.wait.Awaited.{Awaited}
use Rattle.lego_model.specs.BarrierWaits.{next_xid}
use Rattle.net_txn.specs.declared.halt.Halt.{Halt}
use Rattle.net_txn.specs.Views.{is_viewed}
use Rattle.net_txn.specs.Net.{NetState}
use Rattle.net_txn.specs.ReleaseSteps.{PacketUnsent, TakesUntilReply, ReleasesPacket}
use Rattle.net_txn.specs.laws.PacketReleaseLaws.{passes_packet, unsent_packet, lost_before, stops_packet, settled_packet}
use Rattle.net_txn.specs.laws.PartingLaws.{unsent_plain}
use Rattle.net_txn.specs.Parting.{IsPlainHalt}
use Rattle.net_txn.proofs.net.Net.release_packet.Goals as goal

pub returns-then-not-is_viewed-clause-releases : goal.returns-then-not-is_viewed-clause-releases
returns-then-not-is_viewed-clause-releases g c =
    let v = ap (λ (n : NetState). n.views) c.self.view_is in
    let unknown : c.is_viewed.result ≡ false = search rules in
    passes_packet g.W.World.Tells c.args.dpid c.args.packet (g.W.World.seen c.args.world.now) c.args.self.now c.args.queue.now (sym (c.is_viewed.ensures ∙ ap (is_viewed c.args.dpid) v) ∙ unknown)

pub returns-in_ok-take_until_reply-in-Ok-clause-releases : goal.returns-in_ok-take_until_reply-in-Ok-clause-releases
returns-in_ok-take_until_reply-in-Ok-clause-releases g c =
    let s = c.self.inside in
    let old = g.W.World.seen c.args.world.now in
    let net : NetState = record { views = s.views; ports = s.ports.known; left = s.ports.left; log = s.log.items; held = record { packets = s.held.items; notices = s.notices }; xid = s.xid; moment = s.moment; kept = s.kept; room = vec_len s.rooms } in
    let xid = c.following-self-inside.result in
    let known : c.is_viewed.result ≡ true = search rules in
    let viewed : is_viewed c.args.dpid net.views ≡ true = sym c.is_viewed.ensures ∙ known in
    let mid = g.W.World.seen c.send_packet.new.world in
    let new = g.W.World.seen c.take_until_reply.new.world in
    let settled = subst (λ (a : Awaited). TakesUntilReply g.W.World.Tells a mid new (record net { xid = xid }) c.take_until_reply.new.self c.args.queue.now c.take_until_reply.new.queue (Ok tt)) c.await_packet.ensures c.in_ok-take_until_reply-in-Ok.ensures.takes in
    let does = settled_packet {Tells = g.W.World.Tells} c.args.dpid c.args.packet old mid new net c.take_until_reply.new.self c.args.queue.now c.take_until_reply.new.queue xid viewed c.requires (c.self.invariant.1, omega arith)
    (c.following-self-inside.ensures.next ∙ ap next_xid c.following.ensures.next) c.in-Ok.ensures settled in
    subst (λ (x : NetState). ReleasesPacket g.W.World.Tells (c.args.dpid, c.args.packet) old new x c.take_until_reply.new.self c.args.queue.now c.take_until_reply.new.queue (Ok true)) c.self.view_is does

pub returns-in_err-take_until_reply-in-Ok-clause-releases : goal.returns-in_err-take_until_reply-in-Ok-clause-releases
returns-in_err-take_until_reply-in-Ok-clause-releases g c =
    let p = err_from_is_err_and c.from_residual.result c.from_residual.ensures.1 in
    let s = c.self.inside in
    let old = g.W.World.seen c.args.world.now in
    let net : NetState = record { views = s.views; ports = s.ports.known; left = s.ports.left; log = s.log.items; held = record { packets = s.held.items; notices = s.notices }; xid = s.xid; moment = s.moment; kept = s.kept; room = vec_len s.rooms } in
    let xid = c.following-self-inside.result in
    let known : c.is_viewed.result ≡ true = search rules in
    let viewed : is_viewed c.args.dpid net.views ≡ true = sym c.is_viewed.ensures ∙ known in
    let mid = g.W.World.seen c.send_packet.new.world in
    let new = g.W.World.seen c.take_until_reply.new.world in
    let fault = c.in_err-take_until_reply-in-Ok.field-0.0 in
    let settled = subst (λ (a : Awaited). TakesUntilReply g.W.World.Tells a mid new (record net { xid = xid }) c.take_until_reply.new.self c.args.queue.now c.take_until_reply.new.queue (Err fault)) c.await_packet.ensures c.in_err-take_until_reply-in-Ok.ensures.takes in
    let does = stops_packet {Tells = g.W.World.Tells} c.args.dpid c.args.packet old mid new net c.take_until_reply.new.self c.args.queue.now c.take_until_reply.new.queue xid fault viewed c.requires (omega arith) c.in-Ok.ensures settled in
    rw (p.1, p.2) (subst (λ (x : NetState). ReleasesPacket g.W.World.Tells (c.args.dpid, c.args.packet) old new x c.take_until_reply.new.self c.args.queue.now c.take_until_reply.new.queue (Err fault)) c.self.view_is does)

pub returns-in-Err-Lost-clause-releases : goal.returns-in-Err-Lost-clause-releases
returns-in-Err-Lost-clause-releases g c =
    let s = c.self.inside in
    let old = g.W.World.seen c.args.world.now in
    let net : NetState = record { views = s.views; ports = s.ports.known; left = s.ports.left; log = s.log.items; held = record { packets = s.held.items; notices = s.notices }; xid = s.xid; moment = s.moment; kept = s.kept; room = vec_len s.rooms } in
    let xid = c.following-self-inside.result in
    let known : c.is_viewed.result ≡ true = search rules in
    let viewed : is_viewed c.args.dpid net.views ≡ true = sym c.is_viewed.ensures ∙ known in
    let new = g.W.World.seen c.send_packet.new.world in
    let unsent = subst (λ (h : Halt). PacketUnsent g.W.World.Tells c.args.dpid old new h) c.in-Err-Lost.field-0-is c.in-Err-Lost.ensures in
    let does = lost_before {Tells = g.W.World.Tells} c.args.dpid c.args.packet old new net c.lose.new.self c.args.queue.now xid viewed (omega arith) (c.following-self-inside.ensures.next ∙ ap next_xid c.following.ensures.next) c.lose.ensures unsent in
    subst (λ (x : NetState). ReleasesPacket g.W.World.Tells (c.args.dpid, c.args.packet) old new x c.lose.new.self c.args.queue.now c.args.queue.now (Ok false)) c.self.view_is does

pub returns-in-Err-Fault-clause-releases : goal.returns-in-Err-Fault-clause-releases
returns-in-Err-Fault-clause-releases g c =
    let s = c.self.inside in
    let old = g.W.World.seen c.args.world.now in
    let net : NetState = record { views = s.views; ports = s.ports.known; left = s.ports.left; log = s.log.items; held = record { packets = s.held.items; notices = s.notices }; xid = s.xid; moment = s.moment; kept = s.kept; room = vec_len s.rooms } in
    let xid = c.following-self-inside.result in
    let known : c.is_viewed.result ≡ true = search rules in
    let viewed : is_viewed c.args.dpid net.views ≡ true = sym c.is_viewed.ensures ∙ known in
    let new = g.W.World.seen c.send_packet.new.world in
    let fault = c.in-Err-Fault.fault in
    let unsent = subst (λ (h : Halt). PacketUnsent g.W.World.Tells c.args.dpid old new h) c.in-Err-Fault.field-0-is c.in-Err-Fault.ensures in
    let does = unsent_packet {Tells = g.W.World.Tells} c.args.dpid c.args.packet old new net c.args.queue.now xid fault viewed c.requires (omega arith) unsent in
    subst (λ (x : NetState). ReleasesPacket g.W.World.Tells (c.args.dpid, c.args.packet) old new x (record net { xid = xid }) c.args.queue.now c.args.queue.now (Err fault)) c.self.view_is does

pub returns-in_err-take_until_reply-in-Ok-clause-parted : goal.returns-in_err-take_until_reply-in-Ok-clause-parted
returns-in_err-take_until_reply-in-Ok-clause-parted g c =
    let p = err_from_is_err_and c.from_residual.result c.from_residual.ensures.1 in
    λ can. rw (p.1, p.2) (c.in_err-take_until_reply-in-Ok.ensures.parted can)

pub returns-in-Err-Fault-clause-parted : goal.returns-in-Err-Fault-clause-parted
returns-in-Err-Fault-clause-parted g c = λ can. subst IsPlainHalt c.in-Err-Fault.field-0-is (unsent_plain _ c.in-Err-Fault.ensures)
