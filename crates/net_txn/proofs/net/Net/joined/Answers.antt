use Rattle.std.proofs.Common.{◌≡◌, ◌==◌, not, filter, sym, ap, ◌∙◌, subst, refl, Ok, arith}
use Rattle.outside.specs.State.{state, switch_of}
use Rattle.net_txn.specs.declared.halt.Halt.{Halt}
use Rattle.net_txn.specs.Joining.{greeted_from, greeting}
use Rattle.net_txn.specs.Losing.{WaitHalts}
use Rattle.net_txn.specs.Net.{NetState}
use Rattle.net_txn.specs.laws.JoiningFaultLaws.{join_plain, not_joined}
use Rattle.net_txn.specs.laws.JoiningStepLaws.{in_step_of}
use Rattle.net_txn.specs.laws.TalkLaws.{speaks_on, speaks_links, speaks_place}
use Rattle.net_txn.specs.laws.OwnIdLaws.{third_next, waits_leave, speaks_on_ids, speaks_over_ids}
use Rattle.net_txn.specs.laws.ReadLaws.{joins_read}
use Rattle.net_txn.specs.Parting.{IsPlainHalt}
use Rattle.net_txn.proofs.net.Net.joined.Goals as goal

pub returns-in-Ok-clause-links : goal.returns-in-Ok-clause-links
returns-in-Ok-clause-links g c = speaks_links c.join.ensures.speaks

pub returns-in-Ok-clause-no_strays : goal.returns-in-Ok-clause-no_strays
returns-in-Ok-clause-no_strays g c = speaks_place c.join.ensures.speaks

pub returns-in-Ok-clause-read : goal.returns-in-Ok-clause-read
returns-in-Ok-clause-read g c =
    joins_read g.W.World.Tells c.args.dpid c.args.features.now.ports (g.W.World.seen c.args.world.now) (g.W.World.seen c.join.new.world) c.args.self.now c.join.new.self (Ok tt) c.join.ensures.xid c.in-Ok.ensures.joins

pub returns-in-Ok-clause-in_step : goal.returns-in-Ok-clause-in_step
returns-in-Ok-clause-in_step g c told keeps none =
    in_step_of c.args.dpid c.args.features.now.ports (g.W.World.seen c.args.world.now) (g.W.World.seen c.join.new.world) c.args.self.now c.join.new.self (switch_of c.args.dpid (state (g.W.World.seen c.args.world.now))) c.join.ensures.xid told c.in-Ok.ensures.joins keeps none refl

pub returns-in-Err-Lost-clause-joins : goal.returns-in-Err-Lost-clause-joins
returns-in-Err-Lost-clause-joins g c =
    let net = c.args.self.now in
    let kept = c.forget.new.self in
    let is = c.forget.ensures ∙ ap (λ (n : NetState). filter (λ m. not (m.0 == c.args.dpid)) n.kept) c.self.view_is in
    record {
      is_lost = (subst (λ (h : Halt). WaitHalts g.W.World.Tells (greeted_from c.args.dpid net.xid) (greeting c.args.dpid net.xid) (g.W.World.seen c.args.world.now) (g.W.World.seen c.join.new.world) h) c.in-Err-Lost.field-0-is c.in-Err-Lost.ensures.halts.halts).0;
      net_is = subst (λ (n : NetState). record n { kept = kept } ≡ record net { xid = n.xid; kept = filter (λ m. not (m.0 == c.args.dpid)) net.kept }) (sym c.self.view_is)
          (not_joined c.args.dpid net c.join.new.self kept c.join.ensures.stays c.in-Err-Lost.ensures.halts.not_joined is);
    }

pub returns-in-Err-Lost-clause-links : goal.returns-in-Err-Lost-clause-links
returns-in-Err-Lost-clause-links g c = speaks_links c.join.ensures.speaks

pub returns-in-Err-Lost-clause-no_strays : goal.returns-in-Err-Lost-clause-no_strays
returns-in-Err-Lost-clause-no_strays g c = speaks_place c.join.ensures.speaks

pub returns-in-Err-Fault-clause-links : goal.returns-in-Err-Fault-clause-links
returns-in-Err-Fault-clause-links g c = speaks_links c.join.ensures.speaks

pub returns-in-Err-Fault-clause-no_strays : goal.returns-in-Err-Fault-clause-no_strays
returns-in-Err-Fault-clause-no_strays g c = speaks_place c.join.ensures.speaks

pub returns-in-Err-Fault-clause-in_step : goal.returns-in-Err-Fault-clause-in_step
returns-in-Err-Fault-clause-in_step g c told keeps none =
    let net = c.args.self.now in
    let halts = subst (λ (h : Halt). WaitHalts g.W.World.Tells (greeted_from c.args.dpid net.xid) (greeting c.args.dpid net.xid) (g.W.World.seen c.args.world.now) (g.W.World.seen c.join.new.world) h) c.in-Err-Fault.field-0-is c.in-Err-Fault.ensures.halts.halts in
    join_plain c.args.dpid c.args.self.now.xid (g.W.World.seen c.args.world.now) (g.W.World.seen c.join.new.world) c.in-Err-Fault.fault c.join.ensures.xid told (speaks_on c.join.ensures.speaks) keeps none halts.1 halts.0

pub returns-in-Ok-clause-ids : goal.returns-in-Ok-clause-ids
returns-in-Ok-clause-ids g c =
    speaks_on_ids c.join.new.self.xid c.join.ensures.speaks (omega arith) (λ small. ap (λ (n : NetState). n.xid) c.join.ensures.stays ∙ third_next c.args.self.now.xid small) (waits_leave c.in-Ok.ensures.joins.waits)

pub returns-in-Err-Lost-clause-ids : goal.returns-in-Err-Lost-clause-ids
returns-in-Err-Lost-clause-ids g c =
    let net = c.args.self.now in
    let halts = subst (λ (h : Halt). WaitHalts g.W.World.Tells (greeted_from c.args.dpid net.xid) (greeting c.args.dpid net.xid) (g.W.World.seen c.args.world.now) (g.W.World.seen c.join.new.world) h) c.in-Err-Lost.field-0-is c.in-Err-Lost.ensures.halts.halts in
    speaks_on_ids _ c.join.ensures.speaks (omega arith) (λ small. ap (λ (n : NetState). n.xid) (c.self.view_is ∙ c.join.ensures.stays) ∙ third_next net.xid small) halts.0.some

pub returns-in-Err-Fault-clause-ids : goal.returns-in-Err-Fault-clause-ids
returns-in-Err-Fault-clause-ids g c =
    speaks_over_ids c.join.new.self.xid c.join.ensures.speaks (omega arith) (λ small. ap (λ (n : NetState). n.xid) c.join.ensures.stays ∙ third_next c.args.self.now.xid small)

pub returns-in-Err-Fault-clause-parted : goal.returns-in-Err-Fault-clause-parted
returns-in-Err-Fault-clause-parted g c = λ can. subst IsPlainHalt c.in-Err-Fault.field-0-is (c.in-Err-Fault.ensures.parted can)
