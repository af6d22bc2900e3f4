use Rattle.event_dispatch.specs.declared.fault.Fault.{Fault}
use Rattle.event_dispatch.specs.declared.fault.Fault.TheVariants as faults
use Rattle.lego_model.specs.declared.fault.TxnFault.{TxnFault}
use Rattle.std.specs.Prelude.{ℕ, Vec}
use Rattle.std.specs.Global.{Global}
use Rattle.std.proofs.Common.{Ok, refl, sym, ap, subst, inl, inr}
use Rattle.outside.specs.Seen.{Seen}
use Rattle.net_txn.specs.Net.{NetState}
use Rattle.event_dispatch.specs.declared.engine_core.Core.{Core}
use Rattle.event_dispatch.specs.Why.{fault_of}
use Rattle.event_dispatch.specs.Taking.{UsesLinksOf, JoinDone}
use Rattle.event_dispatch.specs.laws.BatchSteadyLaws.{only_none}
use Rattle.event_dispatch.specs.laws.FaultLaws.{join_why}
use Rattle.event_dispatch.specs.laws.JoinLaws.{joins_taken, lost_taken, other_taken}
use Rattle.event_dispatch.specs.laws.KeptLaws.{joins_read, read_alike}
use Rattle.event_dispatch.specs.laws.PassesLaws.{at_fault, waits_none}
use Rattle.event_dispatch.specs.laws.PlainLaws.{join_memory, join_fault}
use Rattle.event_dispatch.specs.laws.TakingLaws.{joins_none, joins_on_links, waits_behind}
use Rattle.event_dispatch.proofs.engine_core.Core.join.Goals.{in-FeaturesReply+in_ok-joined+then-branch+in_ok-announce, in-FeaturesReply+in_ok-joined+else-branch+in_ok-note_loss, in_default}
use Rattle.event_dispatch.specs.Plain.{IsPlainEnd}
use Rattle.event_dispatch.specs.laws.PlainLaws.{plain_fault}
use Rattle.event_dispatch.specs.laws.CutLaws.{if_err}
use Rattle.event_dispatch.proofs.engine_core.Core.join.Goals as goal

pub returns-in_err-joined : goal.returns-in_err-joined
returns-in_err-joined g c = record {
  uses = joins_on_links g.W.World.Tells c.args.dpid (g.W.World.seen c.args.world.now) (g.W.World.seen c.joined.new.world) c.args.self.now.net c.joined.new.self _ c.joined.result c.from_residual.result c.joined.ensures.continues c.joined.ensures.links c.joined.ensures.no_strays
      c.joined.ensures.ids (λ _. c.from_residual.ensures.0) (inl c.from_residual.ensures.0);
  done = at_fault _ _ (fault_of c.in_err-joined.field-0.0) c.from_residual.result c.from_residual.ensures.1 (record {
    why = join_why g.W.World.Tells c.args.dpid c.args.self.now.net.xid (g.W.World.seen c.args.world.now) (g.W.World.seen c.joined.new.world) c.in_err-joined.field-0.0 c.in_err-joined.ensures.cause c.in_err-joined.ensures.flooded;
    plain = join_fault c.args.dpid (g.W.World.seen c.args.world.now) (g.W.World.seen c.joined.new.world) c.args.self.now.net c.joined.new.self c.in_err-joined.field-0.0 c.in_err-joined.ensures.in_step;
  });
  parted = λ can. if_err IsPlainEnd (fault_of c.in_err-joined.field-0.0) c.from_residual.result c.from_residual.ensures.1 (plain_fault c.in_err-joined.field-0.0 (c.in_err-joined.ensures.parted can));
}

pub returns-in_err-announce : goal.returns-in_err-announce
returns-in_err-announce g c = record {
  uses = joins_on_links g.W.World.Tells c.args.dpid (g.W.World.seen c.args.world.now) (g.W.World.seen c.joined.new.world) c.args.self.now.net c.joined.new.self _ c.joined.result c.from_residual-in_err-announce.result c.joined.ensures.continues c.joined.ensures.links c.joined.ensures.no_strays
      c.joined.ensures.ids (λ _. c.from_residual-in_err-announce.ensures.0) (inl c.from_residual-in_err-announce.ensures.0);
  done = at_fault _ _ faults.NoMemory c.from_residual-in_err-announce.result c.from_residual-in_err-announce.ensures.1 (record { why = tt; plain = join_memory c.args.dpid (g.W.World.seen c.args.world.now) (g.W.World.seen c.joined.new.world) });
  parted = λ can. if_err IsPlainEnd faults.NoMemory c.from_residual-in_err-announce.result c.from_residual-in_err-announce.ensures.1 tt;
}

pub returns-in_err-note_loss : goal.returns-in_err-note_loss
returns-in_err-note_loss g c = record {
  uses = joins_on_links g.W.World.Tells c.args.dpid (g.W.World.seen c.args.world.now) (g.W.World.seen c.joined.new.world) c.args.self.now.net c.joined.new.self _ c.joined.result c.from_residual-in_err-note_loss.result c.joined.ensures.continues c.joined.ensures.links c.joined.ensures.no_strays
      c.joined.ensures.ids (λ _. c.from_residual-in_err-note_loss.ensures.0) (inl c.from_residual-in_err-note_loss.ensures.0);
  done = at_fault _ _ faults.NoMemory c.from_residual-in_err-note_loss.result c.from_residual-in_err-note_loss.ensures.1 (record { why = tt; plain = join_memory c.args.dpid (g.W.World.seen c.args.world.now) (g.W.World.seen c.joined.new.world) });
  parted = λ can. if_err IsPlainEnd faults.NoMemory c.from_residual-in_err-note_loss.result c.from_residual-in_err-note_loss.ensures.1 tt;
}

pub returns : goal.returns
returns g c = record {
  uses = elim c.match-message.branch [
    | in-FeaturesReply+in_ok-joined+then-branch+in_ok-announce w ↦
        subst (λ (r : Core). UsesLinksOf {T = Unit {0}} {E = Fault} g.W.World.Tells c.args.dpid (g.W.World.seen c.args.world.now) (g.W.World.seen c.match-message.world) c.args.self.now.net r.net (Ok tt)) (sym w.self-is)
        (subst (λ (s : Seen _). UsesLinksOf {T = Unit {0}} {E = Fault} g.W.World.Tells c.args.dpid (g.W.World.seen c.args.world.now) s c.args.self.now.net w.announce.new.self.net (Ok tt)) (sym (ap g.W.World.seen w.world-is))
        (joins_on_links {F = TxnFault} g.W.World.Tells c.args.dpid (g.W.World.seen c.args.world.now) (g.W.World.seen w.joined.new.world) c.args.self.now.net w.joined.new.self w.announce.new.self.net (Ok w.in_ok-joined.field-0) (Ok tt) w.joined.ensures.continues w.joined.ensures.links w.joined.ensures.no_strays
        w.in_ok-joined.ensures.ids (λ f. f) (inr (ap (λ (n : NetState). n.xid) w.announce.ensures.net))))
    | in-FeaturesReply+in_ok-joined+else-branch+in_ok-note_loss w ↦
        subst (λ (r : Core). UsesLinksOf {T = Unit {0}} {E = Fault} g.W.World.Tells c.args.dpid (g.W.World.seen c.args.world.now) (g.W.World.seen c.match-message.world) c.args.self.now.net r.net (Ok tt)) (sym w.self-is)
        (subst (λ (s : Seen _). UsesLinksOf {T = Unit {0}} {E = Fault} g.W.World.Tells c.args.dpid (g.W.World.seen c.args.world.now) s c.args.self.now.net w.note_loss.new.self.net (Ok tt)) (sym (ap g.W.World.seen w.world-is))
        (joins_on_links {F = TxnFault} g.W.World.Tells c.args.dpid (g.W.World.seen c.args.world.now) (g.W.World.seen w.joined.new.world) c.args.self.now.net w.joined.new.self w.note_loss.new.self.net (Ok w.in_ok-joined.field-0) (Ok tt) w.joined.ensures.continues w.joined.ensures.links w.joined.ensures.no_strays
        w.in_ok-joined.ensures.ids (λ f. f) (inr (ap (λ (n : NetState). n.xid) w.in_ok-note_loss.ensures.adds.stays.net))))
    | in_default w ↦
        subst (λ (r : Core). UsesLinksOf {T = Unit {0}} {E = Fault} g.W.World.Tells c.args.dpid (g.W.World.seen c.args.world.now) (g.W.World.seen c.match-message.world) c.args.self.now.net r.net (Ok tt)) (sym w.self-is)
        (subst (λ (s : Seen _). UsesLinksOf {T = Unit {0}} {E = Fault} g.W.World.Tells c.args.dpid (g.W.World.seen c.args.world.now) s c.args.self.now.net c.args.self.now.net (Ok tt)) (sym (ap g.W.World.seen w.world-is))
        (joins_none g.W.World.Tells c.args.dpid (g.W.World.seen c.args.world.now) c.args.self.now.net c.args.self.now.net (Ok tt) refl))
  ];
  done = elim c.match-message.branch [
    | in-FeaturesReply+in_ok-joined+then-branch+in_ok-announce w ↦
        subst (λ (r : Core). JoinDone g.W.World.Tells c.args.dpid c.args.message.now (g.W.World.seen c.args.world.now) (g.W.World.seen c.match-message.world) c.args.self.now r) (sym w.self-is)
        (subst (λ (s : Seen _). JoinDone g.W.World.Tells c.args.dpid c.args.message.now (g.W.World.seen c.args.world.now) s c.args.self.now w.announce.new.self) (sym (ap g.W.World.seen w.world-is)) (record {
          waits = waits_behind c.args.self.now w.joined.new.self w.announce.new.self w.in_ok-joined.ensures.room w.in_ok-joined.ensures.left w.in_ok-announce.ensures.waits;
          messages = record { read = w.in_ok-joined.ensures.read };
          read = λ read. read_alike _ _ (ap (λ (n : NetState). n.kept) w.announce.ensures.net)
              (joins_read g.W.World.Tells c.args.dpid w.in-FeaturesReply.features.ports (g.W.World.seen c.args.world.now) (g.W.World.seen w.joined.new.world) w.in_ok-joined.field-0 c.args.self.now.net w.joined.new.self w.in_ok-joined.ensures.joins read);
          joins = joins_taken c.args.dpid c.args.message.now w.in-FeaturesReply.features w.in_ok-joined.field-0 (g.W.World.seen c.args.world.now) (g.W.World.seen w.joined.new.world) c.args.self.now w.joined.new.self w.announce.new.self w.in-FeaturesReply.is w.if-branch.true w.in_ok-joined.ensures.joins w.in_ok-joined.ensures.in_step
              (record { log = w.in_ok-joined.ensures.log; moment = w.in_ok-joined.ensures.moment; room = w.in_ok-joined.ensures.room; held = w.in_ok-joined.ensures.held; left = w.in_ok-joined.ensures.left }) w.announce.ensures.net w.in_ok-announce.ensures.queue (ap (λ (v : Vec ℕ Global). v.items) w.announce.ensures.lines);
        }))
    | in-FeaturesReply+in_ok-joined+else-branch+in_ok-note_loss w ↦
        subst (λ (r : Core). JoinDone g.W.World.Tells c.args.dpid c.args.message.now (g.W.World.seen c.args.world.now) (g.W.World.seen c.match-message.world) c.args.self.now r) (sym w.self-is)
        (subst (λ (s : Seen _). JoinDone g.W.World.Tells c.args.dpid c.args.message.now (g.W.World.seen c.args.world.now) s c.args.self.now w.note_loss.new.self) (sym (ap g.W.World.seen w.world-is)) (record {
          waits = waits_behind c.args.self.now w.joined.new.self w.note_loss.new.self w.in_ok-joined.ensures.room w.in_ok-joined.ensures.left w.in_ok-note_loss.ensures.waits;
          messages = record { read = w.in_ok-joined.ensures.read };
          read = λ read. read_alike _ _ (ap (λ (n : NetState). n.kept) w.in_ok-note_loss.ensures.adds.stays.net)
              (joins_read g.W.World.Tells c.args.dpid w.in-FeaturesReply.features.ports (g.W.World.seen c.args.world.now) (g.W.World.seen w.joined.new.world) w.in_ok-joined.field-0 c.args.self.now.net w.joined.new.self w.in_ok-joined.ensures.joins read);
          joins = lost_taken c.args.dpid c.args.message.now w.in-FeaturesReply.features.ports w.in_ok-joined.field-0 (g.W.World.seen c.args.world.now) (g.W.World.seen w.joined.new.world) c.args.self.now (record c.args.self.now { net = w.joined.new.self }) w.note_loss.new.self w.if-branch.false w.in_ok-joined.ensures.joins refl refl w.in_ok-note_loss.ensures.adds;
        }))
    | in_default w ↦
        subst (λ (r : Core). JoinDone g.W.World.Tells c.args.dpid c.args.message.now (g.W.World.seen c.args.world.now) (g.W.World.seen c.match-message.world) c.args.self.now r) (sym w.self-is)
        (subst (λ (s : Seen _). JoinDone g.W.World.Tells c.args.dpid c.args.message.now (g.W.World.seen c.args.world.now) s c.args.self.now c.args.self.now) (sym (ap g.W.World.seen w.world-is)) (record {
          waits = waits_none c.args.self.now;
          messages = only_none g.W.World.Tells (g.W.World.seen c.args.world.now);
          read = λ read. read;
          joins = other_taken c.args.dpid c.args.message.now (g.W.World.seen c.args.world.now) c.args.self.now w.in_default.not-FeaturesReply;
        }))
  ];
  parted = λ can. tt;
}
