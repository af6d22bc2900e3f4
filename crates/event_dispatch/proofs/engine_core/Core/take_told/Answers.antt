use Rattle.event_dispatch.specs.declared.fault.Fault.TheVariants as faults
use Rattle.std.proofs.Common.{rules, refl, ap, subst, Option, Result}
use Rattle.of_types.specs.Fields.{IsBytes}
use Rattle.of_wire.specs.Reading.{reading_of}
use Rattle.app_frames.specs.declared.frame.Event.{Event}
use Rattle.lego_model.specs.declared.fault.TxnFault.{TxnFault}
use Rattle.net_txn.specs.Net.{NetState}
use Rattle.net_txn.specs.Settling.{doubted, ArrivesOrSettles}
use Rattle.batch_laws.specs.laws.DeletionLaws.{no-doubt_out}
use Rattle.batch_laws.specs.laws.HandleLaws.{from_ignored}
use Rattle.event_dispatch.specs.declared.engine_core.Core.{Core}
use Rattle.event_dispatch.specs.Plain.{IsPlainEnd}
use Rattle.event_dispatch.specs.Why.{fault_of}
use Rattle.event_dispatch.specs.laws.BatchLaws.{takes_none}
use Rattle.event_dispatch.specs.laws.BatchSteadyLaws.{only_none, told_read}
use Rattle.event_dispatch.specs.laws.CutLaws.{if_err}
use Rattle.event_dispatch.specs.laws.ItemLaws.{message_memory}
use Rattle.event_dispatch.specs.laws.PassesLaws.{same_next, at_fault, waits_none}
use Rattle.event_dispatch.specs.laws.PlainLaws.{plain_fault}
use Rattle.event_dispatch.specs.laws.SettledLaws.{settled_passes, settled_taken, waits_told, settled_only, settled_read, settled_why, settled_plain, told_memory}
use Rattle.event_dispatch.specs.laws.TakingLaws.{on_links_none, on_links_fails, on_links_as, done_told}
use Rattle.event_dispatch.proofs.engine_core.Core.take_told.Goals as goal

pub returns-then-not-is_joined : goal.returns-then-not-is_joined
returns-then-not-is_joined g c = record {
  passes = on_links_none g.W.World.Tells (g.W.World.seen c.args.world.now) c.args.self.now.net c.args.self.now.net _ (same_next _);
  done = done_told (no-doubt_out c.args.dpid c.args.self.now.net.views (reading_of c.args.frame.now) (c.if-not-is_joined.ensures.out refl)) (record {
    waits = waits_none c.args.self.now;
    messages = only_none g.W.World.Tells (g.W.World.seen c.args.world.now);
    read = λ read. read;
    takes = takes_none c.args.self.now c.args.self.now refl (from_ignored c.args.dpid c.args.frame.now (g.W.World.seen c.args.world.now) c.args.self.now.net c.args.self.now.queue c.requires.none_left (c.if-not-is_joined.ensures.out refl));
  });
  parted = λ can read. tt;
}

pub returns-in_err-event : goal.returns-in_err-event
returns-in_err-event g c =
    let doubt = doubted c.args.dpid c.args.self.now.net.views (reading_of c.args.frame.now) in
    let came = settled_passes g.W.World.Tells c.args.dpid c.args.frame.now doubt (g.W.World.seen c.args.world.now) (g.W.World.seen c.settle.new.world) c.args.self.now.net c.settle.new.self c.settle.result (c.if-not-is_joined.ensures.joined refl) c.settle.ensures.settles in
    record {
      passes = on_links_fails c.settle.new.self c.from_residual.result came c.from_residual.ensures.0;
      done = at_fault _ _ (fault_of c.in_err-event.field-0.0) c.from_residual.result c.from_residual.ensures.1 (record {
        why = settled_why g.W.World.Tells c.args.dpid c.args.frame.now doubt (g.W.World.seen c.args.world.now) (g.W.World.seen c.settle.new.world) c.args.self.now.net c.settle.new.self c.in_err-event.field-0.0 refl c.in_err-event.ensures.settles;
        plain = settled_plain g.W.World.Tells c.args.dpid c.args.frame.now doubt (g.W.World.seen c.args.world.now) (g.W.World.seen c.settle.new.world) c.args.self.now.net c.settle.new.self c.in_err-event.field-0.0 refl c.in_err-event.ensures.settles;
      });
      parted = λ can read. if_err IsPlainEnd (fault_of c.in_err-event.field-0.0) c.from_residual.result c.from_residual.ensures.1 (plain_fault c.in_err-event.field-0.0 (c.in_err-event.ensures.parted can read));
    }

pub returns-in_err-append : goal.returns-in_err-append
returns-in_err-append g c =
    let doubt = doubted c.args.dpid c.args.self.now.net.views (reading_of c.args.frame.now) in
    let came = settled_passes g.W.World.Tells c.args.dpid c.args.frame.now doubt (g.W.World.seen c.args.world.now) (g.W.World.seen c.settle.new.world) c.args.self.now.net c.settle.new.self c.settle.result (c.if-not-is_joined.ensures.joined refl) c.settle.ensures.settles in
    record {
      passes = on_links_fails c.settle.new.self c.from_residual-in_err-append.result came c.from_residual-in_err-append.ensures.0;
      done = at_fault _ _ faults.NoMemory c.from_residual-in_err-append.result c.from_residual-in_err-append.ensures.1 (record {
        why = message_memory c.args.dpid c.args.frame.now (g.W.World.seen c.args.world.now) (g.W.World.seen c.settle.new.world);
        plain = told_memory c.args.dpid c.args.frame.now (g.W.World.seen c.args.world.now) (g.W.World.seen c.settle.new.world);
      });
      parted = λ can read. if_err IsPlainEnd faults.NoMemory c.from_residual-in_err-append.result c.from_residual-in_err-append.ensures.1 tt;
    }

pub returns-in_err-tell_lost : goal.returns-in_err-tell_lost
returns-in_err-tell_lost g c =
    let doubt = doubted c.args.dpid c.args.self.now.net.views (reading_of c.args.frame.now) in
    let came = settled_passes g.W.World.Tells c.args.dpid c.args.frame.now doubt (g.W.World.seen c.args.world.now) (g.W.World.seen c.settle.new.world) c.args.self.now.net c.settle.new.self c.settle.result (c.if-not-is_joined.ensures.joined refl) c.settle.ensures.settles in
    record {
      passes = on_links_fails _ c.from_residual-in_err-tell_lost.result came c.from_residual-in_err-tell_lost.ensures.0;
      done = at_fault _ _ faults.NoMemory c.from_residual-in_err-tell_lost.result c.from_residual-in_err-tell_lost.ensures.1 (record {
        why = message_memory c.args.dpid c.args.frame.now (g.W.World.seen c.args.world.now) (g.W.World.seen c.settle.new.world);
        plain = told_memory c.args.dpid c.args.frame.now (g.W.World.seen c.args.world.now) (g.W.World.seen c.settle.new.world);
      });
      parted = λ can read. if_err IsPlainEnd faults.NoMemory c.from_residual-in_err-tell_lost.result c.from_residual-in_err-tell_lost.ensures.1 tt;
    }

pub returns : goal.returns
returns g c =
    let fit : IsBytes c.args.frame.now = search rules in
    let known = c.if-not-is_joined.ensures.joined refl in
    let doubt = doubted c.args.dpid c.args.self.now.net.views (reading_of c.args.frame.now) in
    let settled : Core = record c.args.self.now { net = c.settle.new.self; queue = c.append.new.queue } in
    let settles = subst (λ (r : Result (Option Event) TxnFault). ArrivesOrSettles g.W.World.Tells c.args.dpid c.args.frame.now doubt (g.W.World.seen c.args.world.now) (g.W.World.seen c.settle.new.world) c.args.self.now.net c.settle.new.self r) c.in_ok-event.was c.settle.ensures.settles in
    let tells = c.in_ok-tell_lost.ensures.tells in
    let takes = settled_taken g.W.World.Tells c.args.dpid c.args.frame.now doubt (g.W.World.seen c.args.world.now) (g.W.World.seen c.settle.new.world) c.args.self.now settled c.tell_lost.new.self c.in_ok-event.event c.requires.none_left known fit refl settles c.in_ok-append.ensures refl tells in
    record {
      passes = on_links_as c.tell_lost.new.self.net _
          (settled_passes g.W.World.Tells c.args.dpid c.args.frame.now doubt (g.W.World.seen c.args.world.now) (g.W.World.seen c.settle.new.world) c.args.self.now.net c.settle.new.self _ known settles)
          (record { views = ap (λ (n : NetState). n.views) tells.net; xid = ap (λ (n : NetState). n.xid) tells.net });
      done = record {
        waits = waits_told c.args.self.now settled c.tell_lost.new.self c.in_ok-tell_lost.ensures.waits refl refl takes;
        messages = settled_only g.W.World.Tells c.args.dpid c.args.frame.now doubt (g.W.World.seen c.args.world.now) (g.W.World.seen c.settle.new.world) c.args.self.now.net c.settle.new.self c.in_ok-event.event settles;
        read = λ read. told_read settled c.tell_lost.new.self tells (settled_read g.W.World.Tells c.args.dpid (g.W.World.seen c.args.world.now) (g.W.World.seen c.settle.new.world) c.args.frame.now doubt c.args.self.now.net c.settle.new.self c.in_ok-event.event settles read);
        takes = takes;
      };
      parted = λ can read. tt;
    }
