use Rattle.event_dispatch.specs.declared.fault.Fault.TheVariants as faults
use Rattle.std.proofs.Common.{rules, refl, ap, subst, Option, Result}
use Rattle.of_types.specs.Fields.{IsBytes}
use Rattle.app_frames.specs.declared.frame.Event.{Event}
use Rattle.lego_model.specs.declared.fault.TxnFault.{TxnFault}
use Rattle.net_txn.specs.Net.{NetState}
use Rattle.net_txn.specs.Arriving.{Arrives}
use Rattle.batch_laws.specs.laws.HandleLaws.{from_ignored}
use Rattle.event_dispatch.specs.declared.engine_core.Core.{Core}
use Rattle.event_dispatch.specs.Why.{fault_of}
use Rattle.event_dispatch.specs.laws.BatchLaws.{takes_none, message_taken}
use Rattle.event_dispatch.specs.laws.BatchSteadyLaws.{arrived_only, only_none, told_read, waits_taken}
use Rattle.event_dispatch.specs.laws.FaultLaws.{arrival_why}
use Rattle.event_dispatch.specs.laws.ItemLaws.{message_memory}
use Rattle.event_dispatch.specs.laws.KeptLaws.{arrived_read}
use Rattle.event_dispatch.specs.laws.PassesLaws.{same_next, at_fault, waits_none}
use Rattle.event_dispatch.specs.laws.PlainLaws.{read_memory, read_arrived}
use Rattle.event_dispatch.specs.laws.TakingLaws.{on_links_none, on_links_fails, on_links_as, arrived_passes}
use Rattle.event_dispatch.proofs.engine_core.Core.take_message.Goals as goal

pub returns-then-not-is_joined : goal.returns-then-not-is_joined
returns-then-not-is_joined g c = record {
  passes = on_links_none g.W.World.Tells (g.W.World.seen c.args.world.now) c.args.self.now.net c.args.self.now.net _ (same_next _);
  done = record {
    waits = waits_none c.args.self.now;
    messages = only_none g.W.World.Tells (g.W.World.seen c.args.world.now);
    read = λ read. read;
    takes = takes_none c.args.self.now c.args.self.now refl (from_ignored c.args.dpid c.args.frame.now (g.W.World.seen c.args.world.now) c.args.self.now.net c.args.self.now.queue c.requires.none_left (c.if-not-is_joined.ensures.out refl));
  };
}

pub returns-in_err-event : goal.returns-in_err-event
returns-in_err-event g c =
    let came = arrived_passes g.W.World.Tells c.args.dpid c.args.frame.now (g.W.World.seen c.args.world.now) (g.W.World.seen c.arrived.new.world) c.args.self.now.net c.arrived.new.self c.arrived.result (c.if-not-is_joined.ensures.joined refl) c.arrived.ensures in
    record {
      passes = on_links_fails c.arrived.new.self c.from_residual.result came c.from_residual.ensures.0;
      done = at_fault _ _ (fault_of c.in_err-event.field-0.0) c.from_residual.result c.from_residual.ensures.1 (record {
        why = arrival_why c.args.dpid c.args.frame.now (g.W.World.seen c.args.world.now) (g.W.World.seen c.arrived.new.world) c.in_err-event.field-0.0 c.in_err-event.ensures.continues c.in_err-event.ensures.cause;
        plain = read_arrived c.args.dpid c.args.frame.now (g.W.World.seen c.args.world.now) (g.W.World.seen c.arrived.new.world) c.in_err-event.field-0.0 c.in_err-event.ensures.cause;
      });
    }

pub returns-in_err-append : goal.returns-in_err-append
returns-in_err-append g c =
    let came = arrived_passes g.W.World.Tells c.args.dpid c.args.frame.now (g.W.World.seen c.args.world.now) (g.W.World.seen c.arrived.new.world) c.args.self.now.net c.arrived.new.self c.arrived.result (c.if-not-is_joined.ensures.joined refl) c.arrived.ensures in
    record {
      passes = on_links_fails c.arrived.new.self c.from_residual-in_err-append.result came c.from_residual-in_err-append.ensures.0;
      done = at_fault _ _ faults.NoMemory c.from_residual-in_err-append.result c.from_residual-in_err-append.ensures.1 (record {
        why = message_memory c.args.dpid c.args.frame.now (g.W.World.seen c.args.world.now) (g.W.World.seen c.arrived.new.world);
        plain = read_memory c.args.frame.now;
      });
    }

pub returns-in_err-tell_lost : goal.returns-in_err-tell_lost
returns-in_err-tell_lost g c =
    let came = arrived_passes g.W.World.Tells c.args.dpid c.args.frame.now (g.W.World.seen c.args.world.now) (g.W.World.seen c.arrived.new.world) c.args.self.now.net c.arrived.new.self c.arrived.result (c.if-not-is_joined.ensures.joined refl) c.arrived.ensures in
    record {
      passes = on_links_fails _ c.from_residual-in_err-tell_lost.result came c.from_residual-in_err-tell_lost.ensures.0;
      done = at_fault _ _ faults.NoMemory c.from_residual-in_err-tell_lost.result c.from_residual-in_err-tell_lost.ensures.1 (record {
        why = message_memory c.args.dpid c.args.frame.now (g.W.World.seen c.args.world.now) (g.W.World.seen c.arrived.new.world);
        plain = read_memory c.args.frame.now;
      });
    }

pub returns : goal.returns
returns g c =
    let fit : IsBytes c.args.frame.now = search rules in
    let known = c.if-not-is_joined.ensures.joined refl in
    let arrived : Core = record c.args.self.now { net = c.arrived.new.self; queue = c.append.new.queue } in
    let arrives = subst (λ (r : Result (Option Event) TxnFault). Arrives g.W.World.Tells c.args.dpid c.args.frame.now (g.W.World.seen c.args.world.now) (g.W.World.seen c.arrived.new.world) c.args.self.now.net c.arrived.new.self r) c.in_ok-event.was c.arrived.ensures in
    let tells = c.in_ok-tell_lost.ensures.tells in
    let takes = message_taken c.args.dpid c.args.frame.now (g.W.World.seen c.args.world.now) (g.W.World.seen c.arrived.new.world) c.args.self.now arrived c.tell_lost.new.self c.in_ok-event.event c.requires.none_left known fit arrives c.in_ok-append.ensures refl tells in
    record {
      passes = on_links_as c.tell_lost.new.self.net _
          (arrived_passes g.W.World.Tells c.args.dpid c.args.frame.now (g.W.World.seen c.args.world.now) (g.W.World.seen c.arrived.new.world) c.args.self.now.net c.arrived.new.self _ known arrives)
          (record { views = ap (λ (n : NetState). n.views) tells.net; xid = ap (λ (n : NetState). n.xid) tells.net });
      done = record {
        waits = waits_taken c.args.self.now arrived c.tell_lost.new.self c.in_ok-tell_lost.ensures.waits refl refl takes;
        messages = arrived_only g.W.World.Tells c.args.dpid c.args.frame.now (g.W.World.seen c.args.world.now) (g.W.World.seen c.arrived.new.world) c.args.self.now.net c.arrived.new.self c.in_ok-event.event arrives;
        read = λ read. told_read arrived c.tell_lost.new.self tells (arrived_read c.args.frame.now c.args.self.now.net c.arrived.new.self c.in_ok-event.event arrives read);
        takes = takes;
      };
    }
