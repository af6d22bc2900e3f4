use Rattle.event_dispatch.specs.declared.fault.Fault.TheVariants as faults
use Rattle.std.proofs.Common.{rules, refl, ap, subst}
use Rattle.net_txn.specs.Net.{NetState}
use Rattle.event_dispatch.specs.ReportEnd.{AsksAs}
use Rattle.event_dispatch.specs.laws.LastLaws.{table_told, table_lost, table_out}
use Rattle.event_dispatch.specs.laws.PassesLaws.{same_next, at_fault, quiet_none, quiet_fails, quiet_as}
use Rattle.event_dispatch.specs.laws.PlainLaws.{table_memory}
use Rattle.event_dispatch.specs.laws.WhyLaws.{waits_at_end}
use Rattle.event_dispatch.specs.Plain.{IsPlainEnd}
use Rattle.event_dispatch.specs.laws.CutLaws.{if_err}
use Rattle.event_dispatch.proofs.engine_core.Core.note_table.Goals as goal

pub returns-then-not-is_joined : goal.returns-then-not-is_joined
returns-then-not-is_joined g c = record {
  passes = quiet_none g.W.World.Tells (g.W.World.seen c.args.world.now) c.args.self.now.net c.args.self.now.net _ (same_next _);
  done = record {
    waits = record { room = refl; events = refl; store = refl };
    shown = table_out g.W.World.Tells c.args.dpid
        (g.W.World.seen c.args.world.now) c.args.self.now (c.is_joined.ensures.out (search rules));
  };
  parted = λ can. tt;
}

pub returns-in_err-rows : goal.returns-in_err-rows
returns-in_err-rows g c = record {
  passes = quiet_fails _ _ c.ask_rows.ensures.passes c.from_residual.ensures.0;
  done = at_fault _ _ c.in_err-rows.field-0.0 c.from_residual.result c.from_residual.ensures.1 c.in_err-rows.ensures.done;
  parted = λ can. if_err IsPlainEnd c.in_err-rows.field-0.0 c.from_residual.result c.from_residual.ensures.1 (c.in_err-rows.ensures.parted can);
}

pub returns-in_err-note_rows-in-Some : goal.returns-in_err-note_rows-in-Some
returns-in_err-note_rows-in-Some g c = record {
  passes = quiet_fails _ _ c.ask_rows.ensures.passes c.from_residual-in_err-note_rows-in-Some.ensures.0;
  done = at_fault _ _ faults.NoMemory c.from_residual-in_err-note_rows-in-Some.result c.from_residual-in_err-note_rows-in-Some.ensures.1
      (record { why = tt; plain = table_memory (g.W.World.seen c.args.world.now) (g.W.World.seen c.ask_rows.new.world) c.args.self.now.net });
  parted = λ can. if_err IsPlainEnd faults.NoMemory c.from_residual-in_err-note_rows-in-Some.result c.from_residual-in_err-note_rows-in-Some.ensures.1 tt;
}

pub returns-in_err-note_loss-in-None : goal.returns-in_err-note_loss-in-None
returns-in_err-note_loss-in-None g c = record {
  passes = quiet_fails _ _ c.ask_rows.ensures.passes c.from_residual-in_err-note_loss-in-None.ensures.0;
  done = at_fault _ _ faults.NoMemory c.from_residual-in_err-note_loss-in-None.result c.from_residual-in_err-note_loss-in-None.ensures.1
      (record { why = tt; plain = table_memory (g.W.World.seen c.args.world.now) (g.W.World.seen c.ask_rows.new.world) c.args.self.now.net });
  parted = λ can. if_err IsPlainEnd faults.NoMemory c.from_residual-in_err-note_loss-in-None.result c.from_residual-in_err-note_loss-in-None.ensures.1 tt;
}

pub returns-in_ok-note_rows-in-Some : goal.returns-in_ok-note_rows-in-Some
returns-in_ok-note_rows-in-Some g c = record {
  passes = quiet_as _ _ c.in_ok-rows.ensures.passes (record { views = ap (λ (n : NetState). n.views) c.in_ok-note_rows-in-Some.ensures.net; xid = ap (λ (n : NetState). n.xid) c.in_ok-note_rows-in-Some.ensures.net });
  done = record {
    waits = waits_at_end c.args.self.now c.ask_rows.new.self c.note_rows.new.self c.in_ok-rows.ensures.done.waits c.in_ok-note_rows-in-Some.ensures.waits;
    shown = table_told (c.is_joined.ensures.joined (search rules)) c.in_ok-rows.ensures.passes.passes.continues
        (subst (AsksAs g.W.World.Tells c.args.dpid (g.W.World.seen c.args.world.now) (g.W.World.seen c.ask_rows.new.world) c.args.self.now
        c.ask_rows.new.self) c.in-Some.is c.in_ok-rows.ensures.done.asks) c.in_ok-note_rows-in-Some.ensures.said;
  };
  parted = λ can. tt;
}

pub returns-in_ok-note_loss-in-None : goal.returns-in_ok-note_loss-in-None
returns-in_ok-note_loss-in-None g c = record {
  passes = quiet_as _ _ c.in_ok-rows.ensures.passes (record { views = ap (λ (n : NetState). n.views) c.in_ok-note_loss-in-None.ensures.adds.stays.net; xid = ap (λ (n : NetState). n.xid) c.in_ok-note_loss-in-None.ensures.adds.stays.net });
  done = record {
    waits = waits_at_end c.args.self.now c.ask_rows.new.self c.note_loss.new.self c.in_ok-rows.ensures.done.waits c.in_ok-note_loss-in-None.ensures.waits;
    shown = table_lost (c.is_joined.ensures.joined (search rules)) (subst (AsksAs g.W.World.Tells c.args.dpid (g.W.World.seen c.args.world.now)
        (g.W.World.seen c.ask_rows.new.world) c.args.self.now c.ask_rows.new.self) c.in-None.is c.in_ok-rows.ensures.done.asks)
        c.in_ok-note_loss-in-None.ensures.adds;
  };
  parted = λ can. tt;
}
