use Rattle.event_dispatch.specs.declared.fault.Fault.TheVariants as faults
use Rattle.std.proofs.Common.{refl, ap}
use Rattle.net_txn.specs.Net.{NetState}
use Rattle.event_dispatch.specs.Why.{served_by}
use Rattle.event_dispatch.specs.laws.LastLaws.{last_shown}
use Rattle.event_dispatch.specs.laws.PassesLaws.{at_fault, quiet_fails, quiet_as}
use Rattle.event_dispatch.specs.laws.PlainLaws.{calm_anyway}
use Rattle.event_dispatch.specs.laws.WhyLaws.{waits_at_end}
use Rattle.event_dispatch.specs.Plain.{IsPlainEnd}
use Rattle.event_dispatch.specs.laws.CutLaws.{if_err}
use Rattle.event_dispatch.proofs.run.Run.note_last.Goals as goal

pub returns-in_err-note_tables : goal.returns-in_err-note_tables
returns-in_err-note_tables g c = record {
  passes = quiet_fails _ _ c.note_tables.ensures.passes c.from_residual.ensures.0;
  apps = refl;
  done = at_fault _ _ c.in_err-note_tables.field-0.0 c.from_residual.result c.from_residual.ensures.1 c.in_err-note_tables.ensures.done;
  parted = λ can. if_err IsPlainEnd c.in_err-note_tables.field-0.0 c.from_residual.result c.from_residual.ensures.1 (c.in_err-note_tables.ensures.parted can);
}

pub returns-in_err-note_end : goal.returns-in_err-note_end
returns-in_err-note_end g c = record {
  passes = quiet_fails _ _ c.note_tables.ensures.passes c.from_residual-in_err-note_end.ensures.0;
  apps = refl;
  done = at_fault _ _ faults.NoMemory c.from_residual-in_err-note_end.result c.from_residual-in_err-note_end.ensures.1
      (record {
        why = tt;
        plain = calm_anyway (g.W.World.seen c.args.world.now) (g.W.World.seen c.note_tables.new.world) c.args.self.now.core.net
            (served_by faults.NoMemory) tt;
      });
  parted = λ can. if_err IsPlainEnd faults.NoMemory c.from_residual-in_err-note_end.result c.from_residual-in_err-note_end.ensures.1 tt;
}

pub returns : goal.returns
returns g c = record {
  passes = quiet_as _ _ c.in_ok-note_tables.ensures.passes (record { views = ap (λ (n : NetState). n.views) c.in_ok-note_end.ensures.adds.stays.net; xid = ap (λ (n : NetState). n.xid) c.in_ok-note_end.ensures.adds.stays.net });
  apps = refl;
  done = record {
    waits = waits_at_end c.args.self.now.core c.note_tables.new.self c.note_end.new.self c.in_ok-note_tables.ensures.done.waits c.in_ok-note_end.ensures.waits;
    shown = last_shown c.args.self.now c.note_tables.new.self c.note_end.new.self c.deref.result.now c.in_ok-note_tables.ensures.passes.passes.continues
        c.in_ok-note_tables.ensures.done.shown c.deref.ensures.value c.in_ok-note_end.ensures.adds;
  };
  parted = λ can. tt;
}
