use Rattle.event_dispatch.specs.declared.fault.Fault.TheVariants as faults
use Rattle.std.proofs.Common.{◌∙◌, ℕ, List, length, get_or, take, sym, subst, refl, ap}
use Rattle.std.proofs.lemmas.List.{take_more}
use Rattle.checkpoint_store.specs.Slots.{Slot}
use Rattle.event_dispatch.specs.ReportEnd.{TablesShown}
use Rattle.event_dispatch.specs.Why.{served_by}
use Rattle.event_dispatch.specs.laws.LastLaws.{take_whole, tables_none, tables_next}
use Rattle.event_dispatch.specs.laws.PassesLaws.{same_next, at_fault, quiet_none, quiet_fails, quiet_then, quiet_as, quiet_number, quiet_so_far_none, quiet_so_far_then}
use Rattle.event_dispatch.specs.laws.PlainLaws.{calm_anyway, tables_then}
use Rattle.event_dispatch.specs.laws.WhyLaws.{ends_then, why_then}
use Rattle.event_dispatch.specs.Plain.{IsPlainEnd}
use Rattle.event_dispatch.specs.laws.CutLaws.{if_err}
use Rattle.event_dispatch.proofs.engine_core.Core.note_tables.Goals as goal

pub loop-dpid-init : goal.loop-dpid-init
loop-dpid-init g c = record {
  waits = record { room = refl; events = refl; store = refl };
  passes = quiet_so_far_none g.W.World.Tells (g.W.World.seen c.args.world.now) c.args.self.now.net;
  shown = tables_none g.W.World.Tells (g.W.World.seen c.args.world.now) c.args.self.now;
}

pub loop-dpid-preserved : goal.loop-dpid-preserved
loop-dpid-preserved g c =
    let ds = c.deref-dpid-items.result.now in
    let i = c.loop-dpid.dpid-index in
    record {
      waits = ends_then c.args.self.now c.loop-dpid.self c.note_table.new.self c.loop-dpid.invariant.waits c.in_ok-note_table.ensures.done.waits;
      passes = quiet_so_far_then c.loop-dpid.invariant.passes (quiet_number (length c.args.self.now.store) (length c.loop-dpid.self.store)
          (ap (λ (slots : List Slot). length slots) c.loop-dpid.invariant.waits.store) c.in_ok-note_table.ensures.passes);
      shown = subst (λ (xs : List ℕ). TablesShown g.W.World.Tells xs (g.W.World.seen c.args.world.now) (g.W.World.seen c.note_table.new.world)
          c.args.self.now c.note_table.new.self) (sym (take_more ds i 0 c.loop-dpid-test.true))
          (tables_next g.W.World.Tells (take i ds) (get_or ds i 0) (g.W.World.seen c.args.world.now) (g.W.World.seen c.loop-dpid.world)
          (g.W.World.seen c.note_table.new.world) c.args.self.now c.loop-dpid.self c.note_table.new.self
          c.loop-dpid.invariant.shown c.in_ok-note_table.ensures.passes.passes.continues c.in_ok-note_table.ensures.done.shown);
    }

pub returns-in_err-switches : goal.returns-in_err-switches
returns-in_err-switches g c = record {
  passes = quiet_none g.W.World.Tells (g.W.World.seen c.args.world.now) c.args.self.now.net c.args.self.now.net _ (same_next _);
  done = at_fault _ _ faults.NoMemory c.from_residual.result c.from_residual.ensures.1
      (record {
        why = tt;
        plain = calm_anyway (g.W.World.seen c.args.world.now) (g.W.World.seen c.args.world.now) c.args.self.now.net
            (served_by faults.NoMemory) tt;
      });
  parted = λ can. if_err IsPlainEnd faults.NoMemory c.from_residual.result c.from_residual.ensures.1 tt;
}

pub returns-in_err-note_table : goal.returns-in_err-note_table
returns-in_err-note_table g c =
    let fault = c.in_err-note_table.field-0.0 in
    record {
      passes = quiet_fails _ _ (quiet_then c.loop-dpid.invariant.passes (quiet_number (length c.args.self.now.store) (length c.loop-dpid.self.store)
          (ap (λ (slots : List Slot). length slots) c.loop-dpid.invariant.waits.store) c.note_table.ensures.passes))
          c.from_residual-in_err-note_table.ensures.0;
      done = at_fault _ _ fault c.from_residual-in_err-note_table.result c.from_residual-in_err-note_table.ensures.1 (record {
        why = why_then (g.W.World.seen c.args.world.now) (g.W.World.seen c.loop-dpid.world) (g.W.World.seen c.note_table.new.world) (served_by fault)
            c.loop-dpid.invariant.passes.passes.continues c.in_err-note_table.ensures.done.why;
        plain = tables_then c.deref-dpid-items.result.now c.loop-dpid.dpid-index (g.W.World.seen c.args.world.now) (g.W.World.seen c.loop-dpid.world)
            (g.W.World.seen c.note_table.new.world) c.args.self.now c.loop-dpid.self fault (c.deref-dpid-items.ensures.value ∙ c.in_ok-switches.ensures)
            c.loop-dpid.invariant.shown c.in_err-note_table.ensures.passes.passes.continues c.in_err-note_table.ensures.done.plain;
      });
      parted = λ can. if_err IsPlainEnd c.in_err-note_table.field-0.0 c.from_residual-in_err-note_table.result c.from_residual-in_err-note_table.ensures.1 (c.in_err-note_table.ensures.parted can);
    }

pub returns : goal.returns
returns g c = record {
  passes = quiet_as _ _ c.loop-dpid.invariant.passes (same_next _);
  done = record {
    waits = c.loop-dpid.invariant.waits;
    shown = subst (λ (ds : List ℕ). TablesShown g.W.World.Tells ds (g.W.World.seen c.args.world.now) (g.W.World.seen c.loop-dpid.world) c.args.self.now
        c.loop-dpid.self)
        (take_whole c.deref-dpid-items.result.now _ c.loop-dpid.dpid-index c.loop-dpid-test.false
        (c.deref-dpid-items.ensures.value ∙ c.in_ok-switches.ensures)) c.loop-dpid.invariant.shown;
  };
  parted = λ can. tt;
}
