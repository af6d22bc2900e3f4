use Rattle.std.proofs.Common.{List, length, refl, ap, subst, ◌∙◌, Option}
use Rattle.checkpoint_store.specs.Slots.{Slot}
use Rattle.event_dispatch.specs.declared.batch.Rest.{Rest}
use Rattle.event_dispatch.specs.Batch.{NextTaken}
use Rattle.event_dispatch.specs.Told.{GoesBegun}
use Rattle.event_dispatch.specs.Why.{served_by}
use Rattle.event_dispatch.specs.laws.BatchLaws.{then_told, batch_goes, batch_ends, batch_too_long}
use Rattle.event_dispatch.specs.laws.BatchSteadyLaws.{next_number, here_goes, here_ends, here_kept}
use Rattle.event_dispatch.specs.laws.PassesLaws.{same_next, at_fault, passes_then, passes_fails, passes_as, passes_waits, so_far, so_far_then}
use Rattle.event_dispatch.specs.laws.PlainLaws.{batch_kept, batch_next}
use Rattle.event_dispatch.specs.laws.SteadyLaws.{calls_then}
use Rattle.event_dispatch.specs.laws.TakingLaws.{goes_at_first, kept_comes_first, point_at_first}
use Rattle.event_dispatch.specs.laws.TalkingLaws.{keeps_then}
use Rattle.event_dispatch.specs.laws.WhyLaws.{waits_then, why_then}
use Rattle.event_dispatch.specs.Plain.{IsPlainEnd}
use Rattle.event_dispatch.specs.laws.CutLaws.{if_err}
use Rattle.event_dispatch.proofs.engine_core.Core.take_batch.Goals as goal

pub loop-item-init : goal.loop-item-init
loop-item-init g c =
    let first = c.in_ok-left.ensures in
    record {
      waits = first.done.waits;
      left = first.done.waits.left c.requires.none_left;
      read = first.done.read;
      goes = goes_at_first (g.W.World.seen c.args.world.now) (g.W.World.seen c.take_kept.new.world) c.args.self.now c.take_kept.new.self first.done.kept;
      first = kept_comes_first g.W.World.Tells (g.W.World.seen c.args.world.now) (g.W.World.seen c.take_kept.new.world) c.args.self.now c.take_kept.new.self first.done.kept;
      buffer = refl;
      passes = so_far first.passes.passes;
      talks = first.passes.talks;
      here = point_at_first c.args.self.now c.take_kept.new.self first.passes.links first.done.kept;
    }

pub loop-item-preserved : goal.loop-item-preserved
loop-item-preserved g c =
    let before = c.loop-item.invariant in
    let next = c.in_ok-rest.ensures in
    let same = ap (λ (slots : List Slot). length slots) before.waits.store in
    let taken = subst (λ (rest : Option Rest). NextTaken g.W.World.Tells rest (g.W.World.seen c.loop-item.world) (g.W.World.seen c.take_next.new.world) c.loop-item.self c.take_next.new.self) c.in_default.is next.done.taken in
    record {
      waits = waits_then c.args.self.now c.loop-item.self c.take_next.new.self before.waits next.done.waits;
      left = next.done.waits.left before.left;
      read = next.done.read before.read;
      goes = batch_goes c.loop-item._item (g.W.World.seen c.args.world.now) (g.W.World.seen c.loop-item.world) (g.W.World.seen c.take_next.new.world) c.args.self.now c.loop-item.self c.take_next.new.self before.goes taken;
      first = then_told g.W.World.Tells _ (g.W.World.seen c.args.world.now) (g.W.World.seen c.loop-item.world) (g.W.World.seen c.take_next.new.world) c.args.self.now c.loop-item.self c.take_next.new.self before.first next.done.taken;
      buffer = next.passes.buffer ∙ before.buffer;
      passes = so_far_then before.passes (passes_waits before.waits next.passes.passes);
      talks = keeps_then g.W.World.Tells (g.W.World.seen c.args.world.now) (g.W.World.seen c.loop-item.world) (g.W.World.seen c.take_next.new.world) before.talks next.passes.talks;
      here = here_goes (g.W.World.seen c.args.world.now) (g.W.World.seen c.loop-item.world) (g.W.World.seen c.take_next.new.world) c.args.self.now.net next.passes.passes.continues before.here (next_number (length c.args.self.now.store) (length c.loop-item.self.store) same next.passes.no_point)
          (subst (λ (rest : Option Rest). GoesBegun g.W.World.Tells rest (g.W.World.seen c.loop-item.world) (g.W.World.seen c.take_next.new.world)) c.in_default.is next.done.begun);
    }

pub returns-in_err-left : goal.returns-in_err-left
returns-in_err-left g c =
    let failed = c.in_err-left.ensures in
    record {
      passes = passes_fails c.take_kept.new.self.net c.from_residual.result failed.passes.passes c.from_residual.ensures.0;
      talks = failed.passes.talks;
      buffer = refl;
      done = at_fault _ _ c.in_err-left.field-0.0 c.from_residual.result c.from_residual.ensures.1 (record {
        here = λ none. here_kept (g.W.World.seen c.args.world.now) (g.W.World.seen c.take_kept.new.world) failed.passes.links;
        own = (here_kept (g.W.World.seen c.args.world.now) (g.W.World.seen c.take_kept.new.world) failed.passes.links).own;
        why = failed.done.why;
        plain = batch_kept (g.W.World.seen c.args.world.now) (g.W.World.seen c.take_kept.new.world) c.args.self.now.net c.in_err-left.field-0.0 failed.done.plain;
      });
      parted = λ can. if_err IsPlainEnd c.in_err-left.field-0.0 c.from_residual.result c.from_residual.ensures.1 c.in_err-left.ensures.plain;
    }

pub returns-in_err-rest : goal.returns-in_err-rest
returns-in_err-rest g c =
    let before = c.loop-item.invariant in
    let failed = c.in_err-rest.ensures in
    let no_point = next_number (length c.args.self.now.store) (length c.loop-item.self.store) (ap (λ (slots : List Slot). length slots) before.waits.store) failed.passes.no_point in
    record {
      passes = passes_fails c.take_next.new.self.net c.from_residual-in_err-rest.result (passes_then before.passes (passes_waits before.waits failed.passes.passes)) c.from_residual-in_err-rest.ensures.0;
      talks = keeps_then g.W.World.Tells (g.W.World.seen c.args.world.now) (g.W.World.seen c.loop-item.world) (g.W.World.seen c.take_next.new.world) before.talks failed.passes.talks;
      buffer = failed.passes.buffer ∙ before.buffer;
      done = at_fault _ _ c.in_err-rest.field-0.0 c.from_residual-in_err-rest.result c.from_residual-in_err-rest.ensures.1 (record {
        here = λ none. here_ends (g.W.World.seen c.args.world.now) (g.W.World.seen c.loop-item.world) (g.W.World.seen c.take_next.new.world) c.args.self.now.net failed.passes.passes.continues before.here no_point none;
        own = λ told. calls_then (before.here.own told) (no_point.own told);
        why = why_then (g.W.World.seen c.args.world.now) (g.W.World.seen c.loop-item.world) (g.W.World.seen c.take_next.new.world) (served_by c.in_err-rest.field-0.0) before.passes.continues failed.done.why;
        plain = batch_next c.loop-item._item (g.W.World.seen c.args.world.now) (g.W.World.seen c.loop-item.world) (g.W.World.seen c.take_next.new.world) c.args.self.now c.loop-item.self c.in_err-rest.field-0.0 before.goes failed.passes.passes.continues failed.done.plain;
      });
      parted = λ can. if_err IsPlainEnd c.in_err-rest.field-0.0 c.from_residual-in_err-rest.result c.from_residual-in_err-rest.ensures.1 (c.in_err-rest.ensures.parted can);
    }

pub returns-in-Some : goal.returns-in-Some
returns-in-Some g c =
    let before = c.loop-item.invariant in
    let next = c.in_ok-rest.ensures in
    record {
      passes = passes_as c.take_next.new.self.net _ (so_far_then before.passes (passes_waits before.waits next.passes.passes)) (same_next _);
      talks = keeps_then g.W.World.Tells (g.W.World.seen c.args.world.now) (g.W.World.seen c.loop-item.world) (g.W.World.seen c.take_next.new.world) before.talks next.passes.talks;
      buffer = next.passes.buffer ∙ before.buffer;
      done = record {
        waits = waits_then c.args.self.now c.loop-item.self c.take_next.new.self before.waits next.done.waits;
        read = next.done.read before.read;
        first = then_told g.W.World.Tells _ (g.W.World.seen c.args.world.now) (g.W.World.seen c.loop-item.world) (g.W.World.seen c.take_next.new.world) c.args.self.now c.loop-item.self c.take_next.new.self before.first next.done.taken;
        batch = batch_ends c.loop-item._item c.in-Some.rest (g.W.World.seen c.args.world.now) (g.W.World.seen c.loop-item.world) (g.W.World.seen c.take_next.new.world) c.args.self.now c.loop-item.self c.take_next.new.self before.goes
            (subst (λ (rest : Option Rest). NextTaken g.W.World.Tells rest (g.W.World.seen c.loop-item.world) (g.W.World.seen c.take_next.new.world) c.loop-item.self c.take_next.new.self) c.in-Some.is next.done.taken);
      };
      parted = λ can. tt;
    }

pub returns : goal.returns
returns g c =
    let before = c.loop-item.invariant in
    record {
      passes = passes_as c.loop-item.self.net _ before.passes (same_next _);
      talks = before.talks;
      buffer = before.buffer;
      done = record {
        waits = before.waits;
        read = before.read;
        first = before.first;
        batch = batch_too_long c.loop-item._item c.in_ok-left.left (g.W.World.seen c.args.world.now) (g.W.World.seen c.take_kept.new.world) (g.W.World.seen c.loop-item.world) c.args.self.now c.take_kept.new.self c.loop-item.self
            c.loop-item-test.false before.passes.continues c.in_ok-left.ensures.done.kept before.goes;
      };
      parted = λ can. tt;
    }
