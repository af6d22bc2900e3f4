use Rattle.std.proofs.Common.{ℕ, List, Ok, length, sym, subst, ◌∙◌}
use Rattle.app_visor.specs.CallsFor.{OwnSteps}
use Rattle.checkpoint_store.specs.Slots.{Slot}
use Rattle.event_dispatch.specs.declared.fault.Fault.TheVariants as faults
use Rattle.event_dispatch.specs.GroupParts.{GroupFails}
use Rattle.event_dispatch.specs.Stored.{KeepsOthers}
use Rattle.event_dispatch.specs.Plain.{IsPlainEnd}
use Rattle.event_dispatch.specs.laws.CutLaws.{if_err}
use Rattle.event_dispatch.specs.laws.GroupLaws.{quiet_own}
use Rattle.event_dispatch.specs.laws.GroupRestLaws.{group_closed, group_talked, group_is}
use Rattle.event_dispatch.specs.laws.PassesLaws.{same_next, at_fault, passes_then, passes_fails, passes_as, passes_number}
use Rattle.event_dispatch.specs.laws.PlainLaws.{turn_memory}
use Rattle.event_dispatch.proofs.engine_core.Core.take_group.Goals as goal

pub returns-in_err-grouped : goal.returns-in_err-grouped
returns-in_err-grouped g c = record {
  passes = passes_fails _ c.from_residual.result c.in_err-grouped.ensures.passes c.from_residual.ensures.0;
  quiet = c.hold_group.ensures.keeps.quiet;
  done = at_fault _ (GroupFails g.W.World.Tells c.args.app.now.state.index c.args.app.now.rule.now.budget c.args.app.now.state.rest
      (g.W.World.seen c.args.world.now) (g.W.World.seen c.hold_group.new.world) c.args.self.now.net) c.in_err-grouped.field-0.0 c.from_residual.result
      c.from_residual.ensures.1 c.in_err-grouped.ensures.done;
  parted = λ can. if_err IsPlainEnd c.in_err-grouped.field-0.0 c.from_residual.result c.from_residual.ensures.1 (c.in_err-grouped.ensures.parted can);
}

pub returns-in_err-close_group : goal.returns-in_err-close_group
returns-in_err-close_group g c = record {
  passes = passes_fails _ c.from_residual-in_err-close_group.result
      (passes_then c.in_ok-grouped.ensures.passes
      (passes_number (length c.args.self.now.store) (length c.hold_group.new.store) c.hold_group.ensures.keeps.others.number
      c.in_err-close_group.ensures.passes.passes)) c.from_residual-in_err-close_group.ensures.0;
  quiet = quiet_own c.hold_group.ensures.keeps.quiet c.close_group.ensures.passes.no_point.none_quiescent
      (λ told. subst (λ (i : ℕ). OwnSteps i (g.W.World.seen c.hold_group.new.world) (g.W.World.seen c.close_group.new.world)) c.hold_group.ensures.keeps.index
      (c.close_group.ensures.keeps.own told));
  done = at_fault _ (GroupFails g.W.World.Tells c.args.app.now.state.index c.args.app.now.rule.now.budget c.args.app.now.state.rest
      (g.W.World.seen c.args.world.now) (g.W.World.seen c.close_group.new.world) c.args.self.now.net) faults.NoMemory c.from_residual-in_err-close_group.result
      c.from_residual-in_err-close_group.ensures.1 (record {
        talks = group_talked c.in_ok-grouped.grouped (g.W.World.seen c.args.world.now) (g.W.World.seen c.hold_group.new.world)
            (g.W.World.seen c.close_group.new.world) c.in_ok-grouped.ensures.done c.close_group.ensures.passes.talks;
        why = tt;
        plain = turn_memory (g.W.World.seen c.args.world.now) (g.W.World.seen c.close_group.new.world) c.args.self.now.net;
        rests = group_closed c.args.events.now (g.W.World.seen c.args.world.now) (g.W.World.seen c.hold_group.new.world)
            (g.W.World.seen c.close_group.new.world) c.args.self.now.net c.hold_group.new.net c.requires.some c.in_ok-grouped.ensures.passes.continues
            c.close_group.ensures.passes.passes.continues
            (λ told. subst (λ (i : ℕ). OwnSteps i (g.W.World.seen c.hold_group.new.world) (g.W.World.seen c.close_group.new.world)) c.hold_group.ensures.keeps.index
            (c.close_group.ensures.keeps.own told)) c.in_ok-grouped.ensures.done;
      });
  parted = λ can. if_err IsPlainEnd faults.NoMemory c.from_residual-in_err-close_group.result c.from_residual-in_err-close_group.ensures.1 tt;
}

pub returns : goal.returns
returns g c = record {
  passes = passes_as _ (Ok c.in_ok-close_group.field-0)
      (passes_then c.in_ok-grouped.ensures.passes
      (passes_number (length c.args.self.now.store) (length c.hold_group.new.store) c.hold_group.ensures.keeps.others.number c.in_ok-close_group.ensures.passes.passes))
      (same_next _);
  quiet = quiet_own c.hold_group.ensures.keeps.quiet c.close_group.ensures.passes.no_point.none_quiescent
      (λ told. subst (λ (i : ℕ). OwnSteps i (g.W.World.seen c.hold_group.new.world) (g.W.World.seen c.close_group.new.world)) c.hold_group.ensures.keeps.index
      (c.close_group.ensures.keeps.own told));
  done = record {
    goes = c.in_ok-close_group.ensures.done.goes;
    events_is = c.in_ok-close_group.ensures.done.events;
    others = subst (λ (slots : List Slot). KeepsOthers c.args.app.now.state.index c.args.self.now.store slots) (sym c.in_ok-close_group.ensures.done.store)
        c.hold_group.ensures.keeps.others;
    index = c.close_group.ensures.keeps.index ∙ c.hold_group.ensures.keeps.index;
    rule = c.close_group.ensures.keeps.rule;
    group = group_is g.W.World.Tells (g.J.Judge.accepts c.args.judge.now) c.args.events.now c.in_ok-close_group.field-0
        (g.W.World.seen c.args.world.now) (g.W.World.seen c.hold_group.new.world) (g.W.World.seen c.close_group.new.world) c.hold_group.new.net c.hold_group.new.queue
        c.hold_group.new.app c.hold_group.new.store c.args.self.now c.close_group.new.self c.args.app.now c.close_group.new.app c.hold_group.ensures.keeps.index
        c.hold_group.ensures.keeps.alive c.in_ok-grouped.grouped c.in_ok-grouped.ensures.done c.in_ok-grouped.ensures.kept c.in_ok-close_group.ensures.done.stops c.in_ok-close_group.ensures.done.closes;
  };
  parted = λ can. tt;
}
