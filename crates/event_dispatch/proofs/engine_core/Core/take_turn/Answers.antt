use Rattle.std.proofs.Common.{ℕ, List, Ok, length, sym, subst, ◌∙◌}
use Rattle.app_visor.specs.CallsFor.{OwnSteps}
use Rattle.checkpoint_store.specs.Slots.{Slot}
use Rattle.event_dispatch.specs.declared.fault.Fault.TheVariants as faults
use Rattle.event_dispatch.specs.Stored.{KeepsOthers}
use Rattle.event_dispatch.specs.TurnParts.{TurnFails}
use Rattle.event_dispatch.specs.laws.DispatchStrayLaws.{later_quietly}
use Rattle.event_dispatch.specs.laws.LeftLaws.{left_closed}
use Rattle.event_dispatch.specs.laws.PassesLaws.{same_next, at_fault, passes_then, passes_fails, passes_as, passes_number}
use Rattle.event_dispatch.specs.laws.PlainLaws.{turn_memory}
use Rattle.event_dispatch.specs.laws.TalkingLaws.{turn_closed}
use Rattle.event_dispatch.specs.laws.OfferInsteadLaws.{turn_done_so}
use Rattle.event_dispatch.specs.Plain.{IsPlainEnd}
use Rattle.event_dispatch.specs.laws.CutLaws.{if_err}
use Rattle.event_dispatch.proofs.engine_core.Core.take_turn.Goals as goal

pub returns-in_err-closing : goal.returns-in_err-closing
returns-in_err-closing g c = record {
  passes = passes_fails _ c.from_residual.result c.in_err-closing.ensures.passes c.from_residual.ensures.0;
  later = c.hold_turn.ensures.keeps.later;
  done = at_fault _ (TurnFails g.W.World.Tells c.args.app.now.state.index c.args.app.now.rule.now.budget c.args.app.now.state.rest
      (g.W.World.seen c.args.world.now) (g.W.World.seen c.hold_turn.new.world) c.args.self.now.net) c.in_err-closing.field-0.0 c.from_residual.result
      c.from_residual.ensures.1 c.in_err-closing.ensures.done.fails;
  parted = λ can. if_err IsPlainEnd c.in_err-closing.field-0.0 c.from_residual.result c.from_residual.ensures.1 (c.in_err-closing.ensures.parted can);
}

pub returns-in_err-close : goal.returns-in_err-close
returns-in_err-close g c = record {
  passes = passes_fails _ c.from_residual-in_err-close.result
      (passes_then c.in_ok-closing.ensures.passes
      (passes_number (length c.args.self.now.store) (length c.hold_turn.new.store) c.hold_turn.ensures.keeps.others.number
      c.in_err-close.ensures.passes.passes)) c.from_residual-in_err-close.ensures.0;
  later = later_quietly c.args.app.now.state.index c.hold_turn.ensures.keeps.later c.close.ensures.passes.no_point.none_quiescent
      (λ told. subst (λ (i : ℕ). OwnSteps i (g.W.World.seen c.hold_turn.new.world) (g.W.World.seen c.close.new.world)) c.hold_turn.ensures.keeps.index
      (c.close.ensures.keeps.own told));
  done = at_fault _ (TurnFails g.W.World.Tells c.args.app.now.state.index c.args.app.now.rule.now.budget c.args.app.now.state.rest
      (g.W.World.seen c.args.world.now) (g.W.World.seen c.close.new.world) c.args.self.now.net) faults.NoMemory c.from_residual-in_err-close.result
      c.from_residual-in_err-close.ensures.1 (record {
        talks = turn_closed c.args.app.now.state.index c.args.app.now.state.rest (g.W.World.seen c.args.world.now) (g.W.World.seen c.hold_turn.new.world)
            (g.W.World.seen c.close.new.world) c.in_ok-closing.ensures.done.plays.plays c.close.ensures.passes.talks;
        why = tt;
        plain = turn_memory (g.W.World.seen c.args.world.now) (g.W.World.seen c.close.new.world) c.args.self.now.net;
        left = left_closed c.args.app.now.state.index c.in_ok-closing.closing (g.W.World.seen c.args.world.now) (g.W.World.seen c.hold_turn.new.world)
            (g.W.World.seen c.close.new.world) c.args.self.now.net c.hold_turn.new.net c.in_ok-closing.ensures.passes.continues
            c.close.ensures.passes.passes.continues
            (λ told. subst (λ (i : ℕ). OwnSteps i (g.W.World.seen c.hold_turn.new.world) (g.W.World.seen c.close.new.world)) c.hold_turn.ensures.keeps.index
            (c.close.ensures.keeps.own told)) c.in_ok-closing.ensures.done.plays.plays;
      });
  parted = λ can. if_err IsPlainEnd faults.NoMemory c.from_residual-in_err-close.result c.from_residual-in_err-close.ensures.1 tt;
}

pub returns : goal.returns
returns g c = record {
  passes = passes_as _ (Ok c.in_ok-close.field-0)
      (passes_then c.in_ok-closing.ensures.passes
      (passes_number (length c.args.self.now.store) (length c.hold_turn.new.store) c.hold_turn.ensures.keeps.others.number c.in_ok-close.ensures.passes.passes))
      (same_next _);
  later = later_quietly c.args.app.now.state.index c.hold_turn.ensures.keeps.later c.close.ensures.passes.no_point.none_quiescent
      (λ told. subst (λ (i : ℕ). OwnSteps i (g.W.World.seen c.hold_turn.new.world) (g.W.World.seen c.close.new.world)) c.hold_turn.ensures.keeps.index
      (c.close.ensures.keeps.own told));
  done = turn_done_so g.W.World.Tells (g.J.Judge.accepts c.args.judge.now) c.args.event.now c.in_ok-closing.closing c.in_ok-close.field-0
      (g.W.World.seen c.args.world.now) (g.W.World.seen c.hold_turn.new.world) (g.W.World.seen c.close.new.world) c.hold_turn.new.net c.hold_turn.new.queue
      c.hold_turn.new.app c.hold_turn.new.store
      c.args.self.now c.close.new.self c.args.app.now c.close.new.app c.in_ok-closing.ensures.done.plays c.hold_turn.ensures.keeps.index
      c.hold_turn.ensures.keeps.alive c.in_ok-close.ensures.done.stops c.in_ok-close.ensures.done.closes c.in_ok-close.ensures.done.goes c.in_ok-close.ensures.done.events
      (subst (λ (slots : List Slot). KeepsOthers c.args.app.now.state.index c.args.self.now.store slots) (sym c.in_ok-close.ensures.done.store)
      c.hold_turn.ensures.keeps.others) (c.close.ensures.keeps.index ∙ c.hold_turn.ensures.keeps.index) c.close.ensures.keeps.rule
      c.close.ensures.passes.passes.continues
      (λ told. subst (λ (i : ℕ). OwnSteps i (g.W.World.seen c.hold_turn.new.world) (g.W.World.seen c.close.new.world)) c.hold_turn.ensures.keeps.index
      (c.close.ensures.keeps.own told));
  parted = λ can. tt;
}
