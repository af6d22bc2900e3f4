use Rattle.std.proofs.Common.{ℕ, ◌+◌, List, subst}
use Rattle.event_dispatch.specs.declared.fault.Fault.TheVariants as faults
use Rattle.event_dispatch.specs.EventParts.{DispatchStops}
use Rattle.event_dispatch.specs.Shows.{Adds}
use Rattle.event_dispatch.specs.laws.OfferLaws.{noted_going, dispatch_ended, dispatch_passes, dispatch_short}
use Rattle.event_dispatch.specs.laws.PassesLaws.{at_fault, passes_not}
use Rattle.event_dispatch.specs.Plain.{IsPlainEnd}
use Rattle.event_dispatch.specs.laws.CutLaws.{if_err}
use Rattle.event_dispatch.proofs.run.Run.dispatch.Goals as goal

pub returns-in_err-line : goal.returns-in_err-line
returns-in_err-line g c = record {
  passes = passes_not g.W.World.Tells (g.W.World.seen c.args.world.now) c.args.self.now.core.net _ c.from_residual.result c.from_residual.ensures.0;
  done = at_fault _ (DispatchStops g.W.World.Tells (g.J.Judge.accepts c.args.judge.now) c.args.event.now (g.W.World.seen c.args.world.now)
      (g.W.World.seen c.args.world.now) c.args.self.now) faults.NoMemory c.from_residual.result c.from_residual.ensures.1
      (dispatch_short g.W.World.Tells (g.J.Judge.accepts c.args.judge.now) c.args.event.now (g.W.World.seen c.args.world.now) c.args.self.now);
  parted = λ can. if_err IsPlainEnd faults.NoMemory c.from_residual.result c.from_residual.ensures.1 tt;
}

pub returns-in_err-note : goal.returns-in_err-note
returns-in_err-note g c = record {
  passes = passes_not g.W.World.Tells (g.W.World.seen c.args.world.now) c.args.self.now.core.net _ c.from_residual-in_err-note.result
      c.from_residual-in_err-note.ensures.0;
  done = at_fault _ (DispatchStops g.W.World.Tells (g.J.Judge.accepts c.args.judge.now) c.args.event.now (g.W.World.seen c.args.world.now)
      (g.W.World.seen c.args.world.now) c.args.self.now) faults.NoMemory c.from_residual-in_err-note.result c.from_residual-in_err-note.ensures.1
      (dispatch_short g.W.World.Tells (g.J.Judge.accepts c.args.judge.now) c.args.event.now (g.W.World.seen c.args.world.now) c.args.self.now);
  parted = λ can. if_err IsPlainEnd faults.NoMemory c.from_residual-in_err-note.result c.from_residual-in_err-note.ensures.1 tt;
}

pub offer_all-requires-clause-going : goal.offer_all-requires-clause-going
offer_all-requires-clause-going g c =
    noted_going c.args.event.now c.args.self.now c.note.new.self (subst (λ (t : List ℕ). Adds t (record c.args.self.now.core { events = c.args.self.now.core.events + 1 }) c.note.new.self) c.in_ok-line.ensures c.in_ok-note.ensures.adds) c.requires.going

pub returns : goal.returns
returns g c = record {
  passes = dispatch_passes c.args.event.now c.args.self.now c.note.new.self
      (subst (λ (t : List ℕ). Adds t (record c.args.self.now.core { events = c.args.self.now.core.events + 1 }) c.note.new.self) c.in_ok-line.ensures
      c.in_ok-note.ensures.adds) c.offer_all.ensures.passes;
  done = dispatch_ended c.args.event.now c.args.self.now c.note.new.self
      (subst (λ (t : List ℕ). Adds t (record c.args.self.now.core { events = c.args.self.now.core.events + 1 }) c.note.new.self) c.in_ok-line.ensures
      c.in_ok-note.ensures.adds) g.W.World.Tells (g.J.Judge.accepts c.args.judge.now) c.offer_all.result (g.W.World.seen c.args.world.now)
      (g.W.World.seen c.offer_all.new.world) _ c.offer_all.ensures.done;
  parted = c.offer_all.ensures.parted;
}
