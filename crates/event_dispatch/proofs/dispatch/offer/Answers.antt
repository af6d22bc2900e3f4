use Rattle.std.proofs.Common.{Ok, Err, false, sym, length}
use Rattle.event_dispatch.specs.declared.fault.Fault.TheVariants as faults
use Rattle.event_dispatch.specs.EventParts.{OfferStops}
use Rattle.event_dispatch.specs.Plain.{IsPlainEnd}
use Rattle.event_dispatch.specs.laws.CutLaws.{if_err}
use Rattle.event_dispatch.specs.laws.OfferLaws.{offer_passed, offer_none, offer_fails}
use Rattle.event_dispatch.specs.laws.OfferInsteadLaws.{offer_whole, offer_instead}
use Rattle.event_dispatch.specs.laws.PassesLaws.{same_next, at_fault, passes_none, passes_then, passes_fails, passes_as, passes_number}
use Rattle.event_dispatch.proofs.dispatch.offer.Goals as goal

pub returns-then-not-takes : goal.returns-then-not-takes
returns-then-not-takes g c = record {
  passes = passes_none g.W.World.Tells (g.W.World.seen c.args.world.now) c.args.core.now.net c.args.core.now.net (Ok false) (same_next _);
  done = offer_passed g.W.World.Tells (g.J.Judge.accepts c.args.judge.now) c.args.event.now (g.W.World.seen c.args.world.now) c.args.core.now c.args.app.now
      c.requires.goes (sym (c.if-not-takes.ensures c.args.core.now.store));
  parted = λ can. tt;
}

pub returns-then-len-gt-MOST_BODY : goal.returns-then-len-gt-MOST_BODY
returns-then-len-gt-MOST_BODY g c = record {
  passes = passes_none g.W.World.Tells (g.W.World.seen c.args.world.now) c.args.core.now.net c.args.core.now.net (Err faults.NoMemory) (same_next _);
  done = offer_none g.W.World.Tells c.args.event.now (g.W.World.seen c.args.world.now) c.args.core.now c.args.app.now;
  parted = λ can. tt;
}

pub returns-in_err-stops : goal.returns-in_err-stops
returns-in_err-stops g c = record {
  passes = passes_fails _ c.from_residual.result c.in_err-stops.ensures.passes c.from_residual.ensures.0;
  done = at_fault _ (OfferStops g.W.World.Tells c.args.event.now (g.W.World.seen c.args.world.now) (g.W.World.seen c.take_turn.new.world) c.args.core.now c.args.app.now)
      c.in_err-stops.field-0.0 c.from_residual.result c.from_residual.ensures.1
      (offer_fails c.in_err-stops.field-0.0 (g.W.World.seen c.args.world.now) (g.W.World.seen c.take_turn.new.world) c.args.core.now c.args.app.now
      (sym (c.if-not-takes.ensures c.args.core.now.store)) c.take_turn.ensures.later c.in_err-stops.ensures.done);
  parted = λ can. if_err IsPlainEnd c.in_err-stops.field-0.0 c.from_residual.result c.from_residual.ensures.1 (c.in_err-stops.ensures.parted can);
}

pub returns-then-app-failed : goal.returns-then-app-failed
returns-then-app-failed g c = record {
  passes = passes_as _ (Ok c.in_ok-stops.stops) c.in_ok-stops.ensures.passes (same_next _);
  done = offer_whole c.args.event.now c.in_ok-stops.stops (g.W.World.seen c.args.world.now) (g.W.World.seen c.take_turn.new.world) c.args.core.now c.take_turn.new.self
      c.args.app.now c.take_turn.new.app (sym (c.if-not-takes.ensures c.args.core.now.store)) c.if-app-failed.true c.take_turn.ensures.later c.in_ok-stops.ensures.done;
  parted = λ can. tt;
}

pub returns : goal.returns
returns g c = record {
  passes = passes_then c.in_ok-stops.ensures.passes
      (passes_number (length c.args.core.now.store) (length c.take_turn.new.self.store) c.in_ok-stops.ensures.done.others.number c.give_instead.ensures.passes);
  done = offer_instead c.args.event.now c.give_instead.result (g.W.World.seen c.args.world.now) (g.W.World.seen c.take_turn.new.world) (g.W.World.seen c.give_instead.new.world)
      c.args.core.now c.take_turn.new.self c.give_instead.new.self c.args.app.now c.take_turn.new.app c.give_instead.new.app c.requires.few
      (sym (c.if-not-takes.ensures c.args.core.now.store)) c.if-app-failed.false c.in_ok-stops.ensures.done
      c.in_ok-stops.ensures.passes.continues c.give_instead.ensures.passes.continues c.take_turn.ensures.later c.give_instead.ensures.quiet c.give_instead.ensures.done;
  parted = c.give_instead.ensures.parted;
}
