use Rattle.std.proofs.Common.{Ok, Err, false, sym, ◌∙◌}
use Rattle.crash_policy.specs.Policies.{app_value}
use Rattle.event_dispatch.specs.declared.fault.Fault.TheVariants as faults
use Rattle.event_dispatch.specs.GroupParts.{InsteadFails}
use Rattle.event_dispatch.specs.Plain.{IsPlainEnd}
use Rattle.event_dispatch.specs.laws.CutLaws.{if_err}
use Rattle.event_dispatch.specs.laws.GroupLaws.{quiet_none}
use Rattle.event_dispatch.specs.laws.OfferInsteadLaws.{nothing_given, none_if_gone, given_if_alive, none_given, no_item, an_item, group_given, all_carried}
use Rattle.event_dispatch.specs.laws.PassesLaws.{same_next, at_fault, passes_none}
use Rattle.event_dispatch.proofs.engine_core.Core.give_instead.Goals as goal

pub returns-then-not-app : goal.returns-then-not-app
returns-then-not-app g c = record {
  passes = passes_none g.W.World.Tells (g.W.World.seen c.args.world.now) c.args.self.now.net c.args.self.now.net (Ok false) (same_next _);
  quiet = λ told. quiet_none c.args.app.now.state.index c.args.self.now.events (g.W.World.seen c.args.world.now);
  done = nothing_given g.W.World.Tells (g.J.Judge.accepts c.args.judge.now) c.args.event.now (g.W.World.seen c.args.world.now) c.args.self.now c.args.app.now c.requires.goes
      (none_if_gone c.args.app.now.state.alive (app_value c.args.app.now.rule.now) c.args.event.now c.if-not-app.true);
  parted = λ can. tt;
}

pub returns-in_err-others : goal.returns-in_err-others
returns-in_err-others g c = record {
  passes = passes_none g.W.World.Tells (g.W.World.seen c.args.world.now) c.args.self.now.net c.args.self.now.net c.from_residual.result (same_next _);
  quiet = λ told. quiet_none c.args.app.now.state.index c.args.self.now.events (g.W.World.seen c.args.world.now);
  done = at_fault _ (λ fault. InsteadFails g.W.World.Tells fault (g.W.World.seen c.args.world.now) (g.W.World.seen c.args.world.now) c.args.self.now c.args.app.now)
      faults.NoMemory c.from_residual.result c.from_residual.ensures.1
      (none_given g.W.World.Tells (g.W.World.seen c.args.world.now) c.args.self.now c.args.app.now c.if-not-app.false);
  parted = λ can. if_err IsPlainEnd faults.NoMemory c.from_residual.result c.from_residual.ensures.1 tt;
}

pub returns-then-is_empty : goal.returns-then-is_empty
returns-then-is_empty g c = record {
  passes = passes_none g.W.World.Tells (g.W.World.seen c.args.world.now) c.args.self.now.net c.args.self.now.net (Ok false) (same_next _);
  quiet = λ told. quiet_none c.args.app.now.state.index c.args.self.now.events (g.W.World.seen c.args.world.now);
  done = nothing_given g.W.World.Tells (g.J.Judge.accepts c.args.judge.now) c.args.event.now (g.W.World.seen c.args.world.now) c.args.self.now c.args.app.now c.requires.goes
      (given_if_alive c.args.app.now.state.alive (app_value c.args.app.now.rule.now) c.args.event.now c.if-not-app.false ∙ sym c.in_ok-others.ensures
      ∙ sym c.deref-events.ensures.value ∙ no_item c.deref-events.result.now (sym c.is_empty.ensures ∙ c.if-is_empty.true));
  parted = λ can. tt;
}

pub returns-then-not-are_carried : goal.returns-then-not-are_carried
returns-then-not-are_carried g c = record {
  passes = passes_none g.W.World.Tells (g.W.World.seen c.args.world.now) c.args.self.now.net c.args.self.now.net (Err faults.NoMemory) (same_next _);
  quiet = λ told. quiet_none c.args.app.now.state.index c.args.self.now.events (g.W.World.seen c.args.world.now);
  done = none_given g.W.World.Tells (g.W.World.seen c.args.world.now) c.args.self.now c.args.app.now c.if-not-app.false;
  parted = λ can. tt;
}

pub take_group-requires-clause-fits : goal.take_group-requires-clause-fits
take_group-requires-clause-fits g c =
    all_carried c.args.self.now.events c.args.self.now.net.moment c.deref-events.result.now (sym c.if-not-are_carried.ensures)

pub returns : goal.returns
returns g c = record {
  passes = c.take_group.ensures.passes;
  quiet = c.take_group.ensures.quiet;
  done = group_given g.W.World.Tells (g.J.Judge.accepts c.args.judge.now) c.args.event.now c.deref-events.result.now c.take_group.result (g.W.World.seen c.args.world.now)
      (g.W.World.seen c.take_group.new.world) c.args.self.now c.take_group.new.self c.args.app.now c.take_group.new.app c.if-not-app.false
      (c.deref-events.ensures.value ∙ c.in_ok-others.ensures) (an_item c.deref-events.result.now (sym c.is_empty.ensures ∙ c.if-is_empty.false)) c.take_group.ensures.done;
  parted = c.take_group.ensures.parted;
}
