use Rattle.event_dispatch.specs.laws.WholeLaws.{opened_by, shut_by, short_by, why_shut, opens_continue}
use Rattle.event_dispatch.proofs.whole.open.Goals as goal

pub returns-in-Ok : goal.returns-in-Ok
returns-in-Ok g c = record { continues = opens_continue c.open.ensures; opened = λ told. opened_by (c.in-Ok.ensures.told told); unopened = tt; why = tt }

pub returns-in-Err-Shut : goal.returns-in-Err-Shut
returns-in-Err-Shut g c = record {
  continues = opens_continue c.open.ensures;
  opened = tt;
  unopened = shut_by g.W.World.Tells (g.W.World.seen c.args.world.now) (g.W.World.seen c.open.new.self) c.in-Err-Shut.field-0 c.in-Err-Shut.field-0-is
      c.in-Err-Shut.ensures.told;
  why = why_shut c.in-Err-Shut.field-0 c.in-Err-Shut.field-0-is c.in-Err-Shut.ensures;
}

pub returns-in-Err-Short : goal.returns-in-Err-Short
returns-in-Err-Short g c = record {
  continues = opens_continue c.open.ensures;
  opened = tt;
  unopened = short_by g.W.World.Tells (g.W.World.seen c.args.world.now) (g.W.World.seen c.open.new.self) c.in-Err-Short.field-0 c.in-Err-Short.field-0-is
      c.in-Err-Short.ensures.told;
  why = tt;
}
