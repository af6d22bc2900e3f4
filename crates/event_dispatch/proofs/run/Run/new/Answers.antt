use Rattle.std.proofs.Common.{arith}
use Rattle.event_dispatch.specs.laws.BeginLaws.{fresh_going, fresh_engine}
use Rattle.event_dispatch.proofs.run.Run.new.Goals as goal

pub returns : goal.returns
returns c = record {
  done = record {
    number = omega (arith, c.in_ok-number.ensures);
    going = fresh_going c.in_ok-number.number c.args.rules.now c.in_ok-new.field-0 c.in_ok-fresh.field-0.items c.in_ok-new.ensures.goes c.in_ok-number.ensures
        c.in_ok-new.ensures.store c.in_ok-fresh.ensures;
    first = fresh_engine c.in_ok-number.number c.args.rules.now c.in_ok-new.field-0 c.in_ok-fresh.field-0.items c.in_ok-new.ensures.net c.in_ok-new.ensures.queue
        c.in_ok-new.ensures.events c.in_ok-new.ensures.store c.in_ok-fresh.ensures;
    none_waits = c.in_ok-new.ensures.none_waits;
  };
}
