use Rattle.event_dispatch.specs.declared.fault.Fault.TheVariants as faults
use Rattle.std.proofs.Common.{Ok, Err, refl, sym}
use Rattle.outside.specs.declared.step.WorldStep.TheVariants.{Joined}
use Rattle.batch_laws.specs.laws.HandleLaws.{joined_ignored, unread_handles}
use Rattle.event_dispatch.specs.laws.BatchLaws.{unread, takes_none, joined_taken}
use Rattle.event_dispatch.specs.laws.BatchSteadyLaws.{joined_puts, only_none}
use Rattle.event_dispatch.specs.laws.PassesLaws.{match_weaker, waits_none}
use Rattle.event_dispatch.specs.laws.PlainLaws.{join_memory}
use Rattle.event_dispatch.specs.laws.TakingLaws.{uses_none, uses_not}
use Rattle.event_dispatch.proofs.engine_core.Core.take_in.Goals as goal

pub returns-then-is_joined : goal.returns-then-is_joined
returns-then-is_joined g c = record {
  uses = uses_none g.W.World.Tells (Joined c.args.dpid c.args.frame.now) (g.W.World.seen c.args.world.now) c.args.self.now.net c.args.self.now.net (Ok tt) refl;
  done = record {
    waits = waits_none c.args.self.now;
    messages = only_none g.W.World.Tells (g.W.World.seen c.args.world.now);
    read = λ read. read;
    takes = takes_none c.args.self.now c.args.self.now refl (joined_ignored c.args.dpid c.args.frame.now (g.W.World.seen c.args.world.now) c.args.self.now.net c.args.self.now.queue c.requires.none_left (c.if-is_joined.ensures.joined refl));
  };
  parted = λ can. tt;
}

pub returns-in-Ok : goal.returns-in-Ok
returns-in-Ok g c =
    let uses = c.join.ensures.uses in
    record {
      uses = record {
        numbers = λ told order at short before. uses.numbers told short before;
        continues = uses.continues;
        talks = uses.talks;
        links = uses.links;
        places = joined_puts g.W.World.Tells c.args.dpid c.args.frame.now (g.W.World.seen c.args.world.now) (g.W.World.seen c.join.new.world) c.args.self.now.net uses.places;
      };
      done = match_weaker c.join.result c.join.ensures.done
          (λ _ done. record {
            waits = done.waits;
            messages = done.messages;
            read = done.read;
            takes = joined_taken c.args.dpid c.args.frame.now c.in-Ok.envelope (g.W.World.seen c.args.world.now) (g.W.World.seen c.join.new.world) c.args.self.now c.join.new.self c.requires.none_left (c.if-is_joined.ensures.out refl) c.in-Ok.ensures.exact uses.continues uses.links uses.places done.joins;
          })
          (λ _ fails. fails);
      parted = c.join.ensures.parted;
    }

pub returns-then-ran_short : goal.returns-then-ran_short
returns-then-ran_short g c = record {
  uses = uses_not g.W.World.Tells (Joined c.args.dpid c.args.frame.now) (g.W.World.seen c.args.world.now) c.args.self.now.net c.args.self.now.net (Err faults.NoMemory) refl;
  done = record { why = tt; plain = join_memory c.args.dpid (g.W.World.seen c.args.world.now) (g.W.World.seen c.args.world.now) };
  parted = λ can. tt;
}

pub returns-else-ran_short : goal.returns-else-ran_short
returns-else-ran_short g c = record {
  uses = uses_none g.W.World.Tells (Joined c.args.dpid c.args.frame.now) (g.W.World.seen c.args.world.now) c.args.self.now.net c.args.self.now.net (Ok tt) refl;
  done = record {
    waits = waits_none c.args.self.now;
    messages = only_none g.W.World.Tells (g.W.World.seen c.args.world.now);
    read = λ read. read;
    takes = takes_none c.args.self.now c.args.self.now refl
        (unread_handles c.args.dpid c.args.frame.now c.in-Err.fault (g.W.World.seen c.args.world.now) c.args.self.now.net c.args.self.now.queue c.requires.none_left (c.if-is_joined.ensures.out refl) (unread c.in-Err.fault _ (sym c.if-ran_short.ensures) c.in-Err.ensures.exact));
  };
  parted = λ can. tt;
}
