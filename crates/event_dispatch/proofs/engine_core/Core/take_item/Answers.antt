use Rattle.event_dispatch.specs.declared.fault.Fault.TheVariants as faults
use Rattle.std.specs.Prelude.{ℕ, Vec}
use Rattle.std.specs.Global.{Global}
use Rattle.std.proofs.Common.{Ok, subst, refl, ap, ◌∙◌}
use Rattle.outside.specs.Calls.{item_step}
use Rattle.outside.specs.declared.step.WorldStep.{WorldStep}
use Rattle.net_txn.specs.Net.{NetState}
use Rattle.batch_laws.specs.laws.HandleLaws.{moment_handles}
use Rattle.event_dispatch.specs.Numbers.{AscendsAtItem}
use Rattle.event_dispatch.specs.Taking.{ToldDone}
use Rattle.event_dispatch.specs.laws.BatchLaws.{from_step, joined_step, left_step, moment_step, rest_handles, rest_undoubted, takes_none, left_taken}
use Rattle.event_dispatch.specs.laws.BatchSteadyLaws.{from_puts, joined_item, only_none}
use Rattle.event_dispatch.specs.laws.ItemLaws as why
use Rattle.event_dispatch.specs.laws.KeptLaws.{read_alike}
use Rattle.event_dispatch.specs.laws.PassesLaws.{at_fault, match_weaker, waits_none}
use Rattle.event_dispatch.specs.laws.PlainLaws.{item_joined, item_memory}
use Rattle.event_dispatch.specs.laws.TakingLaws.{uses_none, uses_not, from_ascends, done_told}
use Rattle.event_dispatch.specs.laws.PartedLaws.{in_front}
use Rattle.event_dispatch.specs.Plain.{IsPlainEnd, PlainItem}
use Rattle.event_dispatch.specs.laws.CutLaws.{if_err}
use Rattle.event_dispatch.proofs.engine_core.Core.take_item.Goals as goal

pub returns-in-From : goal.returns-in-From
returns-in-From g c =
    let passes = c.take_told.ensures.passes in
    record {
      uses = record {
        numbers = from_ascends c.take_told.new.self.net c.take_told.result c.args.item c.in-From.dpid c.in-From.size c.args.buf.now c.in-From.is passes.passes.numbers;
        continues = passes.passes.continues;
        talks = passes.talks;
        links = passes.links;
        places = from_puts g.W.World.Tells c.args.item c.in-From.dpid c.in-From.size c.args.buf.now (g.W.World.seen c.args.world.now) (g.W.World.seen c.take_told.new.world) c.args.self.now.net c.in-From.is passes.passes.places;
      };
      done = match_weaker c.take_told.result c.take_told.ensures.done
          (λ _ done. subst (λ (step : WorldStep). ToldDone g.W.World.Tells step (g.W.World.seen c.args.world.now) (g.W.World.seen c.take_told.new.world) c.args.self.now c.take_told.new.self)
          (from_step c.args.item c.in-From.dpid c.in-From.size c.args.buf.now c.in-From.is) done)
          (λ fault fails. record {
            why = why.from_why c.args.item c.in-From.dpid c.in-From.size c.args.buf.now (g.W.World.seen c.args.world.now) (g.W.World.seen c.take_told.new.world) fault c.in-From.is fails.why;
            plain = subst (λ (step : WorldStep). PlainItem g.W.World.Tells step (g.W.World.seen c.args.world.now) (g.W.World.seen c.take_told.new.world) fault) (from_step c.args.item c.in-From.dpid c.in-From.size c.args.buf.now c.in-From.is) fails.plain;
          });
      parted = λ can read. c.take_told.ensures.parted can (in_front c.args.item c.in-From.dpid c.in-From.size c.args.buf.now c.in-From.is read);
    }

pub returns-in-Joined : goal.returns-in-Joined
returns-in-Joined g c =
    let uses = c.take_in.ensures.uses in
    record {
      uses = record {
        numbers = subst (λ (step : WorldStep). AscendsAtItem g.W.World.Tells step (g.W.World.seen c.args.world.now) (g.W.World.seen c.take_in.new.world) c.args.self.now.net c.take_in.new.self.net c.take_in.result)
            (joined_step c.args.item c.in-Joined.dpid c.in-Joined.size c.args.buf.now c.in-Joined.is) uses.numbers;
        continues = uses.continues;
        talks = uses.talks;
        links = uses.links;
        places = joined_item g.W.World.Tells c.args.item c.in-Joined.dpid c.in-Joined.size c.args.buf.now (g.W.World.seen c.args.world.now) (g.W.World.seen c.take_in.new.world) c.args.self.now.net c.in-Joined.is uses.places;
      };
      done = match_weaker c.take_in.result c.take_in.ensures.done
          (λ _ done. subst (λ (step : WorldStep). ToldDone g.W.World.Tells step (g.W.World.seen c.args.world.now) (g.W.World.seen c.take_in.new.world) c.args.self.now c.take_in.new.self)
          (joined_step c.args.item c.in-Joined.dpid c.in-Joined.size c.args.buf.now c.in-Joined.is) (done_told refl done))
          (λ fault fails. record {
            why = why.joined_why (item_step c.args.item c.args.buf.now) (g.W.World.seen c.args.world.now) (g.W.World.seen c.take_in.new.world) fault fails.why;
            plain = item_joined c.args.item c.in-Joined.dpid c.in-Joined.size c.args.buf.now (g.W.World.seen c.args.world.now) (g.W.World.seen c.take_in.new.world) fault c.in-Joined.is fails.plain;
          });
      parted = λ can read. c.take_in.ensures.parted can;
    }

pub returns-in_ok-take_out-in-Left : goal.returns-in_ok-take_out-in-Left
returns-in_ok-take_out-in-Left g c =
    let left = c.in_ok-take_out-in-Left.ensures.done in
    record {
      uses = uses_none g.W.World.Tells (item_step c.args.item c.args.buf.now) (g.W.World.seen c.args.world.now) c.args.self.now.net c.take_out.new.self.net (Ok tt) left.xid;
      done = subst (λ (step : WorldStep). ToldDone g.W.World.Tells step (g.W.World.seen c.args.world.now) (g.W.World.seen c.args.world.now) c.args.self.now c.take_out.new.self)
          (left_step c.args.item c.in-Left.dpid c.args.buf.now c.in-Left.is)
          (done_told refl (record {
            waits = left.waits;
            messages = only_none g.W.World.Tells (g.W.World.seen c.args.world.now);
            read = left.read;
            takes = left_taken c.in-Left.dpid (g.W.World.seen c.args.world.now) c.args.self.now c.take_out.new.self c.requires.none_left (ap (λ (v : Vec ℕ Global). v.items) c.take_out.ensures.lines) left.departs;
          }));
      parted = λ can read. tt;
    }

pub returns-in_err-take_out-in-Left : goal.returns-in_err-take_out-in-Left
returns-in_err-take_out-in-Left g c = record {
  uses = uses_not g.W.World.Tells (item_step c.args.item c.args.buf.now) (g.W.World.seen c.args.world.now) c.args.self.now.net _ c.from_residual.result c.from_residual.ensures.0;
  done = at_fault _ _ faults.NoMemory c.from_residual.result c.from_residual.ensures.1 (record {
    why = why.item_memory (item_step c.args.item c.args.buf.now) (g.W.World.seen c.args.world.now) (g.W.World.seen c.args.world.now);
    plain = item_memory c.args.item c.args.buf.now (g.W.World.seen c.args.world.now) (g.W.World.seen c.args.world.now);
  });
  parted = λ can read. if_err IsPlainEnd faults.NoMemory c.from_residual.result c.from_residual.ensures.1 tt;
}

pub returns-in-Moment : goal.returns-in-Moment
returns-in-Moment g c =
    let set = c.set_moment.ensures in
    record {
      uses = uses_none g.W.World.Tells (item_step c.args.item c.args.buf.now) (g.W.World.seen c.args.world.now) c.args.self.now.net c.set_moment.new.self (Ok tt) (ap (λ (n : NetState). n.xid) set);
      done = subst (λ (step : WorldStep). ToldDone g.W.World.Tells step (g.W.World.seen c.args.world.now) (g.W.World.seen c.args.world.now) c.args.self.now (record c.args.self.now { net = c.set_moment.new.self }))
          (moment_step c.args.item c.in-Moment.moment c.args.buf.now c.in-Moment.is)
          (done_told refl (record {
            waits = record { room = ap (λ (n : NetState). n.room) set; events = refl; store = refl; left = λ none. ap (λ (n : NetState). n.left) set ∙ none };
            messages = only_none g.W.World.Tells (g.W.World.seen c.args.world.now);
            read = λ read. read_alike _ _ (ap (λ (n : NetState). n.kept) set) read;
            takes = takes_none c.args.self.now (record c.args.self.now { net = c.set_moment.new.self }) refl
                (moment_handles c.in-Moment.moment (g.W.World.seen c.args.world.now) c.args.self.now.net c.set_moment.new.self c.args.self.now.queue c.requires.none_left set);
          }));
      parted = λ can read. tt;
    }

pub returns-in-Idle : goal.returns-in-Idle
returns-in-Idle g c = record {
  uses = uses_none g.W.World.Tells (item_step c.args.item c.args.buf.now) (g.W.World.seen c.args.world.now) c.args.self.now.net c.args.self.now.net (Ok tt) refl;
  done = done_told (rest_undoubted c.args.item c.args.buf.now c.args.self.now.net.views c.in-Idle.is) (record {
    waits = waits_none c.args.self.now;
    messages = only_none g.W.World.Tells (g.W.World.seen c.args.world.now);
    read = λ read. read;
    takes = takes_none c.args.self.now c.args.self.now refl (rest_handles c.args.item c.args.buf.now (g.W.World.seen c.args.world.now) c.args.self.now.net c.args.self.now.queue c.requires.none_left c.in-Idle.is);
  });
  parted = λ can read. tt;
}
