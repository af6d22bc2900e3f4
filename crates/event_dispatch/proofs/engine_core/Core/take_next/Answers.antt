use Rattle.std.proofs.Common.{sym, ap, inl, inr}
use Rattle.event_dispatch.specs.Batch.{rest_by}
use Rattle.event_dispatch.specs.laws.BatchLaws.{no_rest}
use Rattle.event_dispatch.specs.laws.BatchSteadyLaws.{handled_reads}
use Rattle.event_dispatch.specs.laws.ItemLaws.{next_why}
use Rattle.event_dispatch.specs.laws.PassesLaws.{at_fault, if_failed}
use Rattle.event_dispatch.specs.laws.PlainLaws.{next_anyway, next_taken}
use Rattle.event_dispatch.specs.laws.TakingLaws.{next_fails, next_over, over_done, next_handled, handled_done}
use Rattle.event_dispatch.specs.Plain.{IsPlainEnd}
use Rattle.event_dispatch.specs.laws.CutLaws.{if_err}
use Rattle.event_dispatch.proofs.engine_core.Core.take_next.Goals as goal

pub returns-in_err-item : goal.returns-in_err-item
returns-in_err-item g c = record {
  passes = next_fails c.args.self.now.net c.args.self.now.net c.from_residual.result c.in_err-item.ensures.asks c.from_residual.ensures.0;
  done = at_fault _ _ c.in_err-item.field-0.0 c.from_residual.result c.from_residual.ensures.1 (record {
    why = c.in_err-item.ensures.done.why;
    plain = next_anyway (g.W.World.seen c.args.world.now) (g.W.World.seen c.next_item.new.world) c.in_err-item.field-0.0 c.in_err-item.ensures.done.plain;
  });
  parted = λ can. if_err IsPlainEnd c.in_err-item.field-0.0 c.from_residual.result c.from_residual.ensures.1 c.in_err-item.ensures.done.plain;
}

pub returns-in-Idle : goal.returns-in-Idle
returns-in-Idle g c =
    let told = c.in_ok-item.ensures in
    record {
      passes = next_over c.in_ok-item.item c.args.self.now.net _ c.requires.none_left (inl c.in-Idle.is) told.asks told.done.nexts;
      done = over_done _ c.in_ok-item.item c.next_item.new.buf (g.W.World.seen c.args.world.now) (g.W.World.seen c.next_item.new.world) c.args.self.now c.requires.none_left (inl c.in-Idle.is) (sym (ap rest_by c.in-Idle.is)) told.asks.bytes told.done.nexts;
      parted = λ can. tt;
    }

pub returns-in-End : goal.returns-in-End
returns-in-End g c =
    let told = c.in_ok-item.ensures in
    record {
      passes = next_over c.in_ok-item.item c.args.self.now.net _ c.requires.none_left (inr c.in-End.is) told.asks told.done.nexts;
      done = over_done _ c.in_ok-item.item c.next_item.new.buf (g.W.World.seen c.args.world.now) (g.W.World.seen c.next_item.new.world) c.args.self.now c.requires.none_left (inr c.in-End.is) (sym (ap rest_by c.in-End.is)) told.asks.bytes told.done.nexts;
      parted = λ can. tt;
    }

pub returns-in_err-take_item-in_default : goal.returns-in_err-take_item-in_default
returns-in_err-take_item-in_default g c =
    let told = c.in_ok-item.ensures in
    let failed = c.in_err-take_item-in_default.ensures in
    record {
      passes = next_handled c.in_ok-item.item _ c.from_residual-in_err-take_item-in_default.result told.asks told.done.nexts failed.uses (λ _. c.from_residual-in_err-take_item-in_default.ensures.0) (if_failed _ c.from_residual-in_err-take_item-in_default.result c.from_residual-in_err-take_item-in_default.ensures.0);
      done = at_fault _ _ c.in_err-take_item-in_default.field-0.0 c.from_residual-in_err-take_item-in_default.result c.from_residual-in_err-take_item-in_default.ensures.1 (record {
        why = next_why c.in_ok-item.item c.next_item.new.buf (g.W.World.seen c.args.world.now) (g.W.World.seen c.next_item.new.world) (g.W.World.seen c.take_item.new.world) c.in_err-take_item-in_default.field-0.0 told.done.nexts failed.done.why;
        plain = next_taken c.in_ok-item.item c.next_item.new.buf (g.W.World.seen c.args.world.now) (g.W.World.seen c.next_item.new.world) (g.W.World.seen c.take_item.new.world) c.in_err-take_item-in_default.field-0.0 told.done.nexts failed.uses.continues failed.done.plain;
      });
      parted = λ can. if_err IsPlainEnd c.in_err-take_item-in_default.field-0.0 c.from_residual-in_err-take_item-in_default.result c.from_residual-in_err-take_item-in_default.ensures.1 (c.in_err-take_item-in_default.ensures.parted can (c.in_ok-item.ensures.message can));
    }

pub returns-in_ok-take_item-in_default : goal.returns-in_ok-take_item-in_default
returns-in_ok-take_item-in_default g c =
    let told = c.in_ok-item.ensures in
    let took = c.in_ok-take_item-in_default.ensures in
    record {
      passes = next_handled c.in_ok-item.item _ _ told.asks told.done.nexts took.uses (λ f. f)
          (handled_reads g.W.World.Tells c.in_ok-item.item c.next_item.new.buf (g.W.World.seen c.args.world.now) (g.W.World.seen c.next_item.new.world) (g.W.World.seen c.take_item.new.world) c.args.self.now.net c.take_item.new.self.net c.args.self.now.queue c.take_item.new.self.queue told.done.nexts took.done.takes.handles took.uses.links took.done.messages);
      done = handled_done c.in_ok-item.item c.next_item.new.buf (g.W.World.seen c.args.world.now) (g.W.World.seen c.next_item.new.world) (g.W.World.seen c.take_item.new.world) c.args.self.now c.take_item.new.self (no_rest c.in_ok-item.item c.in_default.not-Idle c.in_default.not-End) told.asks.bytes told.done.nexts took.uses took.done;
      parted = λ can. tt;
    }
