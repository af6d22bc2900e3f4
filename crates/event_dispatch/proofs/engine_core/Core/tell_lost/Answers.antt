use Rattle.std.proofs.Common.{sym, ◌∙◌}
use Rattle.event_dispatch.specs.laws.PassesLaws.{waits_none}
use Rattle.event_dispatch.specs.laws.LosingLaws.{tells_first, tells_next, tells_all, fewer_left, waits_next, waits_all}
use Rattle.event_dispatch.proofs.engine_core.Core.tell_lost.Goals as goal

pub loop-event-init : goal.loop-event-init
loop-event-init c = record { waits = waits_none c.args.self.now; tells = tells_first c.args.self.now }

pub loop-event-smaller : goal.loop-event-smaller
loop-event-smaller c = fewer_left c.loop-event.self c.note_loss.new.self c.lost.new.self c.in-Some.event (sym c.in-Some.is ∙ c.in_ok-event.ensures.first) c.in_ok-event.ensures.rest c.in_ok-note_loss.ensures.adds

pub loop-event-preserved : goal.loop-event-preserved
loop-event-preserved c = record {
  waits = waits_next c.args.self.now c.loop-event.self c.note_loss.new.self c.lost.new.self c.push.new.self c.loop-event.invariant.waits c.in_ok-event.ensures.rest c.in_ok-note_loss.ensures.waits;
  tells = tells_next c.args.self.now c.loop-event.self c.note_loss.new.self c.lost.new.self c.push.new.self c.in-Some.event c.loop-event.invariant.tells (sym c.in-Some.is ∙ c.in_ok-event.ensures.first) c.in_ok-event.ensures.rest c.in_ok-note_loss.ensures.adds
      c.in_ok-push.ensures.ok;
}

pub returns : goal.returns
returns c = record {
  waits = waits_all c.args.self.now c.loop-event.self c.lost.new.self c.loop-event.invariant.waits c.in_ok-event.ensures.rest;
  tells = tells_all c.args.self.now c.loop-event.self c.lost.new.self c.loop-event.invariant.tells (sym c.in_default.is ∙ c.in_ok-event.ensures.first) c.in_ok-event.ensures.rest;
}
