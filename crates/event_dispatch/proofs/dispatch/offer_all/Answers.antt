use Rattle.std.proofs.Common.{Ok, length, arith}
use Rattle.event_dispatch.specs.EventParts.{OffersStop}
use Rattle.event_dispatch.specs.laws.PassesLaws.{same_next, at_fault, passes_then, passes_fails, passes_as, passes_number}
use Rattle.event_dispatch.specs.laws.OfferLaws.{offers_first, next_split, next_place, offers_on, offers_end, all_offered, offers_stop_at}
use Rattle.event_dispatch.specs.Plain.{IsPlainEnd}
use Rattle.event_dispatch.specs.laws.CutLaws.{if_err}
use Rattle.event_dispatch.proofs.dispatch.offer_all.Goals as goal

pub loop-at-init : goal.loop-at-init
loop-at-init g c =
    offers_first g.W.World.Tells (g.J.Judge.accepts c.args.judge.now) c.args.event.now (g.W.World.seen c.args.world.now) c.args.core.now c.args.apps.now.items c.requires.going

pub offer-requires-clause-place : goal.offer-requires-clause-place
offer-requires-clause-place g c =
    next_place c.loop-at.at c.index_mut.result.now c.loop-at.invariant (omega (arith, c.loop-at-test.true, c.len-at-end.ensures, c.loop-at.invariant.number_is, c.requires.going.number)) c.index_mut.ensures.value

pub returns-in_err-offer : goal.returns-in_err-offer
returns-in_err-offer g c = record {
  passes = passes_fails _ c.from_residual.result
      (passes_then c.loop-at.invariant.passes (passes_number (length c.args.core.now.store) (length c.loop-at.core.store) c.loop-at.invariant.number
      c.in_err-offer.ensures.passes)) c.from_residual.ensures.0;
  done = at_fault _ (OffersStop g.W.World.Tells (g.J.Judge.accepts c.args.judge.now) c.args.event.now (g.W.World.seen c.args.world.now)
      (g.W.World.seen c.offer.new.world) c.args.core.now c.args.apps.now.items) c.in_err-offer.field-0.0 c.from_residual.result c.from_residual.ensures.1
      (offers_stop_at c.loop-at.at (g.W.World.seen c.args.world.now) (g.W.World.seen c.loop-at.world) (g.W.World.seen c.offer.new.world) c.args.core.now
      c.loop-at.core c.args.apps.now.items c.loop-at.apps.items c.index_mut.result.now c.in_err-offer.field-0.0
      c.loop-at.invariant (next_split c.loop-at.at c.index_mut.result.now c.loop-at.invariant
      (omega (arith, c.loop-at-test.true, c.len-at-end.ensures, c.loop-at.invariant.number_is, c.requires.going.number)) c.index_mut.ensures.value)
      c.in_err-offer.ensures.passes.continues c.in_err-offer.ensures.done);
  parted = λ can. if_err IsPlainEnd c.in_err-offer.field-0.0 c.from_residual.result c.from_residual.ensures.1 (c.in_err-offer.ensures.parted can);
}

pub returns-then-branch : goal.returns-then-branch
returns-then-branch g c = record {
  passes = passes_then c.loop-at.invariant.passes
      (passes_number (length c.args.core.now.store) (length c.loop-at.core.store) c.loop-at.invariant.number
      (passes_as c.offer.new.core.net (Ok tt) c.in_ok-offer.ensures.passes (same_next _)));
  done = offers_end c.loop-at.at (g.W.World.seen c.args.world.now) (g.W.World.seen c.loop-at.world) (g.W.World.seen c.offer.new.world) c.args.core.now
      c.loop-at.core c.offer.new.core c.args.apps.now.items c.loop-at.apps.items c.index_mut.result.now c.offer.new.app c.in_ok-offer.field-0
      c.loop-at.invariant (next_split c.loop-at.at c.index_mut.result.now c.loop-at.invariant
      (omega (arith, c.loop-at-test.true, c.len-at-end.ensures, c.loop-at.invariant.number_is, c.requires.going.number)) c.index_mut.ensures.value)
      c.in_ok-offer.ensures.passes c.in_ok-offer.ensures.done c.if-branch.true;
  parted = λ can. tt;
}

pub loop-at-preserved : goal.loop-at-preserved
loop-at-preserved g c =
    offers_on c.loop-at.at (g.W.World.seen c.args.world.now) (g.W.World.seen c.loop-at.world) (g.W.World.seen c.offer.new.world) c.args.core.now c.loop-at.core c.offer.new.core c.args.apps.now.items c.loop-at.apps.items c.index_mut.result.now c.offer.new.app c.in_ok-offer.field-0
    c.loop-at.invariant (next_split c.loop-at.at c.index_mut.result.now c.loop-at.invariant
    (omega (arith, c.loop-at-test.true, c.len-at-end.ensures, c.loop-at.invariant.number_is, c.requires.going.number)) c.index_mut.ensures.value)
    c.in_ok-offer.ensures.passes c.in_ok-offer.ensures.done c.if-branch.false

pub returns : goal.returns
returns g c = record {
  passes = passes_as c.loop-at.core.net (Ok tt) c.loop-at.invariant.passes (same_next _);
  done = all_offered c.loop-at.at (g.W.World.seen c.args.world.now) (g.W.World.seen c.loop-at.world) c.args.core.now c.loop-at.core c.args.apps.now.items
      c.loop-at.apps.items c.loop-at.invariant (omega
      (arith, c.loop-at-test.false, c.len-at-end.ensures, c.loop-at.invariant.number_is, c.requires.going.number));
  parted = λ can. tt;
}
