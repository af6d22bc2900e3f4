use Rattle.std.proofs.Common.{false, ℕ, arith, refl, ◌∙◌, subst}
use Rattle.std.proofs.lemmas.Result.{err_from_is_err_and}
use Rattle.app_visor.specs.laws.ResultLaws.{err_is}
use Rattle.event_dispatch.specs.GroupParts.{pending_of, PlayedOne, PlaysFail}
use Rattle.event_dispatch.specs.laws.GroupLaws.{keeps_none, keeps_then, plays_none, fails_on, plays_on, plays_over, plays_end, drop_past}
use Rattle.event_dispatch.specs.laws.LastLaws.{drop_first}
use Rattle.event_dispatch.proofs.instead.play_all.Goals as goal

pub loop-at-init : goal.loop-at-init
loop-at-init g c = record {
  same_reference = refl;
  start = refl;
  keeps = keeps_none g.W.World.Tells c.args.number (g.W.World.seen c.args.world.now) c.args.txn.now.net.now c.args.store.now c.args.app.now;
  goes = plays_none g.W.World.Tells (g.J.Judge.accepts c.args.judge.now) c.args.app.now.index c.args.rule.now c.args.number c.args.events.now (g.W.World.seen c.args.world.now)
      c.args.txn.now.net.now c.args.app.now.rest (pending_of c.args.app.now.index c.args.store.now) (record { stop = false; failed = false; text = c.new.result }) refl refl c.new.ensures.items;
}

pub returns-in_err-play_one-clause-keeps : goal.returns-in_err-play_one-clause-keeps
returns-in_err-play_one-clause-keeps g c =
    keeps_then (g.W.World.seen c.args.world.now) (g.W.World.seen c.loop-at.world) (g.W.World.seen c.play_one.new.world) c.args.txn.now.net.now c.loop-at.txn.net.now c.play_one.new.txn.net.now
    c.args.store.now c.loop-at.store c.play_one.new.store c.args.app.now c.loop-at.app c.play_one.new.app c.loop-at.invariant.keeps c.play_one.ensures.keeps

pub returns-in_err-play_one-clause-fails : goal.returns-in_err-play_one-clause-fails
returns-in_err-play_one-clause-fails g c =
    let p = err_from_is_err_and c.from_residual.result c.from_residual.ensures.1 in
    err_is _ c.from_residual.result p.0 c.in_err-play_one.field-0.0 p.1 p.2
    (fails_on g.W.World.Tells (g.J.Judge.accepts c.args.judge.now) c.args.app.now.index c.args.rule.now c.args.number c.args.events.now c.loop-at.at
    (g.W.World.seen c.args.world.now) (g.W.World.seen c.loop-at.world) (g.W.World.seen c.play_one.new.world) c.args.txn.now.net.now c.loop-at.txn.net.now c.play_one.new.txn.net.now
    c.args.app.now.rest c.loop-at.app.rest (pending_of c.args.app.now.index c.args.store.now) (pending_of c.args.app.now.index c.loop-at.store) c.loop-at.played c.loop-at.invariant.goes c.in_err-play_one.field-0.0
    (subst (λ (i : ℕ). PlaysFail g.W.World.Tells i c.loop-at.app.rest (g.W.World.seen c.loop-at.world) (g.W.World.seen c.play_one.new.world) c.loop-at.txn.net.now c.play_one.new.txn.net.now c.in_err-play_one.field-0.0)
    c.loop-at.invariant.keeps.keeps.index c.in_err-play_one.ensures.fails))

pub returns-then-played-clause-keeps : goal.returns-then-played-clause-keeps
returns-then-played-clause-keeps g c =
    keeps_then (g.W.World.seen c.args.world.now) (g.W.World.seen c.loop-at.world) (g.W.World.seen c.play_one.new.world) c.args.txn.now.net.now c.loop-at.txn.net.now c.play_one.new.txn.net.now
    c.args.store.now c.loop-at.store c.play_one.new.store c.args.app.now c.loop-at.app c.play_one.new.app c.loop-at.invariant.keeps c.play_one.ensures.keeps

pub returns-then-played-clause-done : goal.returns-then-played-clause-done
returns-then-played-clause-done g c =
    let event = c.index-events-at.result in
    let one = subst (λ (i : ℕ). PlayedOne g.W.World.Tells (g.J.Judge.accepts c.args.judge.now) i c.args.rule.now c.args.number event c.loop-at.played c.play_one.new.played (g.W.World.seen c.loop-at.world)
    (g.W.World.seen c.play_one.new.world) c.loop-at.txn.net.now c.play_one.new.txn.net.now c.loop-at.app.rest c.play_one.new.app.rest (pending_of i c.loop-at.store) (pending_of i c.play_one.new.store))
    c.loop-at.invariant.keeps.keeps.index c.in_ok-play_one.ensures.done in
    plays_over g.W.World.Tells (g.J.Judge.accepts c.args.judge.now) c.args.app.now.index c.args.rule.now c.args.number c.args.events.now c.loop-at.at event
    (g.W.World.seen c.args.world.now) (g.W.World.seen c.loop-at.world) (g.W.World.seen c.play_one.new.world) c.args.txn.now.net.now c.loop-at.txn.net.now c.play_one.new.txn.net.now
    c.args.app.now.rest c.loop-at.app.rest c.play_one.new.app.rest (pending_of c.args.app.now.index c.args.store.now) (pending_of c.args.app.now.index c.loop-at.store)
    (pending_of c.args.app.now.index c.play_one.new.store) c.loop-at.played c.play_one.new.played
    (drop_first c.loop-at.at c.args.events.now event c.loop-at-test.true c.index-events-at.is) c.loop-at.invariant.goes one c.if-played.true

pub loop-at-preserved : goal.loop-at-preserved
loop-at-preserved g c =
    let event = c.index-events-at.result in
    let one = subst (λ (i : ℕ). PlayedOne g.W.World.Tells (g.J.Judge.accepts c.args.judge.now) i c.args.rule.now c.args.number event c.loop-at.played c.play_one.new.played (g.W.World.seen c.loop-at.world)
    (g.W.World.seen c.play_one.new.world) c.loop-at.txn.net.now c.play_one.new.txn.net.now c.loop-at.app.rest c.play_one.new.app.rest (pending_of i c.loop-at.store) (pending_of i c.play_one.new.store))
    c.loop-at.invariant.keeps.keeps.index c.in_ok-play_one.ensures.done in
    record {
      same_reference = c.in_ok-play_one.ensures.same_reference ∙ c.loop-at.invariant.same_reference;
      start = c.in_ok-play_one.ensures.start ∙ c.loop-at.invariant.start;
      keeps = keeps_then (g.W.World.seen c.args.world.now) (g.W.World.seen c.loop-at.world) (g.W.World.seen c.play_one.new.world) c.args.txn.now.net.now c.loop-at.txn.net.now c.play_one.new.txn.net.now
          c.args.store.now c.loop-at.store c.play_one.new.store c.args.app.now c.loop-at.app c.play_one.new.app c.loop-at.invariant.keeps c.play_one.ensures.keeps;
      goes = plays_on g.W.World.Tells (g.J.Judge.accepts c.args.judge.now) c.args.app.now.index c.args.rule.now c.args.number c.args.events.now c.loop-at.at event
          (g.W.World.seen c.args.world.now) (g.W.World.seen c.loop-at.world) (g.W.World.seen c.play_one.new.world) c.args.txn.now.net.now c.loop-at.txn.net.now c.play_one.new.txn.net.now
          c.args.app.now.rest c.loop-at.app.rest c.play_one.new.app.rest (pending_of c.args.app.now.index c.args.store.now) (pending_of c.args.app.now.index c.loop-at.store)
          (pending_of c.args.app.now.index c.play_one.new.store) c.loop-at.played c.play_one.new.played
          (drop_first c.loop-at.at c.args.events.now event c.loop-at-test.true c.index-events-at.is) c.loop-at.invariant.goes one c.if-played.false;
    }

pub returns-clause-done : goal.returns-clause-done
returns-clause-done g c =
    plays_end g.W.World.Tells (g.J.Judge.accepts c.args.judge.now) c.args.app.now.index c.args.rule.now c.args.number c.args.events.now c.loop-at.at
    (g.W.World.seen c.args.world.now) (g.W.World.seen c.loop-at.world) c.args.txn.now.net.now c.loop-at.txn.net.now c.args.app.now.rest c.loop-at.app.rest
    (pending_of c.args.app.now.index c.args.store.now) (pending_of c.args.app.now.index c.loop-at.store) c.loop-at.played
    (drop_past c.loop-at.at c.args.events.now (omega arith)) c.loop-at.invariant.goes
