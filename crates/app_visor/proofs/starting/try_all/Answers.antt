use Rattle.std.proofs.Common.{◌≡◌, ◌+◌, ◌-◌, suc, sym, ◌∙◌, arith}
use Rattle.app_visor.specs.laws.TryLaws.{none_tried, back_then, not_yet, none_back}
use Rattle.outside.specs.laws.SeenLaws.{Continues-refl, Continues-trans}
use Rattle.std.proofs.lemmas.Result.{err_from_is_err_and}
use Rattle.app_visor.specs.laws.LeadsOnLaws.{talks_none, talks_then, talks_tried}
use Rattle.app_visor.specs.laws.OwnLaws.{own_none, own_then}
use Rattle.app_visor.proofs.starting.try_all.Goals as goal

pub returns-then-is_ready-clause-ok : goal.returns-then-is_ready-clause-ok
returns-then-is_ready-clause-ok g c =
    let left : 3 - c.loop-attempt._attempt ≡ suc (3 - (c.loop-attempt._attempt + 1)) = omega arith in
    back_then (3 - (c.loop-attempt._attempt + 1)) left c.loop-attempt.invariant.on c.in_ok-tried.ensures.ok (sym c.is_ready.ensures ∙ c.if-is_ready.true) c.in_ok-push.ensures.items

pub loop-attempt-preserved : goal.loop-attempt-preserved
loop-attempt-preserved g c =
    let left : 3 - c.loop-attempt._attempt ≡ suc (3 - (c.loop-attempt._attempt + 1)) = omega arith in
    record {
      on = not_yet (3 - (c.loop-attempt._attempt + 1)) left c.loop-attempt.invariant.on c.in_ok-tried.ensures.ok (sym c.is_ready.ensures ∙ c.if-is_ready.false) c.in_ok-push.ensures.items;
      continues = Continues-trans g.W.World.Tells (g.W.World.seen c.args.world.now) (g.W.World.seen c.loop-attempt.world) (g.W.World.seen c.attempt.new.world) c.loop-attempt.invariant.continues c.attempt.ensures.continues;
      talks = talks_then c.args.app (g.W.World.seen c.args.world.now) (g.W.World.seen c.loop-attempt.world) (g.W.World.seen c.attempt.new.world) c.loop-attempt.invariant.continues c.loop-attempt.invariant.talks (talks_tried c.in_ok-tried.ensures.ok);
      own = λ tells. own_then (c.loop-attempt.invariant.own tells) (c.attempt.ensures.own tells);
    }

pub returns-clause-ok : goal.returns-clause-ok
returns-clause-ok g c = none_back (omega arith) c.loop-attempt.invariant.on

pub loop-attempt-init : goal.loop-attempt-init
loop-attempt-init g c =
    let seen = g.W.World.seen c.args.world.now in
    record { on = none_tried c.args.app g.kept seen c.args.tries.now.items c.requires.1.1; continues = Continues-refl g.W.World.Tells seen; talks = talks_none c.args.app seen; own = λ tells. own_none c.args.app seen }

pub returns-in_err-tried-clause-talks : goal.returns-in_err-tried-clause-talks
returns-in_err-tried-clause-talks g c =
    let p = err_from_is_err_and c.from_residual.result c.from_residual.ensures.1 in
    rw p.1 (talks_then c.args.app (g.W.World.seen c.args.world.now) (g.W.World.seen c.loop-attempt.world) (g.W.World.seen c.attempt.new.world) c.loop-attempt.invariant.continues c.loop-attempt.invariant.talks c.in_err-tried.ensures.talks)

pub returns-in_err-push-clause-talks : goal.returns-in_err-push-clause-talks
returns-in_err-push-clause-talks g c =
    let p = err_from_is_err_and c.from_residual-in_err-push.result c.from_residual-in_err-push.ensures.1 in
    rw p.1 (talks_then c.args.app (g.W.World.seen c.args.world.now) (g.W.World.seen c.loop-attempt.world) (g.W.World.seen c.attempt.new.world) c.loop-attempt.invariant.continues c.loop-attempt.invariant.talks (talks_tried c.in_ok-tried.ensures.ok))

pub returns-then-is_ready-clause-own : goal.returns-then-is_ready-clause-own
returns-then-is_ready-clause-own g c = λ tells. own_then (c.loop-attempt.invariant.own tells) (c.attempt.ensures.own tells)

pub returns-in_err-tried-clause-own : goal.returns-in_err-tried-clause-own
returns-in_err-tried-clause-own g c = λ tells. own_then (c.loop-attempt.invariant.own tells) (c.attempt.ensures.own tells)

pub returns-in_err-push-clause-own : goal.returns-in_err-push-clause-own
returns-in_err-push-clause-own g c = λ tells. own_then (c.loop-attempt.invariant.own tells) (c.attempt.ensures.own tells)
