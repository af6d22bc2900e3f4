use Rattle.std.proofs.lemmas.Result.{err_from_is_err_and}
use Rattle.app_visor.specs.laws.ReadLaws.{broke_at_once, Wants-refl, broke_taking}
use Rattle.app_visor.proofs.talk.try_next.Goals as goal

pub returns-in_err-came-clause-err : goal.returns-in_err-came-clause-err
returns-in_err-came-clause-err g c =
    let p = err_from_is_err_and c.from_residual.result c.from_residual.ensures.1 in
    rw p.1 (broke_at_once c.args.intake.now (Wants-refl (g.W.World.seen c.args.world.now)))

pub returns-in-None-clause-err : goal.returns-in-None-clause-err
returns-in-None-clause-err g c =
    let looked = rw c.in-None.is at c.in_ok-came.ensures.ok in
    broke_taking g.W.World.Tells c.args.app (g.W.World.seen c.args.world.now) (g.W.World.seen c.take.new.world) c.args.intake.now c.look.new.self c.take.result looked.1 looked.0 c.take.ensures.err
