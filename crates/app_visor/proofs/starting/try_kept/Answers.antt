use Rattle.std.proofs.Common.{ap, ◌∙◌, subst}
use Rattle.std.specs.Prelude.{ℕ, List, IfOk}
use Rattle.std.proofs.lemmas.Result.{err_from_is_err_and}
use Rattle.app_visor.specs.Attempts.{Restarts}
use Rattle.app_visor.specs.laws.AttemptLaws.{carried, carried_in, carries}
use Rattle.app_visor.specs.laws.LeadsOnLaws.{talks_none}
use Rattle.app_visor.specs.laws.OwnLaws.{own_none}
use Rattle.app_visor.proofs.starting.try_kept.Goals as goal

pub try_all-requires : goal.try_all-requires
try_all-requires g c κs within = (within, (carries c.as_slice.result.now c.kept.result.now (c.as_slice.ensures ∙ c.in_ok-frame.ensures), c.requires.none))

pub returns-clause-ok : goal.returns-clause-ok
returns-clause-ok g c =
    let spelled = c.as_slice.ensures ∙ c.in_ok-frame.ensures in
    subst (λ (kept : List ℕ). IfOk c.try_all.result (λ found. Restarts g.W.World.Tells c.args.app kept (g.W.World.seen c.args.world.now) (g.W.World.seen c.try_all.new.world) found c.try_all.new.tries.items))
    (ap carried spelled ∙ carried_in c.kept.result.now ∙ c.kept.ensures.bytes) c.try_all.ensures.ok

pub returns-in_err-frame-clause-talks : goal.returns-in_err-frame-clause-talks
returns-in_err-frame-clause-talks g c =
    let p = err_from_is_err_and c.from_residual.result c.from_residual.ensures.1 in
    rw p.1 (talks_none c.args.app (g.W.World.seen c.args.world.now))

pub returns-in_err-frame-clause-own : goal.returns-in_err-frame-clause-own
returns-in_err-frame-clause-own g c = λ tells. own_none c.args.app (g.W.World.seen c.args.world.now)
