use Rattle.std.proofs.lemmas.Result.{err_from_is_err_and}
use Rattle.app_visor.specs.laws.ReadLaws.{takes_more, came_then, broke_then}
use Rattle.app_visor.proofs.talk.next_frame.Goals as goal

pub returns-in_err-came-clause-err : goal.returns-in_err-came-clause-err
returns-in_err-came-clause-err g c =
    let p = err_from_is_err_and c.from_residual.result c.from_residual.ensures.1 in
    rw p.1 (broke_then c.loop-came.invariant c.in_err-came.ensures.err)

pub returns-in-Some-clause-ok : goal.returns-in-Some-clause-ok
returns-in-Some-clause-ok g c = came_then c.in-Some.came c.loop-came.invariant (rw c.in-Some.is at c.in_ok-came.ensures.ok)

pub loop-came-preserved : goal.loop-came-preserved
loop-came-preserved g c = takes_more c.loop-came.invariant (rw c.in_default.is at c.in_ok-came.ensures.ok)
