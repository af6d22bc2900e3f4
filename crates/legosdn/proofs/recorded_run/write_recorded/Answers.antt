use Rattle.std.proofs.Common.{[], refl}
use Rattle.std.proofs.lemmas.Result.{err_from_is_err_and}
use Rattle.legosdn.proofs.Recordings.{not_cut}
use Rattle.legosdn.proofs.recorded_run.write_recorded.Goals as goal

pub returns-in_err-bytes-clause-cut : goal.returns-in_err-bytes-clause-cut
returns-in_err-bytes-clause-cut g c =
    let p = err_from_is_err_and c.from_residual.result c.from_residual.ensures.1 in
    λ told left i j. rw (p.1, p.2) ([], (λ is. absurd (not_cut is)), (refl, refl))

pub returns-in-Ok-clause-all : goal.returns-in-Ok-clause-all
returns-in-Ok-clause-all g c = (c.deref.result.now, rw c.deref.ensures.value c.in_ok-bytes.ensures, c.in-Ok.ensures.all)

pub returns-clause-cut : goal.returns-clause-cut
returns-clause-cut g c = λ told left i j. (c.deref.result.now, (λ is. rw c.deref.ensures.value c.in_ok-bytes.ensures), (c.in-Err.ensures.fault_rose, c.in-Err.ensures.part))
