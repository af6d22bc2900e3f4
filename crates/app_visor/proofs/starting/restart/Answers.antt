use Rattle.std.proofs.lemmas.Result.{err_from_is_err_and}
use Rattle.app_visor.specs.laws.LeadsOnLaws.{talks_of}
use Rattle.app_visor.proofs.starting.restart.Goals as goal

pub returns-in_err-found-clause-talks : goal.returns-in_err-found-clause-talks
returns-in_err-found-clause-talks g c =
    let p = err_from_is_err_and c.from_residual.result c.from_residual.ensures.1 in
    rw p.1 (λ tells s runs. talks_of c.try_kept.ensures.continues (c.in_err-found.ensures.talks tells s runs))
