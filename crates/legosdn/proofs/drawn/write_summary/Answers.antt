use Rattle.std.proofs.Common.{refl, subst, ◌∙◌}
use Rattle.std.proofs.lemmas.Result.{err_from_is_err_and}
use Rattle.lego_io.specs.Sink.{TookPart}
use Rattle.legosdn.proofs.drawn.write_summary.Goals as goal

pub returns-in_err-line-clause-cut : goal.returns-in_err-line-clause-cut
returns-in_err-line-clause-cut g c =
    let p = err_from_is_err_and c.from_residual.result c.from_residual.ensures.1 in
    λ told faults. rw (p.1, p.2) (refl, refl)

pub returns-clause-cut : goal.returns-clause-cut
returns-clause-cut g c = λ told faults. (
  c.in-Err.ensures.fault_rose,
  subst (λ bytes. TookPart (g.K.Sink.contents c.args.sink.now) (g.K.Sink.contents c.write_all.new.sink) bytes) (c.as_bytes.ensures.value ∙ c.in_ok-line.ensures) c.in-Err.ensures.part,
)
