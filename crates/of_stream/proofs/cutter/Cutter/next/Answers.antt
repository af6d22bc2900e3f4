use Rattle.std.proofs.Common.{sym, subst, ◌∙◌}
use Rattle.std.proofs.lemmas.Result.{err_from_is_err_and}
use Rattle.of_stream.specs.Frames.{IsPartial, IsBroken}
use Rattle.of_stream.specs.laws.FrameLaws.{front_not_partial, front_not_broken}
use Rattle.of_stream.proofs.cutter.Cutter.next.Goals as goal

pub returns-in_err-frame-in-Whole-clause-none : goal.returns-in_err-frame-in-Whole-clause-none
returns-in_err-frame-in-Whole-clause-none c =
    let p = err_from_is_err_and c.from_residual.result c.from_residual.ensures.1 in
    let here = c.as_slice.ensures ∙ c.self.view_is in
    (λ e. absurd (cc (p.1, e)), λ partial. absurd (front_not_partial c.in-Whole.size c.as_slice.result.now c.in-Whole.ensures.1 (subst IsPartial (sym here) partial)))

pub returns-in_err-frame-in-Whole-clause-bad_length : goal.returns-in_err-frame-in-Whole-clause-bad_length
returns-in_err-frame-in-Whole-clause-bad_length c =
    let p = err_from_is_err_and c.from_residual.result c.from_residual.ensures.1 in
    let here = c.as_slice.ensures ∙ c.self.view_is in
    (λ e. absurd (cc (p.1, p.2, e)), λ broken. absurd (front_not_broken c.in-Whole.size c.as_slice.result.now c.in-Whole.ensures.1 (subst IsBroken (sym here) broken)))

pub returns-in_ok-frame-in-Whole-clause-none : goal.returns-in_ok-frame-in-Whole-clause-none
returns-in_ok-frame-in-Whole-clause-none c =
    let here = c.as_slice.ensures ∙ c.self.view_is in
    (λ e. absurd cc, λ partial. absurd (front_not_partial c.in-Whole.size c.as_slice.result.now c.in-Whole.ensures.1 (subst IsPartial (sym here) partial)))

pub returns-in_ok-frame-in-Whole-clause-bad_length : goal.returns-in_ok-frame-in-Whole-clause-bad_length
returns-in_ok-frame-in-Whole-clause-bad_length c =
    let here = c.as_slice.ensures ∙ c.self.view_is in
    (λ e. absurd cc, λ broken. absurd (front_not_broken c.in-Whole.size c.as_slice.result.now c.in-Whole.ensures.1 (subst IsBroken (sym here) broken)))
