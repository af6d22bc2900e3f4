use Rattle.std.proofs.Common.{Err, ap}
use Rattle.legosdn.specs.Headline.{IsNoSession, IsNoPolicy}
use Rattle.legosdn.proofs.Reading.{no_session_long, no_policy_long, read_causes}
use Rattle.legosdn.specs.Input.{session_of}
use Rattle.legosdn.proofs.input.read_input.Goals as goal

pub returns-in_err-read_all-clause-why : goal.returns-in_err-read_all-clause-why
returns-in_err-read_all-clause-why g c =
    read_causes (IsNoSession session_of) _ _ _ c.in_err-read_all.field-0.0 c.from_residual.result no_session_long c.from_residual.ensures.1 (λ e. c.in_err-read_all.ensures.too_long (ap Err e)) (λ e. c.in_err-read_all.ensures.read_rose (ap Err e))

pub returns-in_err-read_all-clause-why_no_policy : goal.returns-in_err-read_all-clause-why_no_policy
returns-in_err-read_all-clause-why_no_policy g c =
    read_causes IsNoPolicy _ _ _ c.in_err-read_all.field-0.0 c.from_residual.result no_policy_long c.from_residual.ensures.1 (λ e. c.in_err-read_all.ensures.too_long (ap Err e)) (λ e. c.in_err-read_all.ensures.read_rose (ap Err e))
