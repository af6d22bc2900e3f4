use Rattle.std.proofs.Common.{ap, ◌∙◌, take}
use Rattle.std.proofs.lemmas.List.{append-nil}
use Rattle.session_lists.specs.laws.StepLaws.{put_more}
use Rattle.session_lists.proofs.reply_list.append.Goals as goal
use Rattle.of_types.specs.laws.ChoiceLaws.{holds_on_err}

pub returns-in_err-push-clause-err : goal.returns-in_err-push-clause-err
returns-in_err-push-clause-err c =
    holds_on_err c.from_residual.result (take c.loop-number.number c.args.from.now, c.in_err-push.ensures.err ∙ c.loop-number.invariant)

pub loop-number-preserved : goal.loop-number-preserved
loop-number-preserved c =
    let kind = c.get-kind.result.0 in
    put_more _ _ _ _ c.loop-number.number _ _ c.in_ok-push.ensures.ok (ap (λ bytes. (kind, bytes)) (append-nil c.get-kind.result.1.now)) c.loop-number.invariant c.get-kind.ensures
