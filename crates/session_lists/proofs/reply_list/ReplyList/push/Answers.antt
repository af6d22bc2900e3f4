use Rattle.std.proofs.Common.{◌++◌, ◌∷◌, [], ap, ◌∙◌}
use Rattle.session_lists.specs.declared.reply_list.ReplyLine.{ReplyLine}
use Rattle.session_lists.specs.Steps.{steps_in}
use Rattle.session_lists.specs.laws.StepLaws.{kept_lines, added_line}
use Rattle.session_lists.proofs.reply_list.ReplyList.push.Goals as goal
use Rattle.of_types.specs.laws.ChoiceLaws.{holds_on_err}

pub returns-in_err-append-clause-err : goal.returns-in_err-append-clause-err
returns-in_err-append-clause-err c =
    let more = c.in_err-append.ensures.err in
    holds_on_err c.from_residual-in_err-append.result
    (kept_lines c.self.inside.steps _ more.0 c.self.inside.lines.items _ c.self.invariant c.reserve.ensures.items more.1 ∙ c.self.view_is)

pub returns-in_err-end-clause-err : goal.returns-in_err-end-clause-err
returns-in_err-end-clause-err c =
    holds_on_err c.from_residual-in_err-end.result
    (kept_lines c.self.inside.steps _ c.script.inside.records c.self.inside.lines.items _ c.self.invariant c.reserve.ensures.items c.in_ok-append.ensures.ok ∙ c.self.view_is)

pub returns-clause-ok : goal.returns-clause-ok
returns-clause-ok c =
    let line : ReplyLine = record { app = c.args.app; first = c.in_ok-first.first; end = c.in_ok-end.end } in
    added_line c.self.inside.steps _ c.script.inside.records c.self.inside.lines.items _ c.args.app c.in_ok-first.first c.in_ok-end.end c.self.invariant
    (c.push_reserved.ensures.items ∙ ap (λ lines. lines ++ line ∷ []) c.reserve.ensures.items)
    c.in_ok-append.ensures.ok (c.in_ok-first.ensures ∙ c.len.ensures) (c.in_ok-end.ensures ∙ c.len-2.ensures)
    ∙ ap (λ replies. replies ++ (c.args.app, steps_in c.script.inside.records) ∷ []) c.self.view_is
    ∙ ap (λ steps. c.args.self.now ++ (c.args.app, steps) ∷ []) c.script.view_is
