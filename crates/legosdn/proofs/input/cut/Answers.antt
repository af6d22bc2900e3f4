use Rattle.std.proofs.Common.{List, ℕ, refl, sym, ap, ◌∙◌, rules}
use Rattle.std.proofs.lemmas.List.{nil_from_length}
use Rattle.lego_io.specs.Lines.{lines_of}
use Rattle.lego_io.specs.laws.LinesLaws.{lines_of-nil}
use Rattle.legosdn.specs.Input.{behind_separator}
use Rattle.legosdn.proofs.Cutting.{goes_on, policy_before, session_is}
use Rattle.legosdn.proofs.input.cut.Goals as goal

pub loop-rest-preserved : goal.loop-rest-preserved
loop-rest-preserved c =
    goes_on c.args.input.now c.loop-rest.rest.now c.behind_line-behind.result.now c.loop-rest.number c.loop-rest.invariant (search rules) c.behind_line-behind.ensures.shorter c.behind_line-behind.ensures.behind c.behind_line-behind.ensures.lines
    (λ line lines is. sym c.if-is_separated.false ∙ c.is_separated.ensures line lines is)

pub returns-then-is_separated-clause-policy : goal.returns-then-is_separated-clause-policy
returns-then-is_separated-clause-policy c =
    policy_before c.args.input.now c.loop-rest.rest.now (search rules) c.loop-rest.invariant.passed (λ line lines is. sym c.if-is_separated.true ∙ c.is_separated.ensures line lines is)

pub returns-then-is_separated-clause-session : goal.returns-then-is_separated-clause-session
returns-then-is_separated-clause-session c = session_is c.args.input.now c.requires

pub returns-clause-session : goal.returns-clause-session
returns-clause-session c = session_is c.args.input.now c.requires

pub returns-clause-none : goal.returns-clause-none
returns-clause-none c =
    (refl, c.loop-rest.invariant.left ∙ ap (λ (rest : List ℕ). behind_separator c.loop-rest.number (lines_of rest)) (nil_from_length c.loop-rest.rest.now (search rules)) ∙ ap (behind_separator c.loop-rest.number) lines_of-nil)
