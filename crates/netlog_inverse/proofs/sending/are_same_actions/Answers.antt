use Rattle.std.proofs.Common.{◌<◌, sym, ap₂, ◌∙◌, length, arith}
use Rattle.netlog_inverse.specs.Actions.{same_action}
use Rattle.netlog_inverse.specs.laws.ActionsLaws.{differ-at, same-all, differ-length}
use Rattle.netlog_inverse.proofs.sending.are_same_actions.Goals as goal

pub returns-then-a-b : goal.returns-then-a-b
returns-then-a-b c = sym (differ-length c.args.a.now c.args.b.now (λ same. c.if-a-b.true same))

pub returns-then-not-is_same_action : goal.returns-then-not-is_same_action
returns-then-not-is_same_action c =
    let first : c.loop-at.at < length c.args.a.now = omega arith in
    let second : c.loop-at.at < length c.args.b.now = omega arith in
    sym (differ-at c.args.a.now c.args.b.now c.loop-at.at c.index-a-at.result c.index-b-at.result first second
    (ap₂ same_action (sym c.index-a-at.is) (sym c.index-b-at.is) ∙ sym c.is_same_action.ensures ∙ c.if-not-is_same_action.true))

pub returns : goal.returns
returns c = sym (same-all c.args.a.now c.args.b.now (omega arith) (λ j d e lt. c.loop-at.invariant j d e (omega arith)))
