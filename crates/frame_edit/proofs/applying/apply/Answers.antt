use Rattle.std.proofs.Common.{sym, ap, ◌∙◌}
use Rattle.frame_edit.specs.Edits.{outputs}
use Rattle.frame_edit.specs.laws.OutputLaws.{outputs-drop, outputs-drop_all}
use Rattle.frame_edit.proofs.applying.apply.Goals as goal

pub loop-action-preserved : goal.loop-action-preserved
loop-action-preserved c =
    let next = outputs-drop c.as_slice-action-items.result.now c.loop-action.action-index c.action-item.result c.loop-action.frames.items c.loop-action.current.items c.loop-action-test.true c.action-item.is in
    rw (c.in_ok-send.ensures {u = tt}, c.as_slice.ensures.value, c.in_ok-edit.ensures {u = tt}) (c.loop-action.invariant ∙ next)

pub returns : goal.returns
returns c =
    let last = outputs-drop_all c.as_slice-action-items.result.now c.loop-action.action-index c.loop-action.frames.items c.loop-action.current.items c.loop-action-test.false in
    c.from_vec.ensures ∙ sym (ap (λ xs. outputs xs c.args.frame.now) (sym c.as_slice-action-items.ensures) ∙ c.loop-action.invariant ∙ last)
