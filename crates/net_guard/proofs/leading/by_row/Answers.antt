use Rattle.std.proofs.Common.{◌+◌, drop, refl, subst, List}
use Rattle.std.specs.List.{list_any}
use Rattle.of_action.specs.declared.action.Action.{Action}
use Rattle.net_guard.specs.Bits.{Marks}
use Rattle.net_guard.specs.Leading.{goes_over}
use Rattle.net_guard.proofs.Marking.{Leaves-none, Leaves-more, Marks-left, any-drop, any-drop_all}
use Rattle.net_guard.proofs.leading.by_row.Goals as goal

pub loop-action-init : goal.loop-action-init
loop-action-init c = Leaves-none _ _ _ (λ h. refl)

pub loop-action-preserved : goal.loop-action-preserved
loop-action-preserved c =
    let xs = c.as_slice-action-items.result.now in
    let p = c.args.place in
    let i = c.loop-action.action-index in
    Leaves-more c.loop-action.set c.by_action.result c.either-set.result c.args.hops.now (λ h. list_any (goes_over p h) (drop i xs)) (λ h. list_any (goes_over p h) (drop (i + 1) xs)) (λ h. goes_over p h c.action-item.result) (λ h. list_any (goes_over p h) xs)
    c.loop-action.invariant c.by_action.ensures c.either-set.ensures (λ h. any-drop (goes_over p h) xs i c.action-item.result c.loop-action-test.true c.action-item.is)

pub returns : goal.returns
returns c =
    let xs = c.as_slice-action-items.result.now in
    let p = c.args.place in
    subst (λ (ys : List Action). Marks c.loop-action.set c.args.hops.now (λ h. list_any (goes_over p h) ys)) c.as_slice-action-items.ensures
    (Marks-left _ _ _ _ c.loop-action.invariant (λ h. any-drop_all (goes_over p h) xs c.loop-action.action-index c.loop-action-test.false))
