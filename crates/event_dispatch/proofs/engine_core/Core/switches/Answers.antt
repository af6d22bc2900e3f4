use Rattle.std.proofs.Common.{◌∷◌, ◌++◌, ℕ, List, [], sym, ap, ◌∙◌}
use Rattle.flow_table.specs.laws.PlainLaws.{switches-more}
use Rattle.event_dispatch.proofs.engine_core.Core.switches.Goals as goal

pub loop-view-preserved : goal.loop-view-preserved
loop-view-preserved c =
    let v = c.view-item.result in
    c.in_ok-push.ensures.items
    ∙ ap (λ (ds : List ℕ). ds ++ v.dpid ∷ []) c.loop-view.invariant
    ∙ sym (switches-more c.args.self.now.net.views c.views-view-items.result.now c.loop-view.view-index v c.views-view-items.ensures c.loop-view-test.true c.view-item.is)
