use Rattle.std.proofs.Common.{◌≡◌, ◌∷◌, suc, List, drop, subst, ◌∙◌}
use Rattle.of_stats.specs.declared.flow_row.FlowRow.{FlowRow}
use Rattle.event_dispatch.specs.laws.WhyLaws.{waits_then}
use Rattle.event_dispatch.specs.laws.LastLaws.{drop_first, flows_next, views_kept}
use Rattle.event_dispatch.proofs.engine_core.Core.note_flows.Goals as goal

pub loop-row-preserved : goal.loop-row-preserved
loop-row-preserved c = record {
  waits = waits_then c.args.self.now c.loop-row.self c.note_flow.new.self c.loop-row.invariant.waits c.in_ok-note_flow.ensures.waits;
  net = c.in_ok-note_flow.ensures.adds.stays.net ∙ c.loop-row.invariant.net;
  said = λ vs is same.
      let so = c.loop-row.invariant.said vs is same in
      let first = drop_first c.loop-row.row-index c.as_slice-row-items.result.now c.row-item.result c.loop-row-test.true c.row-item.is in
      let next = subst (λ (rows : List FlowRow). drop c.loop-row.row-index rows ≡ c.row-item.result ∷ drop (suc c.loop-row.row-index) rows) c.as_slice-row-items.ensures first in
      flows_next c.args.rows.now vs c.loop-row.row-index c.loop-row.from c.row-item.result (drop (suc c.loop-row.row-index) c.args.rows.now) c.flags_of-flags.result c.args.self.now c.loop-row.self c.note_flow.new.self same
      next so (c.flags_of-flags.ensures vs (views_kept c.args.dpid vs so.adds is)) c.in_ok-note_flow.ensures.adds;
}
