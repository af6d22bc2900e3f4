use Rattle.std.proofs.Common.{subst, ◌≡◌}
use Rattle.std.specs.Prelude.{IfOk}
use Rattle.of_stats.specs.declared.flow_row.FlowRow.{FlowRow}
use Rattle.of_stats.specs.Flows.{row_bytes}
use Rattle.flow_table.specs.Statistics.{flow_row}
use Rattle.switch_sim.specs.laws.RowLaws.{row_fits}
use Rattle.switch_sim.proofs.statistics.flow_row_bytes.Goals as goal

pub returns-clause-len : goal.returns-clause-len
returns-clause-len c =
    row_fits c.write_flow_row.result (flow_row c.args.moment c.args.entry.now) c.in_ok-measure.ensures c.requires.actions
    (subst (λ (row : FlowRow). IfOk c.write_flow_row.result (λ bytes. bytes ≡ row_bytes row)) c.in_ok-flow_row.ensures c.write_flow_row.ensures)
