use Rattle.std.proofs.Common.{◌≡◌, ◌≤◌, ◌++◌, All, length, map, drop}
use Rattle.of_stats.specs.Flows.{row_bytes}
use Rattle.of_stats.specs.Parts.{room}
use Rattle.flow_table.specs.Rows.{selected}
use Rattle.flow_table.specs.Statistics.{flow_row}
use Rattle.switch_sim.proofs.statistics.flow_rows.Given as goal

abbrev pub invariant-loop-entry : goal.invariant-loop-entry
invariant-loop-entry l = record {
  so_far : l.rows.items ++ map (λ e. row_bytes (flow_row l.moment e)) (selected l.m l.out_port (drop l.entry-index l.entries)) ≡ map (λ e. row_bytes (flow_row l.moment e)) (selected l.m l.out_port l.entries);
  fit : All (λ row. length row ≤ room) l.rows.items;
}
