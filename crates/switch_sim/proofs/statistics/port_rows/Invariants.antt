use Rattle.std.proofs.Common.{◌≡◌, ◌≤◌, ◌++◌, All, length, map, filter, drop}
use Rattle.of_stats.specs.Parts.{room}
use Rattle.flow_table.specs.Statistics.{port_bytes, is_asked}
use Rattle.switch_sim.proofs.statistics.port_rows.Given as goal

abbrev pub invariant-loop-port : goal.invariant-loop-port
invariant-loop-port l = record {
  so_far : l.rows.items ++ map port_bytes (filter (is_asked l.number) (drop l.port-index l.all)) ≡ map port_bytes (filter (is_asked l.number) l.all);
  fit : All (λ row. length row ≤ room) l.rows.items;
}
