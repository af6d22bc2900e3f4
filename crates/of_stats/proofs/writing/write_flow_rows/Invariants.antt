use Rattle.std.proofs.Common.{◌≡◌, take}
use Rattle.of_stats.specs.Flows.{rows_bytes}
use Rattle.of_stats.proofs.writing.write_flow_rows.Given as goal

abbrev pub invariant-loop-row : goal.invariant-loop-row
invariant-loop-row l = l.bytes.items ≡ rows_bytes (take l.row-index l.row-items)
