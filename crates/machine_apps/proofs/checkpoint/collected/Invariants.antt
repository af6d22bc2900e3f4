use Rattle.std.proofs.Common.{◌≡◌, [], drop}
use Rattle.machine_apps.specs.Checkpoint.{with_rows}
use Rattle.machine_apps.proofs.checkpoint.collected.Given as goal

abbrev pub invariant-loop-row : goal.invariant-loop-row
invariant-loop-row l = with_rows l.map.entries (drop l.row-index l.rows) ≡ with_rows [] l.rows
