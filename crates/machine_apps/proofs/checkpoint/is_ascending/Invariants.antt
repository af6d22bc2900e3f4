use Rattle.std.proofs.Common.{◌≡◌, drop, None}
use Rattle.machine_apps.specs.Checkpoint.{is_ascending}
use Rattle.machine_apps.proofs.checkpoint.is_ascending.Given as goal

abbrev pub invariant-loop-row : goal.invariant-loop-row
invariant-loop-row l = is_ascending l.last (drop l.row-index l.rows) ≡ is_ascending None l.rows
