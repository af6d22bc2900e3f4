use Rattle.std.proofs.Common.{◌≡◌, ◌++◌}
use Rattle.machine_apps.specs.Checkpoint.{checkpoint_of}
use Rattle.machine_apps.proofs.checkpoint.checkpoint.Given as goal

abbrev pub invariant-loop-station : goal.invariant-loop-station
invariant-loop-station l = checkpoint_of l.rows.entries ≡ l.bytes.items ++ checkpoint_of l.station-iterator
