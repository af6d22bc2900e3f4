use Rattle.std.proofs.Common.{◌≡◌, ◌-◌, ◌*◌, ◌++◌, drop}
use Rattle.machine_apps.specs.Checkpoint.{rows_in}
use Rattle.machine_apps.proofs.checkpoint.rows_from.Given as goal

abbrev pub invariant-loop-i : goal.invariant-loop-i
invariant-loop-i l = l.rows.items ++ rows_in (l.count - l.i) (drop (16 * l.i) l.bytes) ≡ rows_in l.count l.bytes
