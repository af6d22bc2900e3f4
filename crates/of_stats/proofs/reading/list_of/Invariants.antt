use Rattle.std.proofs.Common.{◌≡◌, ◌≤◌, ◌-◌, length}
use Rattle.of_stats.specs.Reading.{rows_of}
use Rattle.of_stats.proofs.Loop.{with_front, read_from}
use Rattle.of_stats.proofs.reading.list_of.Given as goal

abbrev pub invariant-loop-place : goal.invariant-loop-place
invariant-loop-place l = record {
  within : l.place ≤ length l.bytes;
  read : with_front l.rows.items (read_from l.place l.bytes) ≡ rows_of l.bytes;
}

abbrev pub decreases-loop-place : goal.decreases-loop-place
decreases-loop-place l = length l.bytes - l.place
