use Rattle.std.proofs.Common.{◌≡◌, ◌≤◌, length, take}
use Rattle.std.specs.List.{concat}
use Rattle.of_stats.specs.Parts.{room}
use Rattle.of_stats.proofs.parts.count_fitting.Given as goal

abbrev pub invariant-loop-count : goal.invariant-loop-count
invariant-loop-count l = record {
  size : l.size ≡ length (concat (take l.count l.rows));
  fit : l.size ≤ room;
}
