use Rattle.std.proofs.Common.{ℕ, ◌<◌}
use Rattle.of_stats.specs.Parts.{IsInPlace}
use Rattle.of_stats.proofs.parts.first_bad.Given as goal

abbrev pub invariant-loop-place : goal.invariant-loop-place
invariant-loop-place l = (earlier : ℕ) → earlier < l.place → IsInPlace earlier l.parts
