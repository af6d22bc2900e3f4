use Rattle.std.proofs.Common.{◌≡◌, take}
use Rattle.of_stats.specs.Parts.{joined}
use Rattle.of_stats.proofs.parts.concat_bodies.Given as goal

abbrev pub invariant-loop-body : goal.invariant-loop-body
invariant-loop-body l = l.bytes.items ≡ joined (take l.body-index l.parts)
