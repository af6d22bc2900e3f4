use Rattle.std.proofs.Common.{◌≡◌, take}
use Rattle.machine_apps.specs.Block.{drops}
use Rattle.machine_apps.proofs.blocking.drops.Given as goal

abbrev pub invariant-loop-matching : goal.invariant-loop-matching
invariant-loop-matching l = l.frames.items ≡ drops l.dpid (take l.matching-index l.rows)
