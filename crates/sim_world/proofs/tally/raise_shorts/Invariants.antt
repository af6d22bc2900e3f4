use Rattle.std.proofs.Common.{◌≡◌, ◌==◌, ◌++◌, map, take, drop, if◌then◌else◌}
use Rattle.sim_world.specs.Tally.{one_short}
use Rattle.sim_world.proofs.tally.raise_shorts.Given as goal

abbrev pub invariant-loop-link : goal.invariant-loop-link
invariant-loop-link l = l.links ≡ map (λ x. if x.dpid == l.dpid then one_short x else x) (take l.link-index l.initial.links) ++ drop l.link-index l.initial.links
