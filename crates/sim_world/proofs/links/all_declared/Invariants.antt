use Rattle.std.proofs.Common.{◌≡◌, take}
use Rattle.outside.specs.State.{declared_in}
use Rattle.sim_world.specs.Links.{links_in}
use Rattle.sim_world.proofs.links.all_declared.Given as goal

abbrev pub invariant-loop-link : goal.invariant-loop-link
invariant-loop-link l = l.all.items ≡ declared_in (links_in (take l.link-index l.links))
