use Rattle.std.proofs.Common.{◌≡◌, ◌++◌, take, drop}
use Rattle.sim_world.specs.Links.{Held, insert_held}
use Rattle.sim_world.proofs.links.place_for.Given as goal

abbrev pub invariant-loop-place : goal.invariant-loop-place
invariant-loop-place l = (h : Held) → h.link.declared.dpid ≡ l.dpid → insert_held h l.links ≡ take l.place l.links ++ insert_held h (drop l.place l.links)
