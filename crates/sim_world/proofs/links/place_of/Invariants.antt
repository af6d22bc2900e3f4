use Rattle.std.proofs.Common.{ℕ, ◌<◌, slice_index_or}
use Rattle.std.specs.Prelude.{◌≢◌}
use Rattle.sim_world.specs.Links.{Held}
use Rattle.sim_world.proofs.links.place_of.Given as goal

abbrev pub invariant-loop-place : goal.invariant-loop-place
invariant-loop-place l = (k : ℕ) (h : Held) → k < l.place → (slice_index_or l.links k h).link.declared.dpid ≢ l.dpid
