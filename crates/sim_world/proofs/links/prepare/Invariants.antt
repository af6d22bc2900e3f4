use Rattle.std.proofs.Common.{◌≡◌, ◌<◌, ℕ, slice_index_or}
use Rattle.sim_world.specs.Links.{Held, IsReady, links_in}
use Rattle.sim_world.proofs.links.prepare.Given as goal

abbrev pub invariant-loop-link : goal.invariant-loop-link
invariant-loop-link l = record {
  same : links_in l.links ≡ links_in l.initial.links;
  ready : (k : ℕ) (h : Held) → k < l.link-index → IsReady l.moment (slice_index_or l.links k h);
}
