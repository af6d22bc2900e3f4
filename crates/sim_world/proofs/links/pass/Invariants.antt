use Rattle.std.proofs.Common.{◌≡◌, ◌<◌, ◌≤◌, ℕ, slice_index_or}
use Rattle.of_types.specs.declared.journal.Stimulus.TheVariants.{Advance}
use Rattle.outside.specs.State.{link_stimulated}
use Rattle.sim_world.specs.Links.{Held}
use Rattle.sim_world.proofs.links.pass.Given as goal

abbrev pub invariant-loop-link : goal.invariant-loop-link
invariant-loop-link l = record {
  passed : (k : ℕ) (h g : Held) → k < l.link-index → (slice_index_or l.links k h).link ≡ link_stimulated (Advance l.moment) (slice_index_or l.initial.links k g).link;
  rest : (k : ℕ) (h : Held) → l.link-index ≤ k → slice_index_or l.links k h ≡ slice_index_or l.initial.links k h;
}
