use Rattle.std.specs.Prelude.{◌≢◌, ℕ, Some, true, slice_get}
use Rattle.linked_world.proofs.parts.none_inside.Given as goal

abbrev pub invariant-loop : goal.invariant-loop
invariant-loop l = (i : ℕ) → slice_get l.inside.items i ≢ Some true
