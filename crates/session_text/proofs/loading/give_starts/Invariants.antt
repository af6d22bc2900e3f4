use Rattle.std.proofs.Common.{◌≡◌, drop}
use Rattle.sim_world.specs.World.{given_of}
use Rattle.sim_world.specs.Building.{IsNew}
use Rattle.session_text.specs.Loading.{with_starts}
use Rattle.session_text.proofs.loading.give_starts.Given as goal

abbrev pub invariant-loop-app : goal.invariant-loop-app
invariant-loop-app l = record {
  still : IsNew l.sim;
  given : with_starts (drop l.app-index l.starts) (given_of l.sim) ≡ with_starts l.starts (given_of l.fn.sim);
}
