use Rattle.std.proofs.Common.{◌≡◌, drop}
use Rattle.sim_world.specs.World.{given_of}
use Rattle.sim_world.specs.Building.{IsNew}
use Rattle.session_text.specs.Loading.{with_faults}
use Rattle.session_text.proofs.loading.give_faults.Given as goal

abbrev pub invariant-loop-dpid : goal.invariant-loop-dpid
invariant-loop-dpid l = record {
  still : IsNew l.sim;
  given : with_faults (drop l.dpid-index l.faults) (given_of l.sim) ≡ with_faults l.faults (given_of l.fn.sim);
}
