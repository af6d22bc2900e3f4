use Rattle.std.proofs.Common.{◌≡◌, drop, map}
use Rattle.sim_world.specs.World.{given_of}
use Rattle.sim_world.specs.Building.{IsNew}
use Rattle.session_text.specs.SessionView.{view_declared}
use Rattle.session_text.specs.Loading.{with_switches}
use Rattle.session_text.specs.laws.LoadingLaws.{MayDeclare}
use Rattle.session_text.proofs.loading.give_switches.Given as goal

abbrev pub invariant-loop-dpid : goal.invariant-loop-dpid
invariant-loop-dpid l = record {
  still : IsNew l.sim;
  may : MayDeclare (given_of l.sim).declared (map view_declared (drop l.dpid-index l.switches));
  given : with_switches (map view_declared (drop l.dpid-index l.switches)) (given_of l.sim) ≡ with_switches (map view_declared l.switches) (given_of l.fn.sim);
}
