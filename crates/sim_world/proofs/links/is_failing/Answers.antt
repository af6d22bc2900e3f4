use Rattle.std.proofs.Common.{◌≡◌, ◌<◌, ◌-◌, ◌^◌, false, IfSome, refl, sym, ap, ◌∙◌, subst}
use Rattle.outside.specs.State.{Link, is_failing, fails_in}
use Rattle.sim_world.specs.Links.{Held, MayCall}
use Rattle.sim_world.proofs.Places.{at_place, from_position, at_none}
use Rattle.std.proofs.Common.{Option}
use Rattle.sim_world.proofs.links.is_failing.Goals as goal

pub is_failing-requires : goal.is_failing-requires
is_failing-requires c =
    let x = c.index-links-place.result in
    let may = from_position (λ (o : Option Link). IfSome o MayCall) c.args.dpid c.args.links.now c.in-Some.place x c.in-Some.ensures c.requires in
    subst (λ (h : Held). h.link.calls < 2 ^ 64 - 1) (sym c.index-links-place.is) may.calls

pub returns-in-None : goal.returns-in-None
returns-in-None c = at_none (λ (o : Option Link). false ≡ fails_in o) c.args.dpid c.args.links.now c.in-None.ensures refl

pub returns-in-Some : goal.returns-in-Some
returns-in-Some c =
    let x = c.index-links-place.result in
    at_place (λ (o : Option Link). c.is_failing.result ≡ fails_in o) c.args.dpid c.args.links.now c.in-Some.place x c.in-Some.ensures
    (c.is_failing.ensures ∙ ap (λ (h : Held). is_failing h.link) c.index-links-place.is)
