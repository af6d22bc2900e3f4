use Rattle.std.proofs.Common.{◌≡◌, false, refl, ap, ◌∙◌}
use Rattle.std.specs.Prelude.{is_some}
use Rattle.outside.specs.State.{Link, switch_in}
use Rattle.sim_world.specs.Links.{Held}
use Rattle.sim_world.proofs.Places.{at_place, at_none}
use Rattle.std.proofs.Common.{Option}
use Rattle.sim_world.proofs.links.is_joined.Goals as goal

pub returns-in-None : goal.returns-in-None
returns-in-None c = at_none (λ (o : Option Link). false ≡ is_some (switch_in o)) c.args.dpid c.args.links.now c.in-None.ensures refl

pub returns-in-Some : goal.returns-in-Some
returns-in-Some c =
    let x = c.index-links-place.result in
    at_place (λ (o : Option Link). c.is_joined.result ≡ is_some (switch_in o)) c.args.dpid c.args.links.now c.in-Some.place x c.in-Some.ensures
    (c.is_joined.ensures ∙ ap (λ (h : Held). is_some h.link.switch) c.index-links-place.is)
