use Rattle.std.proofs.Common.{◌≡◌, false, not, refl, ap, ◌∙◌}
use Rattle.outside.specs.State.{Link, is_empty, waits_in}
use Rattle.sim_world.specs.Links.{Held}
use Rattle.sim_world.proofs.Places.{at_place, at_none}
use Rattle.std.proofs.Common.{Option}
use Rattle.sim_world.proofs.links.has_waiting.Goals as goal

pub returns-in-None : goal.returns-in-None
returns-in-None c = at_none (λ (o : Option Link). false ≡ not (is_empty (waits_in o))) c.args.dpid c.args.links.now c.in-None.ensures refl

pub returns-in-Some : goal.returns-in-Some
returns-in-Some c =
    let x = c.index-links-place.result in
    at_place (λ (o : Option Link). c.has_waiting.result ≡ not (is_empty (waits_in o))) c.args.dpid c.args.links.now c.in-Some.place x c.in-Some.ensures
    (c.has_waiting.ensures ∙ ap (λ (h : Held). not (is_empty h.link.waits)) c.index-links-place.is)
