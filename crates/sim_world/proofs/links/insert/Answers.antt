use Rattle.std.proofs.Common.{List, sym, ap, ◌∙◌}
use Rattle.std.specs.List.{insert}
use Rattle.sim_world.specs.Links.{Held, insert_held, links_in}
use Rattle.sim_world.specs.laws.LinksLaws.{links_in-insert}
use Rattle.sim_world.proofs.links.insert.Goals as goal

pub returns-clause-ok : goal.returns-clause-ok
returns-clause-ok c =
    let h = c.args.link in
    let place = c.place_for-place.result in
    let lent = c.deref.ensures.value in
    let placed = c.place_for-place.ensures.place h (sym c.dpid.ensures) in
    ap links_in c.in_ok-insert.ensures.items ∙ ap (λ (held : List Held). links_in (insert held place h)) (sym lent) ∙ ap links_in (sym placed)
    ∙ ap (λ (held : List Held). links_in (insert_held h held)) lent ∙ links_in-insert h c.args.links.now.items
