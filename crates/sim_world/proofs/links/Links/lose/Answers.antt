use Rattle.std.proofs.Common.{◌≡◌, List, length, sym, ap, subst, ◌∙◌, arith}
use Rattle.outside.specs.State.{declared_in}
use Rattle.sim_world.specs.Links.{Held, AreLinks, links_in}
use Rattle.sim_world.specs.laws.LinksLaws.{AreLinks-same}
use Rattle.sim_world.proofs.Places.{whole_again}
use Rattle.sim_world.proofs.links.Links.lose.Goals as goal

pub invariant_of-self : goal.invariant_of-self
invariant_of-self c =
    let old = c.self.inside.links.items in
    let new = c.lose.new.links in
    let lent = c.deref_mut.ensures.value in
    let same : length new ≡ length old = omega (arith, ap (λ (held : List Held). length held) lent) in
    subst (λ (held : List Held). AreLinks (links_in held)) (sym (whole_again old new c.self.inside.links.len (omega arith) same))
    (AreLinks-same (links_in old) (links_in new) (c.lose.ensures.declared ∙ ap (λ (held : List Held). declared_in (links_in held)) lent) c.self.invariant)
