use Rattle.std.proofs.Common.{◌≡◌, ◌<◌, List, None, length, sym, subst}
use Rattle.outside.specs.State.{Link, link_of}
use Rattle.sim_world.specs.Links.{links_in}
use Rattle.sim_world.specs.laws.LinksLaws.{AreLinks-inserted}
use Rattle.sim_world.proofs.links.Links.insert.Goals as goal

pub invariant_of-self : goal.invariant_of-self
invariant_of-self c =
    let l = c.args.link.link in
    let old = links_in c.self.inside.links.items in
    let view = sym c.self.view_is in
    AreLinks-inserted c.insert.result l old (links_in c.insert.new.links.items) c.insert.ensures.ok c.insert.ensures.err c.requires.number c.requires.cap
    (subst (λ (ls : List Link). link_of l.declared.dpid ls ≡ None) view c.requires.absent) (subst (λ (ls : List Link). length ls < 64) view c.requires.room) c.self.invariant
