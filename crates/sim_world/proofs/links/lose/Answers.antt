use Rattle.std.proofs.Common.{IfSome, sym}
use Rattle.std.proofs.Common.{Option}
use Rattle.outside.specs.State.{Link, link_lost}
use Rattle.sim_world.specs.Links.{MayCall}
use Rattle.sim_world.specs.laws.LinksLaws.{links_in-changed, declared_in-set, with_link-not_held}
use Rattle.sim_world.proofs.Places.{from_position}
use Rattle.sim_world.proofs.links.lose.Goals as goal

pub lose-requires : goal.lose-requires
lose-requires c =
    let may = from_position (λ (o : Option Link). IfSome o MayCall) c.args.dpid c.args.links.now c.in-Some.place c.index-links-place.result c.in-Some.ensures c.requires in
    may.calls

pub returns-in-Some-clause-lost : goal.returns-in-Some-clause-lost
returns-in-Some-clause-lost c =
    links_in-changed c.args.dpid link_lost c.args.links.now c.in-Some.place c.lose.new.self c.index-links-place.result c.in-Some.ensures c.lose.ensures.lost

pub returns-in-Some-clause-declared : goal.returns-in-Some-clause-declared
returns-in-Some-clause-declared c = declared_in-set c.args.links.now c.in-Some.place c.lose.new.self c.index-links-place.result c.lose.ensures.declared

pub returns-in_default-clause-lost : goal.returns-in_default-clause-lost
returns-in_default-clause-lost c = sym (with_link-not_held c.args.dpid link_lost c.args.links.now c.in_default.ensures)
