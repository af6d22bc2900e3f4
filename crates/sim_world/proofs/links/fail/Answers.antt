use Rattle.std.proofs.Common.{IfSome, sym}
use Rattle.std.proofs.Common.{Option}
use Rattle.outside.specs.State.{Link, link_failed}
use Rattle.sim_world.specs.Links.{MayCall}
use Rattle.sim_world.specs.laws.LinksLaws.{links_in-changed, declared_in-set, with_link-not_held}
use Rattle.sim_world.proofs.Places.{from_position}
use Rattle.sim_world.proofs.links.fail.Goals as goal

pub fail-requires : goal.fail-requires
fail-requires c =
    let may = from_position (λ (o : Option Link). IfSome o MayCall) c.args.dpid c.args.links.now c.in-Some.place c.index-links-place.result c.in-Some.ensures c.requires in
    may.calls

pub returns-in-Some-clause-failed : goal.returns-in-Some-clause-failed
returns-in-Some-clause-failed c =
    links_in-changed c.args.dpid link_failed c.args.links.now c.in-Some.place c.fail.new.self c.index-links-place.result c.in-Some.ensures c.fail.ensures.failed

pub returns-in-Some-clause-declared : goal.returns-in-Some-clause-declared
returns-in-Some-clause-declared c = declared_in-set c.args.links.now c.in-Some.place c.fail.new.self c.index-links-place.result c.fail.ensures.declared

pub returns-in_default-clause-failed : goal.returns-in_default-clause-failed
returns-in_default-clause-failed c = sym (with_link-not_held c.args.dpid link_failed c.args.links.now c.in_default.ensures)
