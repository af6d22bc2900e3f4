use Rattle.std.proofs.Common.{sym}
use Rattle.outside.specs.State.{link_left}
use Rattle.sim_world.specs.laws.LinksLaws.{links_in-changed, declared_in-set, with_link-not_held}
use Rattle.sim_world.proofs.links.leave.Goals as goal

pub returns-in-Some-clause-left : goal.returns-in-Some-clause-left
returns-in-Some-clause-left c =
    links_in-changed c.args.dpid link_left c.args.links.now c.in-Some.place c.leave.new.self c.index-links-place.result c.in-Some.ensures c.leave.ensures.left

pub returns-in-Some-clause-declared : goal.returns-in-Some-clause-declared
returns-in-Some-clause-declared c = declared_in-set c.args.links.now c.in-Some.place c.leave.new.self c.index-links-place.result c.leave.ensures.declared

pub returns-in_default-clause-left : goal.returns-in_default-clause-left
returns-in_default-clause-left c = sym (with_link-not_held c.args.dpid link_left c.args.links.now c.in_default.ensures)
