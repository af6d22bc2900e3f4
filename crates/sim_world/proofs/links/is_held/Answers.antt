use Rattle.std.proofs.Common.{◌∙◌}
use Rattle.sim_world.specs.laws.LinksLaws.{is_declared-place}
use Rattle.sim_world.proofs.links.is_held.Goals as goal

pub returns : goal.returns
returns c = c.is_some.ensures ∙ is_declared-place c.args.dpid c.args.links.now c.place_of.result c.place_of.ensures
