use Rattle.telling_world.specs.laws.JoinedLaws.{among_without}
use Rattle.telling_world.proofs.joined.Joined.remove.Goals as goal

pub returns : goal.returns
returns c = rw (c.take_out.ensures, ← c.self.view_is) (among_without c.args.dpid c.self.inside.dpids.items)
