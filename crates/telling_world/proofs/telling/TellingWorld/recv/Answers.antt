use Rattle.telling_world.specs.laws.StoryLaws.{received_so}
use Rattle.telling_world.proofs.telling.TellingWorld.recv.Goals as goal

pub returns-clause-told : goal.returns-clause-told
returns-clause-told g c =
    rw (c.received.ensures, ← c.self.view_is)
    (received_so g.W.World.Tells c.args.dpid c.recv-answer.result c.recv-answer.new.buf c.self.inside.story c.recv-answer.ensures.receives.message)
