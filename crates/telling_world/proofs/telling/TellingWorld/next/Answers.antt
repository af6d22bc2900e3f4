use Rattle.telling_world.specs.laws.StoryLaws.{came_so, followed_item}
use Rattle.telling_world.proofs.telling.TellingWorld.next.Goals as goal

pub returns-clause-told : goal.returns-clause-told
returns-clause-told g c =
    rw (c.came.ensures, ← c.self.view_is)
    (came_so g.W.World.Tells c.follow-answer.result c.next-answer.new.buf c.self.inside.story
    (followed_item g.W.World.Tells c.next-answer.result c.follow-answer.result c.next-answer.new.buf c.follow-answer.ensures.same c.next-answer.ensures.nexts.item))
