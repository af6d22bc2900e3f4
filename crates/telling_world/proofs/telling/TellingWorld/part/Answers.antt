use Rattle.std.proofs.Common.{[], Err, refl, sym, subst}
use Rattle.outside.specs.declared.faults.LinkFault.TheVariants as linking
use Rattle.telling_world.specs.Story.{AreJoined}
use Rattle.telling_world.specs.laws.StoryLaws.{sent_so, sent_story}
use Rattle.telling_world.proofs.telling.TellingWorld.part.Goals as goal

pub invariant_of-self : goal.invariant_of-self
invariant_of-self g c =
    subst (AreJoined c.lose.new.joined) (sym c.sent.ensures)
    (sent_story {T = Unit {0}} c.self.inside.joined c.lose.new.joined c.args.dpid [] (Err linking.Failed) c.self.inside.story c.self.invariant c.lose.ensures)

pub returns-clause-told : goal.returns-clause-told
returns-clause-told g c =
    rw (c.sent.ensures, ← c.self.view_is)
    (sent_so {T = Unit {0}} c.self.inside.joined c.args.dpid [] (Err linking.Failed) c.self.inside.story c.self.invariant c.ranges.dpid.fits (λ out. refl))
