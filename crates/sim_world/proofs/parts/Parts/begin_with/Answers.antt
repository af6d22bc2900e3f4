use Rattle.std.proofs.Common.{sym, subst, All}
use Rattle.std.specs.List.{AllByRecursion}
use Rattle.sim_world.specs.Links.{StandsAt, IsDue}
use Rattle.sim_world.specs.World.{WorldData}
use Rattle.sim_world.specs.laws.NextLaws.{all_due}
use Rattle.sim_world.proofs.parts.Parts.begin_with.Goals as goal

pub begin-requires-clause-stand : goal.begin-requires-clause-stand
begin-requires-clause-stand c =
    subst (λ (w : WorldData). AllByRecursion (λ l. StandsAt w.state.moment l.switch) w.state.links) (sym c.self.view_is) c.requires.stand

pub returns-clause-due : goal.returns-clause-due
returns-clause-due c =
    subst (All IsDue) (sym c.push_due.ensures)
    (all_due _ _
    (subst (All IsDue) (sym c.reserve.ensures.items) (subst (λ (w : WorldData). All IsDue w.state.due) (sym c.self.view_is) c.requires.due))
    c.in_ok-due.ensures.fits)
