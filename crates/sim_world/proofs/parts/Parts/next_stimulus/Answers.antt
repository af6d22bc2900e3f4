use Rattle.std.proofs.Common.{◌≡◌, [], Some, slice_get, IfOk, IfSome, IfNone, subst}
use Rattle.sim_world.specs.World.{WorldData}
use Rattle.sim_world.specs.laws.NextLaws.{none_to_come, next_to_come}
use Rattle.sim_world.proofs.parts.Parts.next_stimulus.Goals as goal

pub returns-clause-none : goal.returns-clause-none
returns-clause-none c =
    subst (λ (w : WorldData). IfOk c.get.result (λ next. IfNone next (w.state.to_come ≡ []))) c.self.view_is
    (none_to_come c.self.inside.begun_stimuli c.self.inside.stimuli c.get.result c.get.ensures)

pub returns-clause-some : goal.returns-clause-some
returns-clause-some c =
    subst (λ (w : WorldData). IfOk c.get.result (λ next. IfSome next (λ x. slice_get w.state.to_come 0 ≡ Some x))) c.self.view_is
    (next_to_come c.self.inside.begun_stimuli c.self.inside.stimuli c.get.result c.get.ensures)
