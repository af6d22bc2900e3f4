use Rattle.std.proofs.Common.{◌≡◌, [], ◌∷◌, subst, ◌∙◌}
use Rattle.outside.specs.declared.step.WorldStep.TheVariants.{Idle}
use Rattle.outside.specs.State.{waiting_in}
use Rattle.sim_world.specs.World.{WorldData, Moves}
use Rattle.sim_world.specs.laws.TellLaws.{Tells_by_idle}
use Rattle.sim_world.proofs.parts.Parts.tell.Goals as goal

pub returns-clause-tells : goal.returns-clause-tells
returns-clause-tells c =
    let first = c.in_default.ensures.none in
    let second = c.in_default-tell_message.ensures.none in
    let same = second.1 ∙ first.1 in
    let new = c.tell_idle.new.self in
    Tells_by_idle c.args.self.now new c.tell_message.new.buf c.requires.begun
    (subst (λ (w : WorldData). Moves w new (Idle ∷ []) w.tally) same c.tell_idle.ensures.moves)
    first.0
    (subst (λ (w : WorldData). waiting_in w.state.links ≡ []) first.1 second.0)
