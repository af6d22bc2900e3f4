use Rattle.std.proofs.Common.{ap, refl}
use Rattle.sim_world.specs.Lives.{ScriptedLives}
use Rattle.sim_world.specs.laws.BuildingLaws.{IsNew-nothing, given-nothing}
use Rattle.sim_world.proofs.parts.Parts.new.Goals as goal

pub returns-clause-new : goal.returns-clause-new
returns-clause-new c =
    IsNew-nothing _ (record {
      scripts = ap (λ (p : ScriptedLives). p.own) c.in_ok-new.ensures;
      stimuli = c.new-2.ensures;
      fails = c.new-3.ensures.items;
      told = c.new-4.ensures;
      history = c.new-5.ensures;
      nexts = refl;
      calls = refl;
      tally = c.new-6.ensures;
      lives = ap (λ (p : ScriptedLives). p.lives) c.in_ok-new.ensures;
      state = refl;
      running = c.new-7.ensures.items;
      to_come = c.new-2.ensures;
      links = c.new-8.ensures;
      due = c.new-9.ensures.items;
    })

pub returns-clause-given : goal.returns-clause-given
returns-clause-given c =
    given-nothing _ (record {
      scripts = ap (λ (p : ScriptedLives). p.own) c.in_ok-new.ensures;
      stimuli = c.new-2.ensures;
      fails = c.new-3.ensures.items;
      told = c.new-4.ensures;
      history = c.new-5.ensures;
      nexts = refl;
      calls = refl;
      tally = c.new-6.ensures;
      lives = ap (λ (p : ScriptedLives). p.lives) c.in_ok-new.ensures;
      state = refl;
      running = c.new-7.ensures.items;
      to_come = c.new-2.ensures;
      links = c.new-8.ensures;
      due = c.new-9.ensures.items;
    })
