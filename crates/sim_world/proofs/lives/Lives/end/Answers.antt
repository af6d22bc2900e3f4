use Rattle.std.proofs.Common.{ap, ◌∙◌, arith, List}
use Rattle.of_types.specs.declared.journal.Act.TheVariants.{Ended}
use Rattle.outside.specs.declared.step.WorldStep.TheVariants.{Acted}
use Rattle.std.proofs.lemmas.List.{with_items_is}
use Rattle.sim_world.specs.declared.life.LifeCell.{LifeCell}
use Rattle.sim_world.specs.Lives.{life_of, is_known, life_in, has_life, named_lives}
use Rattle.sim_world.specs.laws.CellLaws.{seen_known, seen_steps, lives-ended}
use Rattle.sim_world.proofs.lives.Lives.end.Goals as goal

pub returns-clause-known : goal.returns-clause-known
unfolding is_known
returns-clause-known c = λ a. ap (λ (xs : List LifeCell). has_life a (named_lives c.self.inside.lines.replies xs)) (with_items_is c.self.inside.cells c.end_in.new.cells (omega arith)) ∙ c.end_in.ensures.moved.known a ∙ seen_known a c.args.self.now c.self.inside.lines c.self.inside.cells.items _ c.self.view_is c.deref_mut.ensures.value

pub returns-clause-lives : goal.returns-clause-lives
unfolding life_of
returns-clause-lives c = λ fails. λ a. ap (λ (xs : List LifeCell). life_in a (named_lives c.self.inside.lines.replies xs)) (with_items_is c.self.inside.cells c.end_in.new.cells (omega arith)) ∙ seen_steps c.args.self.now c.self.inside.lines c.self.inside.cells.items _ _ fails (Acted (Ended c.args.app)) c.self.view_is c.deref_mut.ensures.value (lives-ended _ fails _ _ _ c.end_in.ensures.moved) a
