use Rattle.std.proofs.Common.{◌-◌, ◌^◌, ◌<◌, sym, ap, subst, ◌∙◌, arith, List}
use Rattle.of_types.specs.declared.journal.Act.TheVariants.{Gave}
use Rattle.outside.specs.declared.step.WorldStep.TheVariants.{Acted}
use Rattle.sim_world.specs.Scripts.{Life}
use Rattle.std.proofs.lemmas.List.{with_items_is}
use Rattle.sim_world.specs.declared.life.LifeCell.{LifeCell}
use Rattle.sim_world.specs.Lives.{life_of, is_known, life_in, has_life, named_lives}
use Rattle.sim_world.specs.laws.CellLaws.{seen_life, seen_known, seen_cell, seen_steps, lives-gave}
use Rattle.sim_world.proofs.lives.Lives.gave.Goals as goal

pub gave_in-requires-clause-known : goal.gave_in-requires-clause-known
gave_in-requires-clause-known c = seen_cell c.args.app c.args.self.now c.self.inside.lines c.self.inside.cells.items _ c.self.view_is c.deref_mut.ensures.value c.requires.known

pub gave_in-requires-clause-few : goal.gave_in-requires-clause-few
gave_in-requires-clause-few c = subst (λ (l : Life). l.give_calls < 2 ^ 64 - 1) (sym (seen_life c.args.app c.args.self.now c.self.inside.lines c.self.inside.cells.items _ c.self.view_is c.deref_mut.ensures.value)) c.requires.few

pub returns-clause-known : goal.returns-clause-known
unfolding is_known
returns-clause-known c = λ a. ap (λ (xs : List LifeCell). has_life a (named_lives c.self.inside.lines.replies xs)) (with_items_is c.self.inside.cells c.gave_in.new.cells (omega arith)) ∙ c.gave_in.ensures.moved.known a ∙ seen_known a c.args.self.now c.self.inside.lines c.self.inside.cells.items _ c.self.view_is c.deref_mut.ensures.value

pub returns-clause-lives : goal.returns-clause-lives
unfolding life_of
returns-clause-lives c = λ fails. λ a. ap (λ (xs : List LifeCell). life_in a (named_lives c.self.inside.lines.replies xs)) (with_items_is c.self.inside.cells c.gave_in.new.cells (omega arith)) ∙ seen_steps c.args.self.now c.self.inside.lines c.self.inside.cells.items _ _ fails (Acted (Gave c.args.app c.args.bytes.now)) c.self.view_is c.deref_mut.ensures.value (lives-gave _ fails _ _ _ _ c.gave_in.ensures.moved) a
