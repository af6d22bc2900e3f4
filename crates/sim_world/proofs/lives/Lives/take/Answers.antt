use Rattle.std.proofs.Common.{◌-◌, ◌^◌, ◌<◌, sym, ap, subst, ◌∙◌, arith, length, List}
use Rattle.outside.specs.declared.step.WorldStep.TheVariants.{TookInto}
use Rattle.sim_world.specs.Scripts.{Life, next_taken}
use Rattle.std.proofs.lemmas.List.{with_items_is}
use Rattle.sim_world.specs.declared.life.LifeCell.{LifeCell}
use Rattle.sim_world.specs.Lives.{life_of, is_known, took_of, life_in, has_life, named_lives}
use Rattle.sim_world.specs.laws.CellLaws.{seen_life, seen_known, seen_cell, seen_steps, lives-taken}
use Rattle.sim_world.proofs.lives.Lives.take.Goals as goal

pub take_in-requires-clause-known : goal.take_in-requires-clause-known
take_in-requires-clause-known c = seen_cell c.args.app c.args.self.now c.self.inside.lines c.self.inside.cells.items _ c.self.view_is c.deref_mut.ensures.value c.requires.known

pub take_in-requires-clause-few : goal.take_in-requires-clause-few
take_in-requires-clause-few c = subst (λ (l : Life). l.take_calls < 2 ^ 64 - 1) (sym (seen_life c.args.app c.args.self.now c.self.inside.lines c.self.inside.cells.items _ c.self.view_is c.deref_mut.ensures.value)) c.requires.few

pub returns-clause-known : goal.returns-clause-known
unfolding is_known
returns-clause-known c = λ a. ap (λ (xs : List LifeCell). has_life a (named_lives c.self.inside.lines.replies xs)) (with_items_is c.self.inside.cells c.take_in.new.cells (omega arith)) ∙ c.take_in.ensures.moved.known a ∙ seen_known a c.args.self.now c.self.inside.lines c.self.inside.cells.items _ c.self.view_is c.deref_mut.ensures.value

pub returns-clause-lives : goal.returns-clause-lives
unfolding life_of
returns-clause-lives c = λ a. ap (λ (xs : List LifeCell). life_in a (named_lives c.self.inside.lines.replies xs)) (with_items_is c.self.inside.cells c.take_in.new.cells (omega arith)) ∙ seen_steps c.args.self.now c.self.inside.lines c.self.inside.cells.items _ _ c.args.told.now (TookInto c.args.app (took_of c.take_in.result c.take_in.new.buf) (length c.args.buf.now)) c.self.view_is c.deref_mut.ensures.value (lives-taken _ c.args.told.now _ _ _ _ _ c.take_in.ensures.moved) a

pub returns-clause-what : goal.returns-clause-what
returns-clause-what c = c.take_in.ensures.what ∙ ap (next_taken c.args.told.now c.args.app (length c.args.buf.now)) (seen_life c.args.app c.args.self.now c.self.inside.lines c.self.inside.cells.items _ c.self.view_is c.deref_mut.ensures.value)
