use Rattle.std.proofs.Common.{◌-◌, ◌^◌, ◌<◌, sym, subst, ◌∙◌}
use Rattle.sim_world.specs.Scripts.{Life}
use Rattle.sim_world.specs.Lives.{life_of}
use Rattle.sim_world.specs.laws.CellLaws.{seen_life, seen_cell, seen_start}
use Rattle.sim_world.proofs.lives.Lives.will_start.Goals as goal

pub will_start_in-requires-clause-known : goal.will_start_in-requires-clause-known
will_start_in-requires-clause-known c = seen_cell c.args.app c.args.self.now c.self.inside.lines c.self.inside.cells.items _ c.self.view_is c.deref.ensures.value c.requires.known

pub will_start_in-requires-clause-few : goal.will_start_in-requires-clause-few
will_start_in-requires-clause-few c = subst (λ (l : Life). l.start_calls < 2 ^ 64 - 1) (sym (seen_life c.args.app c.args.self.now c.self.inside.lines c.self.inside.cells.items _ c.self.view_is c.deref.ensures.value)) c.requires.few

pub returns : goal.returns
unfolding life_of
returns c = c.will_start_in.ensures ∙ seen_start c.args.self.now c.self.inside.lines c.self.inside.cells.items _ c.args.told.now c.args.app c.self.view_is c.deref.ensures.value
