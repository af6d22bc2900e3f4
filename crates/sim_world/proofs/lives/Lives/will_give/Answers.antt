use Rattle.std.proofs.Common.{◌-◌, ◌^◌, ◌<◌, sym, ap, subst, ◌∙◌}
use Rattle.sim_world.specs.Scripts.{Life, will_give}
use Rattle.sim_world.specs.laws.CellLaws.{seen_life, seen_cell}
use Rattle.sim_world.proofs.lives.Lives.will_give.Goals as goal

pub will_give_in-requires-clause-known : goal.will_give_in-requires-clause-known
will_give_in-requires-clause-known c = seen_cell c.args.app c.args.self.now c.self.inside.lines c.self.inside.cells.items _ c.self.view_is c.deref.ensures.value c.requires.known

pub will_give_in-requires-clause-few : goal.will_give_in-requires-clause-few
will_give_in-requires-clause-few c = subst (λ (l : Life). l.give_calls < 2 ^ 64 - 1) (sym (seen_life c.args.app c.args.self.now c.self.inside.lines c.self.inside.cells.items _ c.self.view_is c.deref.ensures.value)) c.requires.few

pub returns : goal.returns
returns c = c.will_give_in.ensures ∙ ap (will_give c.args.told.now c.args.app) (seen_life c.args.app c.args.self.now c.self.inside.lines c.self.inside.cells.items _ c.self.view_is c.deref.ensures.value)
