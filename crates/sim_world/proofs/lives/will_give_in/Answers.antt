use Rattle.std.proofs.Common.{ℕ, ◌-◌, ◌^◌, ◌<◌, subst, ◌∙◌}
use Rattle.sim_world.specs.Scripts.{Life, will_give}
use Rattle.sim_world.specs.laws.CellLaws.{first_give_calls, first_is}
use Rattle.sim_world.proofs.lives.will_give_in.Goals as goal

pub will_give-requires : goal.will_give-requires
will_give-requires c = subst (λ (n : ℕ). n < 2 ^ 64 - 1) (first_give_calls _ _ _ _ _ c.place.ensures.first) c.requires.few

pub returns : goal.returns
returns c = c.will_give.ensures c.args.lines.now.replies ∙ first_is (λ (a : ℕ) (l : Life). will_give c.args.told.now a l) c.args.lines.now.replies c.args.app c.place.result c.args.cells.now _ c.place.ensures.first
