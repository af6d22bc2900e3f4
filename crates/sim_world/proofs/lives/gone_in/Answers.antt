use Rattle.std.proofs.Common.{ℕ, ◌-◌, ◌^◌, ◌<◌, subst}
use Rattle.sim_world.specs.Scripts.{after_gone}
use Rattle.sim_world.specs.laws.CellLaws.{first_give_calls, Moved-cell}
use Rattle.sim_world.proofs.lives.gone_in.Goals as goal

pub gone-requires : goal.gone-requires
gone-requires c = subst (λ (n : ℕ). n < 2 ^ 64 - 1) (first_give_calls _ _ _ _ _ c.place-i.ensures.first) c.requires.few

pub returns-clause-moved : goal.returns-clause-moved
returns-clause-moved c = Moved-cell _ c.args.app c.place-i.result c.args.cells.now _ _ (λ a. after_gone) c.place-i.ensures.first c.gone.ensures.app (c.gone.ensures.life c.args.lines.now.replies)
