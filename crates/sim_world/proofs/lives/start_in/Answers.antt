use Rattle.std.proofs.Common.{ℕ, ◌-◌, ◌^◌, ◌<◌, subst}
use Rattle.sim_world.specs.Scripts.{after_start}
use Rattle.sim_world.specs.laws.CellLaws.{first_start_calls, Moved-cell}
use Rattle.sim_world.proofs.lives.start_in.Goals as goal

pub start-requires-clause-few : goal.start-requires-clause-few
start-requires-clause-few c = subst (λ (n : ℕ). n < 2 ^ 64 - 1) (first_start_calls _ _ _ _ _ c.place-i.ensures.first) c.requires.few

pub returns-clause-moved : goal.returns-clause-moved
returns-clause-moved c = Moved-cell _ c.args.app c.place-i.result c.args.cells.now _ _ (λ a. after_start c.args.lines.now c.args.told.now a c.args.ok) c.place-i.ensures.first c.start.ensures.app c.start.ensures.life
