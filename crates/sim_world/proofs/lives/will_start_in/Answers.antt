use Rattle.std.proofs.Common.{ℕ, ◌-◌, ◌^◌, ◌<◌, subst, ◌∙◌}
use Rattle.sim_world.specs.Scripts.{Life, will_start}
use Rattle.sim_world.specs.laws.CellLaws.{first_start_calls, first_is}
use Rattle.sim_world.proofs.lives.will_start_in.Goals as goal

pub will_start-requires-clause-few : goal.will_start-requires-clause-few
will_start-requires-clause-few c = subst (λ (n : ℕ). n < 2 ^ 64 - 1) (first_start_calls _ _ _ _ _ c.place.ensures.first) c.requires.few

pub returns : goal.returns
returns c = c.will_start.ensures ∙ first_is (λ (a : ℕ) (l : Life). will_start c.args.lines.now c.args.told.now a l) c.args.lines.now.replies c.args.app c.place.result c.args.cells.now _ c.place.ensures.first
