use Rattle.std.proofs.Common.{ℕ, ◌-◌, ◌^◌, ◌<◌, subst, ◌∙◌, length}
use Rattle.sim_world.specs.Scripts.{Life, after_take, next_taken}
use Rattle.sim_world.specs.Lives.{took_of}
use Rattle.sim_world.specs.laws.CellLaws.{first_take_calls, first_is, Moved-cell}
use Rattle.sim_world.proofs.lives.take_in.Goals as goal

pub take-requires-clause-few : goal.take-requires-clause-few
take-requires-clause-few c = subst (λ (n : ℕ). n < 2 ^ 64 - 1) (first_take_calls _ _ _ _ _ c.place-i.ensures.first) c.requires.few

pub returns-clause-moved : goal.returns-clause-moved
returns-clause-moved c = Moved-cell _ c.args.app c.place-i.result c.args.cells.now _ _ (λ a. after_take c.args.told.now a (took_of c.take.result c.take.new.buf)) c.place-i.ensures.first c.take.ensures.app c.take.ensures.life

pub returns-clause-what : goal.returns-clause-what
returns-clause-what c = c.take.ensures.what ∙ first_is (λ (a : ℕ) (l : Life). next_taken c.args.told.now a (length c.args.buf.now) l) c.args.lines.now.replies c.args.app c.place-i.result c.args.cells.now _ c.place-i.ensures.first
