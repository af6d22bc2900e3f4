use Rattle.std.proofs.Common.{ℕ, ◌-◌, ◌^◌, ◌<◌, subst}
use Rattle.sim_world.specs.Scripts.{after_gave}
use Rattle.sim_world.specs.laws.CellLaws.{first_give_calls, Moved-cell}
use Rattle.std.specs.Prelude.{is_some}
use Rattle.outside.specs.State.{event_number}
use Rattle.sim_world.proofs.lives.gave_in.Goals as goal

pub gave-requires-clause-few : goal.gave-requires-clause-few
gave-requires-clause-few c = subst (λ (n : ℕ). n < 2 ^ 64 - 1) (first_give_calls _ _ _ _ _ c.place-i.ensures.first) c.requires.few

pub returns-clause-moved : goal.returns-clause-moved
returns-clause-moved c = Moved-cell _ c.args.app c.place-i.result c.args.cells.now _ _ (λ a. after_gave c.args.lines.now a (is_some (event_number c.args.bytes.now))) c.place-i.ensures.first c.gave.ensures.app c.gave.ensures.life
