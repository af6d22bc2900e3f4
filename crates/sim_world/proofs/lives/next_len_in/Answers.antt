use Rattle.std.proofs.Common.{ℕ, ◌-◌, ◌^◌, ◌<◌, length, subst, ◌∙◌}
use Rattle.sim_world.specs.Scripts.{Life, next_taken, taken_bytes}
use Rattle.sim_world.specs.laws.CellLaws.{first_take_calls, first_is}
use Rattle.sim_world.proofs.lives.next_len_in.Goals as goal

pub next_len-requires-clause-few : goal.next_len-requires-clause-few
next_len-requires-clause-few c = subst (λ (n : ℕ). n < 2 ^ 64 - 1) (first_take_calls _ _ _ _ _ c.place.ensures.first) c.requires.few

pub returns : goal.returns
returns c = c.next_len.ensures ∙ first_is (λ (a : ℕ) (l : Life). length (taken_bytes (next_taken c.args.told.now a c.args.room l))) c.args.lines.now.replies c.args.app c.place.result c.args.cells.now _ c.place.ensures.first
