use Rattle.std.proofs.Common.{◌-◌, ◌^◌, ◌<◌, length, sym, ap, subst, ◌∙◌}
use Rattle.sim_world.specs.Scripts.{Life, next_taken, taken_bytes}
use Rattle.sim_world.specs.laws.CellLaws.{seen_life, seen_cell}
use Rattle.sim_world.proofs.lives.Lives.next_len.Goals as goal

pub next_len_in-requires-clause-known : goal.next_len_in-requires-clause-known
next_len_in-requires-clause-known c = seen_cell c.args.app c.args.self.now c.self.inside.lines c.self.inside.cells.items _ c.self.view_is c.deref.ensures.value c.requires.known

pub next_len_in-requires-clause-few : goal.next_len_in-requires-clause-few
next_len_in-requires-clause-few c = subst (λ (l : Life). l.take_calls < 2 ^ 64 - 1) (sym (seen_life c.args.app c.args.self.now c.self.inside.lines c.self.inside.cells.items _ c.self.view_is c.deref.ensures.value)) c.requires.few

pub returns : goal.returns
returns c = c.next_len_in.ensures ∙ ap (λ (l : Life). length (taken_bytes (next_taken c.args.told.now c.args.app c.args.room l))) (seen_life c.args.app c.args.self.now c.self.inside.lines c.self.inside.cells.items _ c.self.view_is c.deref.ensures.value)
