use Rattle.std.proofs.Common.{length, sym, ap, ◌∙◌}
use Rattle.of_types.specs.declared.journal.TookWhat.{TookWhat}
use Rattle.sim_world.specs.Scripts.{taken_bytes}
use Rattle.sim_world.specs.Lives.{life_of_cell}
use Rattle.sim_world.specs.laws.ScriptLaws.{fault-closed, fault-silent, fault-none, taken-fault, taken-left}
use Rattle.sim_world.proofs.life.LifeCell.next_len.Goals as goal

pub returns-then-closed : goal.returns-then-closed
unfolding life_of_cell
returns-then-closed c = sym (ap (λ (what : TookWhat). length (taken_bytes what)) (taken-fault _ _ _ _ _ (fault-closed _ _ _ (sym c.is_closed-closed.ensures ∙ c.if-closed.true))))

pub returns-then-silent : goal.returns-then-silent
unfolding life_of_cell
returns-then-silent c = sym (ap (λ (what : TookWhat). length (taken_bytes what)) (taken-fault _ _ _ _ _ (fault-silent _ _ _ (sym c.is_closed-closed.ensures ∙ c.if-closed.false) (sym c.is_silent-silent.ensures ∙ c.if-silent.true))))

pub returns-else-silent : goal.returns-else-silent
unfolding life_of_cell
returns-else-silent c = c.len_left.ensures ∙ sym (ap (λ (what : TookWhat). length (taken_bytes what)) (taken-left _ _ _ _ (fault-none _ _ _ (sym c.is_closed-closed.ensures ∙ c.if-closed.false) (sym c.is_silent-silent.ensures ∙ c.if-silent.false))))
