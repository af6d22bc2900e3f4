use Rattle.std.proofs.Common.{sym, ◌∙◌}
use Rattle.sim_world.specs.Lives.{life_of_cell}
use Rattle.sim_world.specs.laws.ScriptLaws.{fault-closed, fault-silent, fault-none, taken-fault, taken-left, kept-fault, kept-left}
use Rattle.sim_world.proofs.life.LifeCell.take.Goals as goal

pub returns-then-closed-clause-what : goal.returns-then-closed-clause-what
unfolding life_of_cell
returns-then-closed-clause-what c = sym (taken-fault _ _ _ _ _ (fault-closed _ _ _ (sym c.is_closed-closed.ensures ∙ c.if-closed.true)))

pub returns-then-closed-clause-life : goal.returns-then-closed-clause-life
unfolding life_of_cell
returns-then-closed-clause-life c = sym (kept-fault _ _ _ _ _ (fault-closed _ _ _ (sym c.is_closed-closed.ensures ∙ c.if-closed.true)))

pub returns-then-silent-clause-what : goal.returns-then-silent-clause-what
unfolding life_of_cell
returns-then-silent-clause-what c = sym (taken-fault _ _ _ _ _ (fault-silent _ _ _ (sym c.is_closed-closed.ensures ∙ c.if-closed.false) (sym c.is_silent-silent.ensures ∙ c.if-silent.true)))

pub returns-then-silent-clause-life : goal.returns-then-silent-clause-life
unfolding life_of_cell
returns-then-silent-clause-life c = sym (kept-fault _ _ _ _ _ (fault-silent _ _ _ (sym c.is_closed-closed.ensures ∙ c.if-closed.false) (sym c.is_silent-silent.ensures ∙ c.if-silent.true)))

pub returns-else-silent-clause-what : goal.returns-else-silent-clause-what
unfolding life_of_cell
returns-else-silent-clause-what c = c.take_left.ensures.what ∙ sym (taken-left _ _ _ _ (fault-none _ _ _ (sym c.is_closed-closed.ensures ∙ c.if-closed.false) (sym c.is_silent-silent.ensures ∙ c.if-silent.false)))

pub returns-else-silent-clause-life : goal.returns-else-silent-clause-life
unfolding life_of_cell
returns-else-silent-clause-life c = c.take_left.ensures.life ∙ sym (kept-left _ _ _ _ (fault-none _ _ _ (sym c.is_closed-closed.ensures ∙ c.if-closed.false) (sym c.is_silent-silent.ensures ∙ c.if-silent.false)))
