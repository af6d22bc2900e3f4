use Rattle.net_txn.specs.laws.SaidLaws.{parts_said}
use Rattle.net_txn.proofs.wait.part_with.Goals as goal

pub returns-then-can_part-clause-parts : goal.returns-then-can_part-clause-parts
returns-then-can_part-clause-parts g c = parts_said (c.part.ensures (c.can_part.ensures.0 c.if-can_part.true))

pub returns-then-can_part-clause-can : goal.returns-then-can_part-clause-can
returns-then-can_part-clause-can g c = rw c.if-can_part.true at c.can_part.ensures

pub returns-clause-can : goal.returns-clause-can
returns-clause-can g c = rw c.if-can_part.false at c.can_part.ensures
