use Rattle.std.proofs.Common.{refl, inl, inr}
use Rattle.net_txn.proofs.wait.give_up.Goals as goal

pub returns-then-part_with-clause-gives_up : goal.returns-then-part_with-clause-gives_up
returns-then-part_with-clause-gives_up g c = inr (refl, rw c.if-part_with.true at c.part_with.ensures.parts)

pub returns-clause-gives_up : goal.returns-clause-gives_up
returns-clause-gives_up g c = inl (refl, rw c.if-part_with.false at c.part_with.ensures.parts)

pub returns-clause-parted : goal.returns-clause-parted
returns-clause-parted g c = λ can. absurd (let is = rw c.if-part_with.false at (c.part_with.ensures.can.1 can) in cc)
