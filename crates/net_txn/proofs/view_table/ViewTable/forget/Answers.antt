use Rattle.net_txn.specs.laws.ViewLaws.{AreInKeyOrder-filter}
use Rattle.net_txn.proofs.view_table.ViewTable.forget.Goals as goal

pub invariant_of-self : goal.invariant_of-self
invariant_of-self c = rw c.forget_view.ensures (AreInKeyOrder-filter _ _ c.self.invariant)
