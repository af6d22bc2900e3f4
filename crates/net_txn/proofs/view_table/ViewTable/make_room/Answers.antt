use Rattle.net_txn.proofs.view_table.ViewTable.make_room.Goals as goal

pub invariant_of-self : goal.invariant_of-self
invariant_of-self c = rw c.make_room.ensures c.self.invariant
