use Rattle.net_txn.proofs.view_table.ViewTable.is_row.Goals as goal

pub is_row-requires : goal.is_row-requires
is_row-requires c = rw c.deref.ensures.value c.self.invariant
