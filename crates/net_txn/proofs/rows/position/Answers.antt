use Rattle.net_txn.proofs.rows.position.Goals as goal

pub position-requires : goal.position-requires
position-requires c = rw c.as_slice.ensures c.requires
