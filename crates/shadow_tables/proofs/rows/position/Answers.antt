use Rattle.shadow_tables.proofs.rows.position.Goals as goal

pub position-requires : goal.position-requires
position-requires c = rw c.as_slice.ensures c.requires
