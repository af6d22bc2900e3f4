use Rattle.std.proofs.Common.{sym, ◌∙◌}
use Rattle.of_match.specs.Key.{key_number}
use Rattle.flow_table.specs.Sorted.{row_place}
use Rattle.flow_table.specs.laws.SortedLaws.{without_place-found, without_place-absent, at_place-absent}
use Rattle.net_txn.proofs.rows.remove_row.Goals as goal

pub returns-in-Ok : goal.returns-in-Ok
returns-in-Ok c = c.remove.ensures.rows ∙ sym (without_place-found row_place c.args.rows.now.rows (key_number c.args.key.now) 0 c.in-Ok.at c.requires c.in-Ok.ensures)

pub returns-in-Err : goal.returns-in-Err
returns-in-Err c = sym (without_place-absent row_place (key_number c.args.key.now) c.args.rows.now.rows (at_place-absent row_place c.args.rows.now.rows (key_number c.args.key.now) c.in-Err.field-0 c.in-Err.ensures))
