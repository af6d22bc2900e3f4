use Rattle.std.proofs.Common.{sym, ◌∙◌}
use Rattle.flow_table.specs.Sorted.{row_place}
use Rattle.flow_table.specs.laws.SortedLaws.{with_item-found, with_item-absent, at_place-absent}
use Rattle.shadow_tables.proofs.rows.put_row.Goals as goal

pub returns-in-Ok-clause-rows : goal.returns-in-Ok-clause-rows
returns-in-Ok-clause-rows c = c.replace.ensures.rows ∙ sym (with_item-found row_place c.args.rows.now.rows c.args.row 0 c.in-Ok.at c.requires.in_order c.in-Ok.ensures)

pub insert-requires-clause-room : goal.insert-requires-clause-room
insert-requires-clause-room c = c.requires.room (at_place-absent row_place c.args.rows.now.rows (row_place c.args.row) c.in-Err.at c.in-Err.ensures)

pub returns-in-Err-clause-rows : goal.returns-in-Err-clause-rows
returns-in-Err-clause-rows c = c.insert.ensures.rows ∙ sym (with_item-absent row_place c.args.rows.now.rows c.args.row c.in-Err.at c.in-Err.ensures)
