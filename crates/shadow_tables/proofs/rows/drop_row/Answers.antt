use Rattle.std.proofs.Common.{sym, ◌∙◌}
use Rattle.of_match.specs.Key.{key_number}
use Rattle.flow_table.specs.Sorted.{row_place}
use Rattle.flow_table.specs.laws.SortedLaws.{without_place-found, without_place-absent, at_place-absent}
use Rattle.shadow_tables.proofs.rows.drop_row.Goals as goal

pub returns-in-Ok-clause-rows : goal.returns-in-Ok-clause-rows
returns-in-Ok-clause-rows c = c.remove.ensures.rows ∙ sym (without_place-found row_place c.args.rows.now.rows (key_number c.args.key.now) 0 c.in-Ok.at c.requires.in_order c.in-Ok.ensures)

pub returns-in-Err-clause-rows : goal.returns-in-Err-clause-rows
returns-in-Err-clause-rows c = sym (without_place-absent row_place (key_number c.args.key.now) c.args.rows.now.rows (at_place-absent row_place c.args.rows.now.rows (key_number c.args.key.now) c.in-Err.field-0 c.in-Err.ensures))
