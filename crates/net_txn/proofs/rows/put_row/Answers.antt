use Rattle.std.proofs.Common.{sym, ap, ◌∙◌, List}
use Rattle.flow_table.specs.declared.view.ViewRow.{ViewRow}
use Rattle.flow_table.specs.Sorted.{row_place, with_row}
use Rattle.flow_table.specs.laws.SortedLaws.{with_item-found, with_item-absent}
use Rattle.net_txn.proofs.rows.put_row.Goals as goal

pub position-requires : goal.position-requires
position-requires c = rw c.in_ok-reserve.ensures.rows c.requires

pub returns-in-Ok-clause-ok : goal.returns-in-Ok-clause-ok
returns-in-Ok-clause-ok c = c.replace.ensures.rows ∙ sym (with_item-found row_place c.reserve.new.self.rows c.args.row 0 c.in-Ok.at (rw c.in_ok-reserve.ensures.rows c.requires) c.in-Ok.ensures) ∙ ap (λ (rows : List ViewRow). with_row c.args.row rows) c.in_ok-reserve.ensures.rows

pub returns-in-Err-clause-ok : goal.returns-in-Err-clause-ok
returns-in-Err-clause-ok c = c.insert.ensures.rows ∙ sym (with_item-absent row_place c.reserve.new.self.rows c.args.row c.in-Err.at c.in-Err.ensures) ∙ ap (λ (rows : List ViewRow). with_row c.args.row rows) c.in_ok-reserve.ensures.rows
