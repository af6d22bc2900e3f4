use Rattle.std.proofs.Common.{ap, sym, ◌∙◌}
use Rattle.std.specs.Prelude.{fold}
use Rattle.std.proofs.lemmas.List.{at_drop_all}
use Rattle.flow_table.specs.View.{plains}
use Rattle.net_guard.specs.Values.{lower, named_in_rows, named_in}
use Rattle.net_guard.proofs.Numbers.{tables_more}
use Rattle.net_guard.proofs.values.least_of_tables.Goals as goal

pub loop-table-preserved : goal.loop-table-preserved
loop-table-preserved c =
    tables_more c.args.from c.args.field c.loop-table.least c.least_of_rows-least.result c.args.tables.now c.loop-table.table-index c.table-item.result c.loop-table-test.true c.table-item.is
    (c.least_of_rows-least.ensures ∙ ap (λ rows. fold (lower c.args.from) c.loop-table.least (named_in_rows c.args.field rows)) c.as_slice.ensures)
    ∙ c.loop-table.invariant

pub returns : goal.returns
returns c = sym (at_drop_all (λ xs. fold (lower c.args.from) c.loop-table.least (named_in c.args.field (plains xs))) c.args.tables.now c.loop-table.table-index c.loop-table-test.false) ∙ c.loop-table.invariant
