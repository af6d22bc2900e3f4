use Rattle.std.proofs.Common.{sym, subst}
use Rattle.flow_table.specs.declared.view.TableView.{TableView as Lent}
use Rattle.flow_table.specs.Sorted.{AreRows}
use Rattle.shadow_tables.specs.laws.InStepLaws.{AreTables-read}
use Rattle.shadow_tables.proofs.tables.remove_at.Goals as goal

pub drop_row-requires : goal.drop_row-requires
drop_row-requires c = record {
  in_order = subst (λ (v : Lent). AreRows v.rows.rows) (sym c.index_mut.ensures.value) (AreTables-read c.args.views.now.items c.args.at c.index_mut.result.now c.requires.in_order c.requires.within);
}
