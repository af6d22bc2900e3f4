use Rattle.std.proofs.Common.{◌+◌, drop, refl}
use Rattle.std.specs.List.{list_any}
use Rattle.flow_table.specs.View.{plain, plains}
use Rattle.net_guard.specs.Links.{Guarded}
use Rattle.net_guard.specs.Leading.{table_over}
use Rattle.net_guard.proofs.Marking.{Leaves-none, Leaves-more, Marks-left, any-drop_plains, any-drop_all_plains}
use Rattle.net_guard.proofs.leading.by_tables.Goals as goal

pub loop-table-init : goal.loop-table-init
loop-table-init c = Leaves-none _ _ _ (λ h. refl)

pub loop-table-preserved : goal.loop-table-preserved
loop-table-preserved c =
    let xs = c.args.tables.now in
    let g : Guarded = record { field = c.args.field; hops = c.args.hops.now } in
    let p = c.args.place in
    let i = c.loop-table.table-index in
    Leaves-more c.loop-table.set c.by_table.result c.either-set.result c.args.hops.now (λ h. list_any (table_over g c.args.scope p h) (plains (drop i xs))) (λ h. list_any (table_over g c.args.scope p h) (plains (drop (i + 1) xs)))
    (λ h. table_over g c.args.scope p h (plain c.table-item.result)) (λ h. list_any (table_over g c.args.scope p h) (plains xs))
    c.loop-table.invariant c.by_table.ensures c.either-set.ensures (λ h. any-drop_plains (table_over g c.args.scope p h) xs i c.table-item.result c.loop-table-test.true c.table-item.is)

pub returns : goal.returns
returns c =
    let g : Guarded = record { field = c.args.field; hops = c.args.hops.now } in
    Marks-left _ _ _ _ c.loop-table.invariant (λ h. any-drop_all_plains (table_over g c.args.scope c.args.place h) c.args.tables.now c.loop-table.table-index c.loop-table-test.false)
