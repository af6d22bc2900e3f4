use Rattle.std.proofs.Common.{◌+◌, ◌&&◌, false, drop, refl, ap, List}
use Rattle.std.specs.List.{list_any}
use Rattle.std.proofs.lemmas.List.{at_drop_all}
use Rattle.flow_table.specs.declared.view.ViewRow.{ViewRow}
use Rattle.net_guard.specs.Leading.{row_over}
use Rattle.net_guard.proofs.Considering.{kept, kept-any, kept-drop}
use Rattle.net_guard.proofs.Marking.{Leaves-none, Leaves-more, Marks-left, Marks-same}
use Rattle.net_guard.proofs.leading.by_rows.Goals as goal

pub loop-row-init : goal.loop-row-init
loop-row-init c = Leaves-none _ _ _ (λ h. refl)

pub loop-row-preserved : goal.loop-row-preserved
loop-row-preserved c =
    let xs = c.args.rows.now in
    let p = c.args.place in
    let i = c.loop-row.row-index in
    let r = c.row-item.result in
    Leaves-more c.loop-row.set c.by_counted.result c.either-set.result c.args.hops.now (λ h. list_any (row_over p h) (kept c.args.field c.args.scope p.1 c.loop-row.covered (drop i xs)))
    (λ h. list_any (row_over p h) (kept c.args.field c.args.scope p.1 c.covers-covered.result (drop (i + 1) xs)))
    (λ h. c.counts-counts.result && row_over p h r)
    (λ h. list_any (row_over p h) (kept c.args.field c.args.scope p.1 false xs))
    c.loop-row.invariant c.by_counted.ensures c.either-set.ensures
    (λ h. kept-drop (row_over p h) c.args.field c.args.scope p.1 c.loop-row.covered c.counts-counts.result c.covers-covered.result xs i r c.loop-row-test.true c.row-item.is c.counts-counts.ensures c.covers-covered.ensures)

pub returns : goal.returns
returns c =
    let xs = c.args.rows.now in
    let p = c.args.place in
    Marks-same _ _ _ _ (λ h. kept-any (row_over p h) c.args.field c.args.scope p.1 xs)
    (Marks-left _ _ _ _ c.loop-row.invariant (λ h. ap (λ (ys : List ViewRow). list_any (row_over p h) ys) (at_drop_all (kept c.args.field c.args.scope p.1 c.loop-row.covered) xs c.loop-row.row-index c.loop-row-test.false)))
