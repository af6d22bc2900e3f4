use Rattle.std.proofs.Common.{◌≡◌, ℕ, List, [], ap, ◌∙◌, subst, arith}
use Rattle.std.specs.List.{insert}
use Rattle.std.proofs.lemmas.List.{length-map}
use Rattle.flow_table.specs.declared.view.ViewRow.{ViewRow}
use Rattle.flow_table.specs.declared.view.TableView.{TableView as Lent}
use Rattle.flow_table.specs.ViewRows.{ViewRows}
use Rattle.flow_table.specs.View.{plain, plains}
use Rattle.flow_table.specs.laws.PlainLaws.{plains-insert}
use Rattle.net_txn.specs.Joining.{with_view, IsViewPlace}
use Rattle.net_txn.specs.laws.JoiningLaws.{with_view-place, IsViewPlace-le}
use Rattle.net_txn.proofs.joining.put_view.Goals as goal

placed : (views seen : List Lent) (d i : ℕ) (rows : ViewRows) → seen ≡ views → IsViewPlace d (plains seen) i → rows.rows ≡ [] → plains (insert views i (record { dpid = d; rows = rows })) ≡ with_view d (plains views)
placed views seen d i rows e is empty =
    plains-insert views i (record { dpid = d; rows = rows })
    ∙ ap (λ (none : List ViewRow). insert (plains views) i (record { dpid = d; rows = none })) empty
    ∙ with_view-place d (plains views) i (subst (λ (vs : List Lent). IsViewPlace d (plains vs) i) e is)

pub insert-requires : goal.insert-requires
insert-requires c = omega (arith, IsViewPlace-le c.args.dpid (plains c.deref.result.now) c.position_for-at.result c.position_for-at.ensures, length-map c.deref.result.now plain, c.deref.ensures.len)

pub returns-clause-ok : goal.returns-clause-ok
returns-clause-ok c =
    ap (λ (vs : List Lent). plains vs) c.in_ok-insert.ensures.items
    ∙ placed _ c.deref.result.now c.args.dpid c.position_for-at.result c.new.result c.deref.ensures.value c.position_for-at.ensures c.new.ensures
