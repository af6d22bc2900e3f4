-- Views stay in the order of their switches: when one joins, leaves, or changes.
use Rattle.std.specs.Prelude.{◌≡◌, ◌==◌, ℕ, ◌+◌, ◌≤◌, Bool, true, false, not, List, [], ◌∷◌, filter, Option, Some, None, nat_lt, if◌then◌else◌, refl}
use Rattle.std.proofs.Common.{inl, inr, arith}
use Rattle.std.proofs.lemmas.Bool.{cases_Bool, eqb-false, ltb-true, ltb-false}
use Rattle.flow_table.specs.declared.view.ViewRow.{ViewRow}
use Rattle.flow_table.specs.View.{TableView}
use Rattle.net_txn.specs.Views.{rows_at, with_rows, ViewsAscend}
use Rattle.net_txn.specs.Joining.{with_view}

lower : (low least : ℕ) (vs : List TableView) → low ≤ least → ViewsAscend least vs → ViewsAscend low vs
lower low least [] le is = tt
lower low least (v ∷ vs) le is = (omega (arith, is.0, le), is.1)

rows_if : (here : Bool) (d least : ℕ) (change : List ViewRow → List ViewRow) (v : TableView) (vs : List TableView) → ViewsAscend least (v ∷ vs) → ViewsAscend (v.dpid + 1) (with_rows d change vs)
    → ViewsAscend least (if here then record v { rows = change v.rows } ∷ vs else v ∷ with_rows d change vs)
rows_if true d least change v vs is rest = is
rows_if false d least change v vs is rest = (is.0, rest)

pub with_rows-ascends : (d least : ℕ) (change : List ViewRow → List ViewRow) (vs : List TableView) → ViewsAscend least vs → ViewsAscend least (with_rows d change vs)
with_rows-ascends d least change [] is = tt
with_rows-ascends d least change (v ∷ vs) is = rows_if (v.dpid == d) d least change v vs is (with_rows-ascends d (v.dpid + 1) change vs is.1)

filter_if : (kept : Bool) (d least : ℕ) (v : TableView) (vs : List TableView) → ViewsAscend least (v ∷ vs) → ViewsAscend (v.dpid + 1) (filter (λ w. not (w.dpid == d)) vs)
    → ViewsAscend least (if kept then v ∷ filter (λ w. not (w.dpid == d)) vs else filter (λ w. not (w.dpid == d)) vs)
filter_if true d least v vs is rest = (is.0, rest)
filter_if false d least v vs is rest = lower least (v.dpid + 1) (filter (λ w. not (w.dpid == d)) vs) (omega (arith, is.0)) rest

pub left-ascends : (d least : ℕ) (vs : List TableView) → ViewsAscend least vs → ViewsAscend least (filter (λ v. not (v.dpid == d)) vs)
left-ascends d least [] is = tt
left-ascends d least (v ∷ vs) is = filter_if (not (v.dpid == d)) d least v vs is (left-ascends d (v.dpid + 1) vs is.1)

not_here : (here : Bool) (rows : List ViewRow) (rest : Option (List ViewRow)) → (if here then Some rows else rest) ≡ None → (here ≡ false) × (rest ≡ None)
not_here true rows rest none = absurd cc
not_here false rows rest none = (refl, none)

pub with_view-ascends : (d least : ℕ) (vs : List TableView) → least ≤ d → rows_at d vs ≡ None → ViewsAscend least vs → ViewsAscend least (with_view d vs)
with_view-ascends d least [] le none is = (le, tt)
with_view-ascends d least (v ∷ vs) le none is =
    let n = not_here (v.dpid == d) v.rows (rows_at d vs) none in
    let apart = eqb-false v.dpid d n.0 in
    elim (cases_Bool (nat_lt v.dpid d)) [
      | inl below ↦ rw below (is.0, with_view-ascends d (v.dpid + 1) vs (omega (arith, ltb-true v.dpid d below)) n.1 is.1)
      | inr above ↦ rw above (le, (omega (arith, ltb-false v.dpid d above, apart), is.1))
    ]
