-- The tables of the joined switches as their owner sees them, each by its switch. All of this is our own.
use Rattle.std.specs.Prelude.{◌≡◌, ◌==◌, ℕ, ◌+◌, ◌≤◌, Bool, false, List, [], ◌∷◌, Option, Some, None, if◌then◌else◌}
use Rattle.std.specs.List.{list_any}
use Rattle.std.proofs.Common.{zero, suc}
use Rattle.of_match.specs.declared.key.Key.{Key}
use Rattle.of_match.specs.Key.{key_number}
use Rattle.of_wire.specs.declared.bodies.FlowMod.{FlowMod}
use Rattle.flow_table.specs.declared.view.ViewRow.{ViewRow}
use Rattle.flow_table.specs.View.{TableView}
use Rattle.flow_table.specs.Change.{is_delete}
use Rattle.flow_table.specs.Sorted.{AreRows, with_row}
use Rattle.lego_model.specs.ViewRows.{row_in}

-- the rows of a switch, while it is joined
abbrev pub rows_at : ℕ → List TableView → Option (List ViewRow)
rows_at d [] = None
rows_at d (v ∷ vs) = if v.dpid == d then Some v.rows else rows_at d vs

-- whether a switch has a view, so that it is joined
abbrev pub is_viewed : ℕ → List TableView → Bool
is_viewed d views = list_any (λ v. v.dpid == d) views

-- a row of the switch has the key
abbrev pub has_key_in : Key → Option (List ViewRow) → Bool
has_key_in k None = false
has_key_in k (Some rows) = list_any (λ r. key_number r.key == key_number k) rows

abbrev pub is_row_at : ℕ → Key → List TableView → Bool
is_row_at d k views = has_key_in k (rows_at d views)

-- strictly ascending by switch, from a number on
abbrev pub ViewsAscend : ℕ → List TableView → Type 0
ViewsAscend least [] = Unit {0}
ViewsAscend least (v ∷ vs) = (least ≤ v.dpid) × ViewsAscend (v.dpid + 1) vs

-- the rows of each view stand in key order, each key once
abbrev pub AreInKeyOrder : List TableView → Type 0
AreInKeyOrder [] = Unit {0}
AreInKeyOrder (v ∷ vs) = AreRows v.rows × AreInKeyOrder vs

-- the views, the rows of one switch changed
abbrev pub with_rows : ℕ → (List ViewRow → List ViewRow) → List TableView → List TableView
with_rows d change [] = []
with_rows d change (v ∷ vs) = if v.dpid == d then record v { rows = change v.rows } ∷ vs else v ∷ with_rows d change vs

-- where the view of a switch stands
abbrev pub IsViewAt : ℕ → List TableView → ℕ → Type 0
IsViewAt d [] i = ⊥
IsViewAt d (v ∷ vs) zero = v.dpid ≡ d
IsViewAt d (v ∷ vs) (suc i) = ((v.dpid == d) ≡ false) × IsViewAt d vs i

-- ---- What a FLOW_MOD that touches no row leaves (OpenFlow 1.0.0, 4.6): it adds a row, unless it is a DELETE.

abbrev pub row_added : FlowMod → Option ViewRow
row_added m = if is_delete m then None else Some (row_in m)

abbrev pub with_added : Option ViewRow → List ViewRow → List ViewRow
with_added None rows = rows
with_added (Some row) rows = with_row row rows

unfoldable pub rows_after : FlowMod → List ViewRow → List ViewRow
rows_after m = with_added (row_added m)
