-- The tables of the switches that are joined, as the owners of their entries see them, and what a change, a notice and an undo make of them
-- (OpenFlow 1.0.0, 4.6 Flow Table Modification Messages, 5.3.3 Modify State Messages and 5.4.2 Flow Removed Message). That the tables are kept
-- is our own choice.
use Rattle.std.specs.Prelude.{◌≡◌, ◌≢◌, ◌==◌, ℕ, Bool, List, Option, is_some, if◌then◌else◌}
use Rattle.std.specs.Option.{option_map}
use Rattle.of_wire.specs.declared.bodies.FlowMod.{FlowMod}
use Rattle.flow_table.specs.declared.view.ViewRow.{ViewRow}
use Rattle.flow_table.specs.Sorted.{with_row}
use Rattle.flow_table.specs.Change.{is_delete}
use Rattle.lego_model.specs.ViewRows.{row_in}

-- of each switch its rows in key order, while it is joined
abbrev pub Tables : Type 0
Tables = ℕ → Option (List ViewRow)

abbrev pub is_in : ℕ → Tables → Bool
is_in d tables = is_some (tables d)

abbrev pub SameTables : Tables → Tables → Type 0
SameTables from to = (d : ℕ) → to d ≡ from d

-- the same but for one switch
abbrev pub SameBut : ℕ → Tables → Tables → Type 0
SameBut d from to = (e : ℕ) → e ≢ d → to e ≡ from e

-- the rows of one switch are changed
abbrev pub with_table : ℕ → (List ViewRow → List ViewRow) → Tables → Tables
with_table d change tables = λ e. if e == d then option_map change (tables e) else tables e

-- ---- A change

-- One that meets no entry adds its row, unless it is a DELETE. No other one is sent.
abbrev pub rows_with : FlowMod → List ViewRow → List ViewRow
rows_with m rows = if is_delete m then rows else with_row (row_in m) rows

-- ---- A notice
