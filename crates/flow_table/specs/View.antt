-- The table of one switch as applications see it: its rows, whatever room their list has for more. All of this is our own.
use Rattle.std.specs.Prelude.{ℕ, List, map}
use Rattle.flow_table.specs.declared.view.ViewRow.{ViewRow}
use Rattle.flow_table.specs.declared.view.TableView.{TableView as Lent}

pub record TableView : Type 0 where
  pub dpid : ℕ
  pub rows : List ViewRow

-- what a table that is lent shows
abbrev pub plain : Lent → TableView
plain v = record { dpid = v.dpid; rows = v.rows.rows }

abbrev pub plains : List Lent → List TableView
plains vs = map plain vs
