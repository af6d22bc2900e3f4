-- The switches of a world as the owners of their entries see them: what the reference controller has in their places. How an entry is shown is a
-- matter of what the host keeps of its key; laws speak of any correction that goes along with the switch. All of this is our own.
use Rattle.std.specs.Prelude.{◌≡◌, ◌==◌, ℕ, Bool, false, List, [], ◌∷◌, map, Option, Some, None, if◌then◌else◌}
use Rattle.std.specs.Option.{option_map}
use Rattle.of_match.specs.declared.key.Key.{Key}
use Rattle.of_match.specs.Key.{key_number}
use Rattle.of_wire.specs.declared.bodies.FlowMod.{FlowMod as Change}
use Rattle.flow_table.specs.declared.entry.Entry.{Entry}
use Rattle.flow_table.specs.declared.view.ViewRow.{ViewRow}
use Rattle.flow_table.specs.View.{TableView}
use Rattle.flow_table.specs.Table.{IsTable}
use Rattle.flow_table.specs.Corrected.{shown_entry}
use Rattle.flow_table.specs.Switch.{Declared, SwitchState}
use Rattle.undo_laws.specs.CorrectedSwitch.{corrected_switch}
use Rattle.outside.specs.Seen.{is_declared}
use Rattle.outside.specs.State.{State, switch_of}
use Rattle.lego_model.specs.Answers.{Rows, flow_mod_refused, would_touch, rows_of_table}
use Rattle.lego_model.specs.Places.{Place}
use Rattle.net_txn.specs.Net.{NetState}
use Rattle.net_txn.specs.Views.{rows_at, rows_after}
use Rattle.std.specs.List.{list_any}

-- the flags with which the owner of a key's entry asked for it, or 0 where there is none
abbrev pub flags_in : List ViewRow → Key → ℕ
flags_in [] k = 0
flags_in (r ∷ rs) k = if key_number r.key == key_number k then r.flags else flags_in rs k

abbrev pub rows_or_none : Option (List ViewRow) → List ViewRow
rows_or_none None = []
rows_or_none (Some rows) = rows

-- an entry as its owner sees it, by the rows of its switch. It has the owner's flags; today no entry is put back that was there before, so that
-- none has lost anything.
abbrev pub correction_in : List ViewRow → Entry → Entry
correction_in rows = shown_entry rows []

-- of each switch, by the views
abbrev pub corrections : List TableView → ℕ → Entry → Entry
corrections views d = correction_in (rows_or_none (rows_at d views))

-- by all that the host keeps
abbrev pub shown_by : NetState → ℕ → Entry → Entry
shown_by net = corrections net.views

-- a switch of a world, while it is joined, as it is shown
abbrev pub shown_switch : (ℕ → Entry → Entry) → State → ℕ → Option SwitchState
shown_switch shown s d = option_map (corrected_switch (shown d)) (switch_of d s)

-- declared switches that stand so
abbrev pub places : (ℕ → Option SwitchState) → List Declared → List Place
places f ds = map (λ d. record { declared = d; switch = f d.dpid }) ds

unfoldable pub shown_places : List Declared → (ℕ → Entry → Entry) → State → List Place
shown_places ds shown s = places (shown_switch shown s) ds

-- ---- A change that the host lets pass

-- nothing stands against it beside the table, and it touches no row
pub record Passes (m : Change) (rows : Rows) : Type 0 where
  pub unrefused : flow_mod_refused m ≡ None
  pub untouched : would_touch m rows ≡ false

-- an entry as its owner sees it after a change that was not refused
abbrev pub correction_after : Change → List ViewRow → Entry → Entry
correction_after m rows = correction_in (rows_after m rows)

-- ---- What stands, of a world that keeps its word

-- a switch that is joined is declared, and its table is in key order
pub record Stand (declared : List Declared) (s : State) : Type 0 where
  pub undeclared : (d : ℕ) → is_declared d declared ≡ false → switch_of d s ≡ None
  pub table : (d : ℕ) (x : SwitchState) → switch_of d s ≡ Some x → IsTable x.table.entries

-- no row has the key
abbrev pub has_row : Key → List ViewRow → Bool
has_row k rows = list_any (λ r. key_number r.key == key_number k) rows

-- what is known of the switch before
pub record Known (d : ℕ) (m : Change) (views : List TableView) (s : State) : Type 0 where
  pub switch : SwitchState
  pub rows : List ViewRow
  pub switch_is : switch_of d s ≡ Some switch
  pub rows_are : rows_at d views ≡ Some rows
  pub passes : Passes m (rows_of_table switch.table.entries)
