-- The rows of one switch, as a controller keeps them: without those of some keys, whose owners are told, and the row that a FLOW_MOD asks for
-- (OpenFlow 1.0.0, 5.3.3 Modify State Messages, and 5.4.2 Flow Removed Message).
use Rattle.std.specs.Prelude.{◌==◌, ◌%◌, Bool, false, ◌&&◌, List, [], ◌∷◌, Option, Some, None}
use Rattle.std.specs.List.{list_any}
use Rattle.of_match.specs.declared.key.Key.{Key}
use Rattle.of_match.specs.Key.{key_number}
use Rattle.of_wire.specs.declared.bodies.FlowMod.{FlowMod}
use Rattle.flow_table.specs.declared.view.ViewRow.{ViewRow}
use Rattle.flow_table.specs.Change.{asks_notice, key_in}
use Rattle.flow_table.specs.Sorted.{row_place, without_key}

abbrev pub rows_without : List Key → List ViewRow → List ViewRow
rows_without [] rows = rows
rows_without (k ∷ ks) rows = rows_without ks (without_key k rows)

-- the owner of the entry with this key asked for a notice when it goes (SEND_FLOW_REM)
abbrev pub is_asked : Key → Option (List ViewRow) → Bool
is_asked k None = false
is_asked k (Some rows) = list_any (λ r. row_place r == key_number k && asks_notice r.flags) rows

-- the row that a FLOW_MOD asks for: of its flags SEND_FLOW_REM counts alone
abbrev pub row_in : FlowMod → ViewRow
row_in m = record { key = key_in m; actions = m.actions; cookie = m.cookie; idle = m.idle; hard = m.hard; flags = m.flags % 2 }
