-- Which tables the judges let stand that an operator chooses from. All of this is our own.
use Rattle.std.specs.Prelude.{ℕ, Bool, true, List, length, map, nat_le}
use Rattle.std.specs.List.{list_all}
use Rattle.of_match.specs.declared.key.Key.{Key}
use Rattle.of_action.specs.declared.action.Action.{Action}
use Rattle.flow_table.specs.declared.view.ViewRow.{ViewRow}
use Rattle.flow_table.specs.RowKeys.{shown_row}
use Rattle.flow_table.specs.View.{TableView}
use Rattle.net_guard.specs.declared.quota.ChosenJudge.{ChosenJudge}
use Rattle.net_guard.specs.declared.quota.ChosenJudge.TheVariants.{All, Quota, Guard}
use Rattle.net_guard.specs.Found.{is_free}

-- at most so many entries
abbrev pub is_within : ℕ → TableView → Bool
is_within most t = nat_le (length t.rows) most

-- each table has
abbrev pub is_within_quota : ℕ → List TableView → Bool
is_within_quota most tables = list_all (is_within most) tables

-- the one judge of the program
abbrev pub is_allowed : ChosenJudge → List TableView → Bool
is_allowed All tables = true
is_allowed (Quota quota) tables = is_within_quota quota.most tables
is_allowed (Guard guard) tables = is_free guard tables

-- ---- All that a judge looks at of a table: its switch, and the keys and actions of its rows

abbrev pub Face : Type 0
Face = ℕ × List (Key × List Action)

abbrev pub face_of : TableView → Face
face_of t = (t.dpid, map shown_row t.rows)

-- a table of which no more is told
abbrev pub row_with : Key × List Action → ViewRow
row_with r = record { key = r.0; actions = r.1; cookie = 0; idle = 0; hard = 0; flags = 0 }

abbrev pub table_with : Face → TableView
table_with f = record { dpid = f.0; rows = map row_with f.1 }
