-- The keys and the actions of entries, rows and notices.
use Rattle.std.specs.Prelude.{ℕ, ◌+◌, ◌≤◌, List, [], ◌∷◌}
use Rattle.of_match.specs.declared.key.Key.{Key}
use Rattle.of_match.specs.Key.{key_number}
use Rattle.of_action.specs.declared.action.Action.{Action}
use Rattle.of_wire.specs.declared.bodies.FlowRemoved.{FlowRemoved}
use Rattle.flow_table.specs.declared.entry.Entry.{Entry}
use Rattle.flow_table.specs.declared.view.ViewRow.{ViewRow}

-- the key of the entry that a notice tells of
abbrev pub key_removed : FlowRemoved → Key
key_removed f = record { priority = f.priority; matching = f.matching }

abbrev pub shown_row : ViewRow → Key × List Action
shown_row r = (r.key, r.actions)

abbrev pub held_entry : Entry → Key × List Action
held_entry e = (e.key, e.actions)

-- actions in the order of their keys, the first of which is at a place or behind it
abbrev pub RowsAscend : ℕ → List (Key × List Action) → Type 0
RowsAscend least [] = Unit {0}
RowsAscend least (r ∷ rows) = (least ≤ key_number r.0) × RowsAscend (key_number r.0 + 1) rows
