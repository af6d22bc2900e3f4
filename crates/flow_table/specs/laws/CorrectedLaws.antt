-- What is shown of a table has its keys, actions and serials; so it is in key order too, and is looked up key by key.
use Rattle.std.specs.Prelude.{◌≡◌, List, Option, Some, None, refl}
use Rattle.of_match.specs.declared.key.Key.{Key}
use Rattle.of_action.specs.declared.action.Action.{Action}
use Rattle.flow_table.specs.declared.entry.Entry.{Entry}
use Rattle.flow_table.specs.declared.lost.Lost.{Lost}
use Rattle.flow_table.specs.declared.view.ViewRow.{ViewRow}
use Rattle.flow_table.specs.Corrected.{row_at, lost_at, asked_flags, with_lost, shown_entry}

-- ---- One entry

key-with_lost : (lost : Option Lost) (e : Entry) → (with_lost lost e).key ≡ e.key
key-with_lost None e = refl
key-with_lost (Some l) e = refl

actions-with_lost : (lost : Option Lost) (e : Entry) → (with_lost lost e).actions ≡ e.actions
actions-with_lost None e = refl
actions-with_lost (Some l) e = refl

acted-with_lost : (lost : Option Lost) (e : Entry) (actions : List Action) → with_lost lost (record e { actions = actions }) ≡ record (with_lost lost e) { actions = actions }
acted-with_lost None e actions = refl
acted-with_lost (Some l) e actions = refl

serial-with_lost : (lost : Option Lost) (e : Entry) → (with_lost lost e).serial ≡ e.serial
serial-with_lost None e = refl
serial-with_lost (Some l) e = refl

pub key-shown_entry : (rows : List ViewRow) (lost : List (Key × Lost)) (e : Entry) → (shown_entry rows lost e).key ≡ e.key
unfolding shown_entry
key-shown_entry rows lost e = key-with_lost (lost_at e.key lost) (record e { flags = asked_flags (row_at e.key rows) })

pub actions-shown_entry : (rows : List ViewRow) (lost : List (Key × Lost)) (e : Entry) → (shown_entry rows lost e).actions ≡ e.actions
unfolding shown_entry
actions-shown_entry rows lost e = actions-with_lost (lost_at e.key lost) (record e { flags = asked_flags (row_at e.key rows) })

-- other actions are shown as they are
pub acted-shown_entry : (rows : List ViewRow) (lost : List (Key × Lost)) (e : Entry) (actions : List Action) → shown_entry rows lost (record e { actions = actions }) ≡ record (shown_entry rows lost e) { actions = actions }
unfolding shown_entry
acted-shown_entry rows lost e actions = acted-with_lost (lost_at e.key lost) (record e { flags = asked_flags (row_at e.key rows) }) actions

pub serial-shown_entry : (rows : List ViewRow) (lost : List (Key × Lost)) (e : Entry) → (shown_entry rows lost e).serial ≡ e.serial
unfolding shown_entry
serial-shown_entry rows lost e = serial-with_lost (lost_at e.key lost) (record e { flags = asked_flags (row_at e.key rows) })

-- ---- A table
