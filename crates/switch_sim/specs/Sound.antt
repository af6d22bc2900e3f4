-- What holds of each simulated switch of this crate, whatever reaches it.
use Rattle.std.specs.Prelude.{ℕ, ◌≤◌, ◌<◌, ◌^◌, List, length, All}
use Rattle.of_action.specs.Spelling.{list_size}
use Rattle.frame_edit.specs.Edits.{AreEdits}
use Rattle.flow_table.specs.declared.entry.Entry.{Entry}
use Rattle.flow_table.specs.Table.{last_moment}
use Rattle.flow_table.specs.Switch.{PortState, most_ports}
use Rattle.flow_table.specs.Refusals.{most_action_bytes}

-- An entry was put in and used at the moment or before it, and its actions are edits and outputs that a row of statistics can show.
pub record IsEntryAt (moment : ℕ) (e : Entry) : Type 0 where
  pub installed : e.installed ≤ moment
  pub used : e.used ≤ moment
  pub size : list_size e.actions ≤ most_action_bytes
  pub edits : AreEdits e.actions

-- a table of so many entries at most, at a moment, and ports
pub record IsSound (cap now : ℕ) (es : List Entry) (ps : List PortState) : Type 0 where
  pub moment : now ≤ last_moment
  pub entries : All (IsEntryAt now) es
  pub few : length es ≤ cap
  pub wide : cap < 2 ^ 32
  pub ports : length ps ≤ most_ports
