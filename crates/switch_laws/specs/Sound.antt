-- Entries as the engine lets them stand: a notice of each is asked for, and the notice and the row of its statistics can be written, since
-- its numbers fit their fields and its actions have a spelling that is not too long (OpenFlow 1.0.0, 5.4.2 Flow Removed Message and 5.3.5
-- Read State Messages: Individual Flow Statistics).
use Rattle.std.specs.Prelude.{◌≡◌, ℕ, ◌^◌, ◌<◌, ◌≤◌, true, List, Some}
use Rattle.std.specs.List.{AllByRecursion}
use Rattle.of_action.specs.Spelling.{list_size, AreActions}
use Rattle.flow_table.specs.declared.entry.Entry.{Entry}
use Rattle.flow_table.specs.Change.{asks_notice}
use Rattle.flow_table.specs.Refusals.{most_action_bytes}
use Rattle.flow_table.specs.Switch.{SwitchState}
use Rattle.outside.specs.State.{State, switch_of}

pub record SoundEntry (e : Entry) : Type 0 where
  pub asks : asks_notice e.flags ≡ true
  pub priority : e.key.priority < 2 ^ 16
  pub cookie : e.cookie < 2 ^ 64
  pub idle : e.idle < 2 ^ 16
  pub hard : e.hard < 2 ^ 16
  pub packets : e.packets < 2 ^ 64
  pub bytes : e.bytes < 2 ^ 64
  pub actions : AreActions e.actions
  pub size : list_size e.actions ≤ most_action_bytes

abbrev pub AllSound : List Entry → Type 0
AllSound es = AllByRecursion SoundEntry es

-- so stand the entries of each joined switch
pub record Sound (s : State) : Type 0 where
  pub entries : (d : ℕ) (x : SwitchState) → switch_of d s ≡ Some x → AllSound x.table.entries
