-- A switch's table as its engine shows it. An entry that is put back by an ADD has lost its age and counters, and the engine asks
-- for notices that the application did not ask for; what is shown has what was lost and what was asked. This is our own.
use Rattle.std.specs.Prelude.{◌≡◌, ◌≢◌, List, map}
use Rattle.of_match.specs.declared.key.Key.{Key}
use Rattle.of_match.specs.Key.{key_number}
use Rattle.of_action.specs.declared.action.Action.{Action}
use Rattle.of_wire.specs.declared.bodies.FlowMod.{FlowMod}
use Rattle.flow_table.specs.declared.entry.Entry.{Entry}
use Rattle.flow_table.specs.Table.{TableState, place_of}
use Rattle.flow_table.specs.Change.{checks_overlap}
use Rattle.undo_laws.specs.Log.{with_actions}

-- what is shown of an entry: its key, actions and serial are its own
pub record IsCorrection (shown : Entry → Entry) : Type 0 where
  pub key : (e : Entry) → (shown e).key ≡ e.key
  pub actions : (e : Entry) → (shown e).actions ≡ e.actions
  pub acted : (e : Entry) (actions : List Action) → shown (with_actions actions e) ≡ with_actions actions (shown e)
  pub serial : (e : Entry) → (shown e).serial ≡ e.serial

-- two corrections show the same of each entry but those of a key
abbrev pub AgreeBut : Key → (Entry → Entry) → (Entry → Entry) → Type 0
AgreeBut k before after = (e : Entry) → place_of e ≢ key_number k → after e ≡ before e

-- the table as it is shown
abbrev pub corrected : (Entry → Entry) → TableState → TableState
corrected shown t = record t { entries = map shown t.entries }

-- A message that asks for the same change: buffer, cookie, timeouts and flags are free, but for CHECK_OVERLAP.
pub record AsksTheSame (sent m : FlowMod) : Type 0 where
  pub command : sent.command ≡ m.command
  pub matching : sent.matching ≡ m.matching
  pub priority : sent.priority ≡ m.priority
  pub out_port : sent.out_port ≡ m.out_port
  pub actions : sent.actions ≡ m.actions
  pub checks : checks_overlap sent.flags ≡ checks_overlap m.flags
