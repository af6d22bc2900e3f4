-- A session as what a simulated world is given. All of this is our own choice.
use Rattle.std.specs.Prelude.{◌≡◌, ℕ, true, List, [], ◌∷◌, ◌++◌, map, Result, Ok, Err}
use Rattle.app_frames.specs.declared.script.StartScript.{StartScript}
use Rattle.flow_table.specs.Switch.{Declared}
use Rattle.outside.specs.declared.call.CallKind.TheVariants as kinds
use Rattle.outside.specs.declared.call.FailCall.{FailCall}
use Rattle.outside.specs.Seen.{Given}
use Rattle.sim_world.specs.Scripts.{Scripts}
use Rattle.sim_world.specs.World.{WorldData, seen_of}
use Rattle.sim_world.specs.Building.{insert_declared, Begins}
use Rattle.lego_model.specs.declared.session.SessionFault.{SessionFault}
use Rattle.lego_model.specs.SessionLines.{SessionValue}
use Rattle.session_text.specs.declared.text_fault.SessionError.{SessionError}
use Rattle.session_text.specs.declared.text_fault.SessionError.TheVariants as text

-- a switch of a session
abbrev pub declared_of : ℕ × ℕ × List ℕ → Declared
declared_of d = record { dpid = d.0; cap = d.1; ports = d.2 }

-- switches of a session, each put by number among those before it
abbrev pub declared_with : List Declared → List (ℕ × ℕ × List ℕ) → List Declared
declared_with declared [] = declared
declared_with declared (d ∷ ds) = declared_with (insert_declared (declared_of d) declared) ds

-- a call of a switch's link that is to fail
abbrev pub fail_of : ℕ × ℕ → FailCall
fail_of fault = record { kind = kinds.Link; of = fault.0; number = fault.1 }

-- what a world is given where it is given a session
unfoldable pub given_by : SessionValue → Given Scripts
given_by s = record {
  declared = declared_with [] s.switches;
  stimuli = s.stimuli;
  fails = map fail_of s.faults;
  own = record { starts = s.starts; replies = s.replies };
  shows = true;
}

-- ---- Parts of a session, behind what was given before

abbrev pub with_switches : List (ℕ × ℕ × List ℕ) → Given Scripts → Given Scripts
with_switches ds given = record given { declared = declared_with given.declared ds }

abbrev pub with_faults : List (ℕ × ℕ) → Given Scripts → Given Scripts
with_faults faults given = record given { fails = given.fails ++ map fail_of faults }

abbrev pub with_starts : List (ℕ × StartScript) → Given Scripts → Given Scripts
with_starts starts given = record given { own = record given.own { starts = given.own.starts ++ starts } }

-- ---- A text that is loaded

-- What was read is the session that the world was given, or its first fault, where the world was given nothing. Want of memory says
-- nothing of the text.
abbrev pub LoadFails : SessionError → WorldData → WorldData → Result SessionValue SessionFault → Type 0
LoadFails text.NoMemory old new read = Unit {0}
LoadFails (text.Bad fault) old new read = (read ≡ Err fault) × (new ≡ old)

abbrev pub Loads : {T : Type 0} → Result T SessionError → WorldData → WorldData → Result SessionValue SessionFault → Type 0
Loads (Ok x) old new read = (s : SessionValue) × (read ≡ Ok s) × Begins (given_by s) (seen_of new)
Loads (Err fault) old new read = LoadFails fault old new read
