-- What applications are given to do, and how much of it they have done. All of this is our own choice.
use Rattle.std.specs.Prelude.{◌≡◌, ℕ, ◌+◌, ◌≤◌, ◌==◌, Bool, true, false, not, ◌&&◌, ◌||◌, List, [], ◌∷◌, map, length, take, drop, Option, Some, None, if◌then◌else◌, slice_get}
use Rattle.std.specs.List.{filter}
use Rattle.std.specs.Option.{is_some}
use Rattle.of_types.specs.declared.journal.Act.{Act}
use Rattle.of_types.specs.declared.journal.Act.TheVariants.{Started, Gave, Gone, Took, Ended}
use Rattle.of_types.specs.declared.journal.TookWhat.{TookWhat}
use Rattle.of_types.specs.declared.journal.TookWhat.TheVariants as took
use Rattle.app_frames.specs.declared.script.ScriptStep.{ScriptStep}
use Rattle.app_frames.specs.declared.script.ScriptStep.TheVariants.{Bytes, Closed, Silent}
use Rattle.app_frames.specs.declared.script.StartScript.{StartScript}
use Rattle.app_frames.specs.declared.script.StartScript.TheVariants as start
use Rattle.outside.specs.declared.call.CallKind.TheVariants as kinds
use Rattle.outside.specs.declared.call.FailCall.{FailCall}
use Rattle.outside.specs.declared.step.WorldStep.{WorldStep}
use Rattle.outside.specs.declared.step.WorldStep.TheVariants.{Acted, TookInto}
use Rattle.outside.specs.State.{event_number}
use Rattle.sim_world.specs.Told.{is_told}
use Rattle.app_frames.specs.Spelling.{garbled_bytes}

-- ---- What was given

-- the lines of all applications in the order given, each with the application's index
pub record Scripts : Type 0 where
  pub starts : List (ℕ × StartScript)
  pub replies : List (ℕ × List ScriptStep)

-- the lines of one application, in order
unfoldable pub lines_of : {A : Type 0} → ℕ → List (ℕ × A) → List A
lines_of app lines = map (λ line. line.1) (filter (λ line. line.0 == app) lines)

abbrev pub starts_of : ℕ → Scripts → List StartScript
starts_of app own = lines_of app own.starts

abbrev pub replies_of : ℕ → Scripts → List (List ScriptStep)
replies_of app own = lines_of app own.replies

-- ---- What is given where nothing says more

-- the frame Ready
unfoldable pub ready_bytes : List ℕ
ready_bytes = 0 ∷ 0 ∷ 0 ∷ 1 ∷ 6 ∷ []

-- the frame Done, without stop and checkpoint
unfoldable pub done_bytes : List ℕ
done_bytes = 0 ∷ 0 ∷ 0 ∷ 3 ∷ 5 ∷ 0 ∷ 0 ∷ []

-- a start for which there is no line any more ends ready
abbrev pub start_or_ready : Option StartScript → StartScript
start_or_ready None = start.Ready
start_or_ready (Some s) = s

-- a turn for which there is no line any more is done at once
abbrev pub plain_turn : List ScriptStep
plain_turn = Bytes done_bytes ∷ []

abbrev pub turn_or_plain : Option (List ScriptStep) → List ScriptStep
turn_or_plain None = plain_turn
turn_or_plain (Some steps) = steps

-- what an application that was started gives before its first turn
unfoldable pub steps_of_start : StartScript → List ScriptStep
steps_of_start start.Ready = Bytes ready_bytes ∷ []
steps_of_start start.Refused = []
steps_of_start start.Closed = Closed ∷ []
steps_of_start start.Silent = Silent ∷ []
steps_of_start start.Garbled = Bytes garbled_bytes ∷ []

-- the scripts of what is given where no line says it
pub record AreFixed (nothing ready closed silent garbled plain : List ScriptStep) : Type 0 where
  pub is_nothing : nothing ≡ []
  pub is_ready : ready ≡ Bytes ready_bytes ∷ []
  pub is_closed : closed ≡ Closed ∷ []
  pub is_silent : silent ≡ Silent ∷ []
  pub is_garbled : garbled ≡ Bytes garbled_bytes ∷ []
  pub is_plain : plain ≡ plain_turn

abbrev pub is_refused : StartScript → Bool
is_refused start.Refused = true
is_refused other = false

-- ---- The life of one application

-- Whether it was started and not ended; how many of its lines were taken, a plain one taken where none was left among them; how many
-- calls of each kind there were, those out of place and those that failed among them; what it still gives in this start or turn.
pub record Life : Type 0 where
  pub running : Bool
  pub starts : ℕ
  pub replies : ℕ
  pub start_calls : ℕ
  pub give_calls : ℕ
  pub take_calls : ℕ
  pub left : List ScriptStep

unfoldable pub fresh : Life
fresh = record { running = false; starts = 0; replies = 0; start_calls = 0; give_calls = 0; take_calls = 0; left = [] }

-- how its next start ends, and what it gives in its next turn
unfoldable pub next_start : Scripts → ℕ → Life → StartScript
next_start own app l = start_or_ready (slice_get (starts_of app own) l.starts)

unfoldable pub next_turn : Scripts → ℕ → Life → List ScriptStep
next_turn own app l = turn_or_plain (slice_get (replies_of app own) l.replies)

-- ---- What a call answers

-- its next call of the kind is told to fail
abbrev pub start_told : List FailCall → ℕ → Life → Bool
start_told fails app l = is_told kinds.Start app (l.start_calls + 1) fails

abbrev pub give_told : List FailCall → ℕ → Life → Bool
give_told fails app l = is_told kinds.Give app (l.give_calls + 1) fails

abbrev pub closed_told : List FailCall → ℕ → Life → Bool
closed_told fails app l = is_told kinds.TakeClosed app (l.take_calls + 1) fails

abbrev pub silent_told : List FailCall → ℕ → Life → Bool
silent_told fails app l = is_told kinds.TakeSilent app (l.take_calls + 1) fails

-- its next start comes to its line: it is in place and not told to fail
abbrev pub start_reached : List FailCall → ℕ → Life → Bool
start_reached fails app l = not l.running && not (start_told fails app l)

unfoldable pub will_start : Scripts → List FailCall → ℕ → Life → Bool
will_start own fails app l = start_reached fails app l && not (is_refused (next_start own app l))

unfoldable pub will_give : List FailCall → ℕ → Life → Bool
will_give fails app l = l.running && not (give_told fails app l)

-- steps of no bytes are passed over
abbrev pub passed : List ScriptStep → List ScriptStep
passed [] = []
passed (Bytes [] ∷ steps) = passed steps
passed (Bytes (b ∷ bs) ∷ steps) = Bytes (b ∷ bs) ∷ steps
passed (Closed ∷ steps) = Closed ∷ steps
passed (Silent ∷ steps) = Silent ∷ steps

-- what the first step gives to so much room
abbrev pub first_given : ℕ → List ScriptStep → TookWhat
first_given room [] = took.Closed
first_given room (Bytes bytes ∷ steps) = took.Bytes (take room bytes)
first_given room (Closed ∷ steps) = took.Closed
first_given room (Silent ∷ steps) = took.Silent

unfoldable pub given_of : ℕ → List ScriptStep → TookWhat
given_of room steps = first_given room (passed steps)

-- What a take answers that does not come to what is left: Closed where it is out of place, and what it is told to fail with.
unfoldable pub take_fault : List FailCall → ℕ → Life → Option TookWhat
take_fault fails app l =
    if not l.running || closed_told fails app l then Some took.Closed else
    if silent_told fails app l then Some took.Silent else None

abbrev pub fault_or : TookWhat → Option TookWhat → TookWhat
fault_or what None = what
fault_or what (Some fault) = fault

unfoldable pub next_taken : List FailCall → ℕ → ℕ → Life → TookWhat
next_taken fails app room l = fault_or (given_of room l.left) (take_fault fails app l)

-- ---- What a step makes of a life

-- A start that succeeded begins with what such a start gives. One that failed takes its line only where it came to it.
unfoldable pub after_start : Scripts → List FailCall → ℕ → Bool → Life → Life
after_start own fails app true l = record l {
  running = true;
  starts = l.starts + 1;
  start_calls = l.start_calls + 1;
  left = steps_of_start (next_start own app l);
}
after_start own fails app false l = record l {
  starts = if start_reached fails app l && is_refused (next_start own app l) then l.starts + 1 else l.starts;
  start_calls = l.start_calls + 1;
}

-- An event begins a turn, and what was left of the one before it is dropped.
unfoldable pub after_gave : Scripts → ℕ → Bool → Life → Life
after_gave own app true l = record l { replies = l.replies + 1; give_calls = l.give_calls + 1; left = next_turn own app l }
after_gave own app false l = record l { give_calls = l.give_calls + 1 }

unfoldable pub after_gone : Life → Life
after_gone l = record l { give_calls = l.give_calls + 1 }

-- what is left of the first step where so many bytes of it were taken
abbrev pub first_taken : ℕ → List ScriptStep → List ScriptStep
first_taken n [] = []
first_taken n (Bytes bytes ∷ steps) = Bytes (drop n bytes) ∷ steps
first_taken n (Closed ∷ steps) = steps
first_taken n (Silent ∷ steps) = steps

unfoldable pub left_of : ℕ → List ScriptStep → List ScriptStep
left_of n steps = first_taken n (passed steps)

abbrev pub taken_bytes : TookWhat → List ℕ
taken_bytes (took.Bytes bytes) = bytes
taken_bytes other = []

abbrev pub left_unless : List ScriptStep → Option TookWhat → List ScriptStep → List ScriptStep
left_unless left None rest = rest
left_unless left (Some fault) rest = left

-- A take that does not come to what is left leaves it.
unfoldable pub after_take : List FailCall → ℕ → TookWhat → Life → Life
after_take fails app what l = record l {
  take_calls = l.take_calls + 1;
  left = left_unless l.left (take_fault fails app l) (left_of (length (taken_bytes what)) l.left);
}

unfoldable pub after_end : Life → Life
after_end l = record l { running = false; left = [] }

abbrev pub life_after_act : Scripts → List FailCall → ℕ → Act → Life → Life
life_after_act own fails app (Started a ok) l = if a == app then after_start own fails app ok l else l
life_after_act own fails app (Gave a bytes) l = if a == app then after_gave own app (is_some (event_number bytes)) l else l
life_after_act own fails app (Gone a bytes) l = if a == app then after_gone l else l
life_after_act own fails app (Ended a) l = if a == app then after_end l else l
life_after_act own fails app other l = l

-- what a step of the history makes of the life of one application
unfoldable pub life_after : Scripts → List FailCall → ℕ → WorldStep → Life → Life
life_after own fails app (Acted act) l = life_after_act own fails app act l
life_after own fails app (TookInto a what room) l = if a == app then after_take fails app what l else l
life_after own fails app other l = l

-- what a history makes of it
abbrev pub life_through : Scripts → List FailCall → ℕ → List WorldStep → Life → Life
life_through own fails app [] l = l
life_through own fails app (step ∷ steps) l = life_through own fails app steps (life_after own fails app step l)

-- what it makes of all of them
abbrev pub lives_through : Scripts → List FailCall → List WorldStep → (ℕ → Life) → ℕ → Life
lives_through own fails steps lives app = life_through own fails app steps (lives app)

-- there were at most so many calls of each kind
pub record FewCalls (n : ℕ) (l : Life) : Type 0 where
  pub starts : l.start_calls ≤ n
  pub gives : l.give_calls ≤ n
  pub takes : l.take_calls ≤ n

-- ---- A history that keeps to the scripts

abbrev pub IsScriptedAct : Scripts → List FailCall → Act → (ℕ → Life) → Type 0
IsScriptedAct own fails (Started app ok) lives = ok ≡ will_start own fails app (lives app)
IsScriptedAct own fails (Gave app bytes) lives = will_give fails app (lives app) ≡ true
IsScriptedAct own fails (Gone app bytes) lives = will_give fails app (lives app) ≡ false
IsScriptedAct own fails (Took app what) lives = ⊥
IsScriptedAct own fails (Ended app) lives = (lives app).running ≡ true
IsScriptedAct own fails other lives = Unit {0}

-- A step of an application is what its life says. What was taken stands with the room that there was for it.
unfoldable pub IsScripted : Scripts → List FailCall → WorldStep → (ℕ → Life) → Type 0
IsScripted own fails (Acted act) lives = IsScriptedAct own fails act lives
IsScripted own fails (TookInto app what room) lives = what ≡ next_taken fails app room (lives app)
IsScripted own fails other lives = Unit {0}

abbrev pub lives_after : Scripts → List FailCall → WorldStep → (ℕ → Life) → ℕ → Life
lives_after own fails step lives app = life_after own fails app step (lives app)

abbrev pub AreScripted : Scripts → List FailCall → List WorldStep → (ℕ → Life) → Type 0
AreScripted own fails [] lives = Unit {0}
AreScripted own fails (step ∷ steps) lives = IsScripted own fails step lives × AreScripted own fails steps (lives_after own fails step lives)

abbrev pub all_fresh : ℕ → Life
all_fresh app = fresh

-- each step of the history is the one that the scripts say
unfoldable pub KeepsScripts : Scripts → List FailCall → List WorldStep → Type 0
KeepsScripts own fails history = AreScripted own fails history all_fresh
