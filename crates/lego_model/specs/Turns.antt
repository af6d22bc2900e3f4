-- What an application does at an event: its frames cut from the pieces of bytes that it gives, and why its turn ends. All of this is our
-- own choice.
use Rattle.std.specs.Prelude.{◌==◌, ℕ, zero, suc, Bool, true, false, not, ◌&&◌, List, [], ◌∷◌, ◌++◌, drop, length, Option, Some, None, Ok, Err, if◌then◌else◌}
use Rattle.app_frames.specs.declared.frame.AppFrame.{AppFrame}
use Rattle.app_frames.specs.declared.frame.AppFrame.TheVariants.{Message, Save, Keep, Undo, Done, Ready}
use Rattle.app_frames.specs.declared.frame.Answer.{Answer}
use Rattle.app_frames.specs.declared.fault.FrameFault.{FrameFault}
use Rattle.app_frames.specs.declared.cause.Cause.{Cause}
use Rattle.app_frames.specs.declared.cause.Cause.TheVariants.{Closed, Silent, Garbled, Budget, Depth, Unbalanced, Judged}
use Rattle.app_frames.specs.declared.cause.Tried.{Tried}
use Rattle.app_frames.specs.declared.cause.Tried.TheVariants as tried
use Rattle.app_frames.specs.Reading.{Reading}
use Rattle.app_frames.specs.Frames.{app_reading}
use Rattle.lego_model.specs.Journal.{End, Closes, Stalls, Untold, Reply, Start}

-- ---- What stands next

-- A whole frame, with the bytes behind it and the pieces that were not appended; a fault of the bytes; or no whole frame, and no piece
-- is left.
pub data Next : Type 0 where
  Framed : AppFrame → List ℕ → List (List ℕ) → Next
  Faulty : FrameFault → Next
  Over : Next

abbrev pub next_read : Reading (AppFrame × ℕ) → List ℕ → List (List ℕ) → Next → Next
next_read (Ok (Some x)) bytes pieces more = Framed x.0 (drop x.1 bytes) pieces
next_read (Ok None) bytes pieces more = more
next_read (Err fault) bytes pieces more = Faulty fault

-- The next piece is appended exactly where no whole frame stands at the front and its bytes are not refused.
unfoldable pub next_of : List ℕ → List (List ℕ) → Next
next_of bytes [] = next_read (app_reading bytes) bytes [] Over
next_of bytes (piece ∷ pieces) = next_read (app_reading bytes) bytes (piece ∷ pieces) (next_of (bytes ++ piece) pieces)

-- ---- How a turn ends

-- It completed, with what its last frame says and the bytes behind that, or it failed.
pub data Outcome : Type 0 where
  Completed : Bool → Option (List ℕ) → List ℕ → Outcome
  Failed : Cause → Outcome

-- Where nothing more is told, the turn is done without a word.
abbrev pub ended_by : End → Outcome
ended_by Closes = Failed Closed
ended_by Stalls = Failed Silent
ended_by Untold = Completed false None []

-- What a turn leaves: a state, the answers that could be given, and how it ended.
pub record Played (State : Type 0) : Type 0 where
  pub state : State
  pub answers : List Answer
  pub outcome : Outcome

abbrev pub over : {State : Type 0} → State → Outcome → Played State
over state outcome = record { state = state; answers = []; outcome = outcome }

abbrev pub answered : {State : Type 0} → Answer → Played State → Played State
answered answer rest = record rest { answers = answer ∷ rest.answers }

-- ---- A turn

-- What the frames of a turn are played on: how a message is answered, whether the judge allows the tables, and what an undo makes of a state
-- that was saved and of the state since.
pub record Table (State : Type 0) : Type 0 where
  pub answer : State → ℕ → List ℕ → Answer × State
  pub allows : State → Bool
  pub undo : State → State → State

abbrev pub done_by : {State : Type 0} → Bool → State → Bool → Option (List ℕ) → List ℕ → Played State
done_by true state stop checkpoint rest = over state (Completed stop checkpoint rest)
done_by false state stop checkpoint rest = over state (Failed Judged)

-- one Answer fewer can be given
abbrev pub one_fewer : Option ℕ → Option ℕ
one_fewer None = None
one_fewer (Some zero) = Some zero
one_fewer (Some (suc n)) = Some n

abbrev pub is_none_left : Option ℕ → Bool
is_none_left None = false
is_none_left (Some n) = n == 0

-- a message was played; where its Answer cannot be given the application has closed its end
abbrev pub told_to : {State : Type 0} → Bool → Answer × State → Played State → Played State
told_to true played rest = over played.1 (Failed Closed)
told_to false played rest = answered played.0 rest

-- Where as many frames as the budget were taken and none of them was the last, a further whole frame is one too many.
abbrev pub spent : {State : Type 0} → End → State → Next → Played State
spent end state (Framed frame rest pieces) = over state (Failed Budget)
spent end state (Faulty fault) = over state (Failed (Garbled fault))
spent end state Over = over state (ended_by end)

-- ---- Snapshots: Save puts the state on a stack, Undo goes back to the newest one there, Keep goes on as it is; both take that one off.

-- The three are not taken yet: a turn ends at each of them as at one that is out of place.
abbrev pub are_taken : Bool
are_taken = false

abbrev pub most_saved : ℕ
most_saved = 7

abbrev pub is_full : ℕ → Bool
is_full saved = saved == most_saved

abbrev pub is_open : ℕ → Bool
is_open saved = not (saved == 0)

-- an undo to the newest snapshot
abbrev pub back_from : {State : Type 0} → Table State → List State → State → State
back_from table [] state = state
back_from table (before ∷ saved) state = table.undo before state

-- a Save that is not taken: with as many snapshots as there may be, or since none is taken yet
abbrev pub unsaved : Bool → Cause
unsaved true = Depth
unsaved false = Unbalanced

-- The turn from a place on: how many frames it may still take, how many Answers can be given, how its bytes end, and its snapshots, newest
-- first.
unfoldable pub turn_from : {State : Type 0} → Table State → ℕ → Option ℕ → End → List State → State → Next → Played State
turn_from table zero answers end saved state next = spent end state next
turn_from table (suc left) answers end saved state (Framed (Message dpid bytes) rest pieces) =
    let played = table.answer state dpid bytes in
    told_to (is_none_left answers) played (turn_from table left (one_fewer answers) end saved played.1 (next_of rest pieces))
turn_from table (suc left) answers end saved state (Framed (Done stop checkpoint) rest pieces) =
    if is_open (length saved) then over state (Failed Unbalanced) else done_by (table.allows state) state stop checkpoint rest
turn_from table (suc left) answers end saved state (Framed Save rest pieces) =
    if are_taken && not (is_full (length saved)) then turn_from table left answers end (state ∷ saved) state (next_of rest pieces)
    else over state (Failed (unsaved are_taken))
turn_from table (suc left) answers end saved state (Framed Keep rest pieces) =
    if are_taken && is_open (length saved) then turn_from table left answers end (drop 1 saved) state (next_of rest pieces) else over state (Failed Unbalanced)
turn_from table (suc left) answers end saved state (Framed Undo rest pieces) =
    if are_taken && is_open (length saved) then turn_from table left answers end (drop 1 saved) (back_from table saved state) (next_of rest pieces)
    else over state (Failed Unbalanced)
turn_from table (suc left) answers end saved state (Framed Ready rest pieces) = over state (Failed Unbalanced)
turn_from table (suc left) answers end saved state (Faulty fault) = over state (Failed (Garbled fault))
turn_from table (suc left) answers end saved state Over = over state (ended_by end)

-- the whole turn, which begins with the bytes that are left of what was taken before
unfoldable pub turn_of : {State : Type 0} → Table State → ℕ → List ℕ → Reply → State → Played State
turn_of table budget rest reply state =
    if reply.given then turn_from table budget reply.answers reply.end [] state (next_of rest reply.pieces)
    else over state (Failed Closed)

-- ---- A start

-- how an attempt ended, and the bytes behind the frame Ready
abbrev pub first_frame : End → Next → Tried × List ℕ
first_frame end (Framed Ready rest pieces) = (tried.Ready, rest)
first_frame end (Framed frame rest pieces) = (tried.Garbled, [])
first_frame end (Faulty fault) = (tried.Garbled, [])
first_frame Closes Over = (tried.Closed, [])
first_frame Stalls Over = (tried.Silent, [])
first_frame Untold Over = (tried.Ready, [])

abbrev pub after_restore : Bool → Start → Tried × List ℕ
after_restore true start = first_frame start.end (next_of [] start.pieces)
after_restore false start = (tried.Closed, [])

abbrev pub start_outcome : Bool → Start → Tried × List ℕ
start_outcome true start = after_restore start.restored start
start_outcome false start = (tried.Refused, [])

-- Refused where it does not stand; closed where Restore could not be given, or its end was closed before a whole first frame; silent;
-- garbled where its bytes are refused or its first frame is not Ready; else ready.
unfoldable pub outcome_of : Start → Tried × List ℕ
outcome_of start = start_outcome start.stands start
