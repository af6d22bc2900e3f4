-- A turn: the event is given, and each frame of the application is played in order, with the messages answered as the network answered
-- them, until it is done or fails. All of this is our own choice.
use Rattle.std.specs.Prelude.{◌≡◌, ◌==◌, ℕ, suc, ◌≤◌, Bool, true, false, ◌&&◌, List, [], ◌∷◌, length, map, Option, Some, None, if◌then◌else◌}
use Rattle.of_types.specs.declared.journal.Act.{Act}
use Rattle.flow_table.specs.View.{TableView}
use Rattle.app_frames.specs.declared.frame.AppFrame.{AppFrame}
use Rattle.app_frames.specs.declared.frame.Answer.{Answer}
use Rattle.app_frames.specs.declared.frame.Answer.TheVariants.{Unknown}
use Rattle.app_frames.specs.declared.cause.Cause.{Cause}
use Rattle.app_frames.specs.declared.cause.Cause.TheVariants as causes
use Rattle.lego_model.specs.Journal.{Untold, Reply, reply_of, pieces, end_from, answers_given, inputs, is_event, give_act}
use Rattle.lego_model.specs.Turns.{Outcome, Completed, Failed, Played, Table, next_of, turn_from, turn_of}
use Rattle.lego_model.specs.Scripted.{is_heard_from, is_heard}
use Rattle.lego_model.specs.Controller.{answer_frame, given_in}
use Rattle.outside.specs.Seen.{Seen}
use Rattle.net_txn.specs.Net.{NetState}
use Rattle.journal_laws.specs.Readings.{Within}
use Rattle.lego_model.specs.AtOnce.{Before, before, Passes, SendsNone}
use Rattle.app_visor.specs.declared.came.Came.{Came}
use Rattle.app_visor.specs.declared.came.Came.TheVariants as comes
use Rattle.app_visor.specs.declared.state.TurnEnd.{TurnEnd}
use Rattle.app_visor.specs.declared.state.TurnEnd.TheVariants as ends
use Rattle.app_visor.specs.declared.play_end.PlayEnd.{PlayEnd}
use Rattle.app_visor.specs.declared.play_end.PlayEnd.TheVariants as plays
use Rattle.checkpoint_store.specs.Past.{checkpoints}
use Rattle.checkpoint_store.specs.Slots.{Slot, with_slot, staged}
use Rattle.app_visor.specs.Reads.{IsNext}
use Rattle.app_visor.specs.Dialogues.{Converses, Speaks, is_done}
use Rattle.app_visor.specs.Beats.{Exchange, Beat, Talk, Chain, acts_in, exchanges_in}

-- ---- The oracle: messages are answered as they were

abbrev pub same_bytes : List ℕ → List ℕ → Bool
same_bytes [] [] = true
same_bytes [] (y ∷ ys) = false
same_bytes (x ∷ xs) [] = false
same_bytes (x ∷ xs) (y ∷ ys) = x == y && same_bytes xs ys

-- The answer of the next exchange, where that is of this message, and the exchanges behind it; else there is none from then on.
abbrev pub next_asked : {Own : Type 0} → ℕ → List ℕ → Option (List (Exchange Own)) → Answer × Option (List (Exchange Own))
next_asked dpid bytes None = (Unknown, None)
next_asked dpid bytes (Some []) = (Unknown, None)
next_asked dpid bytes (Some (x ∷ xs)) = if x.dpid == dpid && same_bytes x.bytes bytes then (x.answer, Some xs) else (Unknown, None)

abbrev pub Asking : Type 0 → Type 0
Asking Own = Option (List (Exchange Own))

unfoldable pub oracle : {Own : Type 0} → Bool → Table (Asking Own)
oracle judged = record { answer = λ state dpid bytes. next_asked dpid bytes state; allows = λ state. judged; undo = λ before state. state }

-- exactly these messages were asked, in this order
abbrev pub played_is : {Own : Type 0} → List Answer → Outcome → Played (Asking Own)
played_is answers outcome = record { state = Some []; answers = answers; outcome = outcome }

-- ---- How a turn ends

-- what the turn answers, with the bytes that are unread behind its last frame
abbrev pub IsEnd : TurnEnd → List ℕ → Outcome → Type 0
IsEnd (ends.Done stop) unread (Completed stops checkpoint rest) = (stop ≡ stops) × (unread ≡ rest)
IsEnd (ends.Done stop) unread (Failed cause) = ⊥
IsEnd (ends.Failed why) unread (Completed stops checkpoint rest) = ⊥
IsEnd (ends.Failed why) unread (Failed cause) = why ≡ cause

-- the checkpoint that a turn handed over: one that failed hands over none
abbrev pub handed : Outcome → Option (List ℕ)
handed (Completed stop checkpoint rest) = checkpoint
handed (Failed cause) = None

-- how its frames ended, with the bytes that are unread behind the last; a checkpoint has at most 1,048,576 bytes
abbrev pub IsShort : Option (List ℕ) → Type 0
IsShort None = Unit {0}
IsShort (Some checkpoint) = length checkpoint ≤ 1048576

abbrev pub IsPlayEnd : PlayEnd → List ℕ → Outcome → Type 0
IsPlayEnd (plays.Done stop checkpoint) unread (Completed stops handed rest) = (stop ≡ stops) × ((unread ≡ rest) × ((checkpoint ≡ handed) × IsShort checkpoint))
IsPlayEnd (plays.Done stop checkpoint) unread (Failed cause) = ⊥
IsPlayEnd (plays.Failed why) unread (Completed stops checkpoint rest) = ⊥
IsPlayEnd (plays.Failed why) unread (Failed cause) = why ≡ cause

-- what the turn answers then, and the checkpoint that it stages
abbrev pub turn_end : PlayEnd → TurnEnd
turn_end (plays.Done stop checkpoint) = ends.Done stop
turn_end (plays.Failed cause) = ends.Failed cause

abbrev pub handed_at : PlayEnd → Option (List ℕ)
handed_at (plays.Done stop checkpoint) = checkpoint
handed_at (plays.Failed cause) = None

-- nothing stays unread where it failed
abbrev pub LeavesNone : TurnEnd → List ℕ → Type 0
LeavesNone (ends.Done stop) unread = Unit {0}
LeavesNone (ends.Failed cause) unread = unread ≡ []

-- ---- The rest of a turn

-- what is played of acts and exchanges, with so many frames left and these bytes unread
abbrev pub played_by : {Own : Type 0} → Bool → ℕ → List ℕ → List Act → List (Exchange Own) → Played (Asking Own)
played_by judged left rest acts exchanges =
    turn_from (oracle judged) left (answers_given acts) (end_from Untold acts) [] (Some exchanges) (next_of rest (pieces acts))

-- whether these acts tell enough, with so many frames left and these bytes unread
abbrev pub heard_by : ℕ → List ℕ → List Act → Bool
heard_by left rest acts = is_heard_from left 0 (answers_given acts) (end_from Untold acts) (next_of rest (pieces acts))

-- The rest of a turn, behind its event: so many frames may still be taken, and these bytes are unread.
pub record TurnsFrom {Own : Type 0} (Tells : Type 0) (accepts : List TableView → Bool) (app left : ℕ) (rest : List ℕ) (old new : Seen Own) (net now_net : NetState) (end : PlayEnd) (unread : List ℕ) : Type 0 where
  pub trace : List (Beat Own)
  pub chain : Chain Tells app trace old new net now_net
  pub answers : List Answer
  pub outcome : Outcome
  pub played : played_by (accepts now_net.views) left rest (acts_in trace) (exchanges_in trace) ≡ played_is answers outcome
  pub ends : IsPlayEnd end unread outcome
  pub given : inputs app (acts_in trace) ≡ map answer_frame answers
  -- it did not end for the reason alone that no more was told
  pub heard : heard_by left rest (acts_in trace) ≡ true
  -- no act begins a turn or an attempt
  pub within : Within app (acts_in trace)
  -- where no change was sent since the frame before, this goes on with the dialogue
  pub speaks : Tells → (since : List Act) → SendsNone since → Speaks app (before rest since) old new (is_done (turn_end end)) unread

-- ---- The whole turn

abbrev pub reply_by : {Own : Type 0} → Bool → List (Beat Own) → Reply
reply_by given trace = reply_of (record { given = given; acts = acts_in trace })

-- The event is given, or cannot be; the rest of the turn is what its frames, their end and the answers that could be given say, with the
-- messages answered as they were; and what the application was given is the event and these answers.
pub record Turns {Own : Type 0} (Tells : Type 0) (accepts : List TableView → Bool) (app budget : ℕ) (rest frame : List ℕ) (old new : Seen Own) (net now_net : NetState) (end : TurnEnd) (unread : List ℕ) : Type 0 where
  pub given : Bool
  -- the beats behind the event
  pub trace : List (Beat Own)
  pub chain : Chain Tells app (Talk (give_act given app frame) ∷ trace) old new net now_net
  pub answers : List Answer
  pub outcome : Outcome
  pub played : turn_of (oracle (accepts now_net.views)) budget rest (reply_by given trace) (Some (exchanges_in trace)) ≡ played_is answers outcome
  pub ends : IsEnd end unread outcome
  pub leaves : LeavesNone end unread
  pub inputs_is : inputs app (acts_in (Talk (give_act given app frame) ∷ trace)) ≡ given_in given frame answers
  -- it did not end for the reason alone that no more was told
  pub heard : is_heard budget rest (reply_by given trace) ≡ true
  -- behind the event no act begins a turn or an attempt
  pub within : Within app (acts_in trace)
  -- where the application runs, the turn goes on with the dialogue: each change has reached its switch at once where its answer is given
  pub speaks : Tells → is_event frame ≡ true → (s : Before) → s.running ≡ true → Passes s.unread rest → Speaks app s old new (is_done end) unread

-- ---- What it stages

-- a checkpoint is staged for an application, or none
abbrev pub with_handed : ℕ → Option (List ℕ) → List Slot → List Slot
with_handed app None slots = slots
with_handed app (Some checkpoint) slots = with_slot app (staged (checkpoints checkpoint)) slots

-- The turn, and that the checkpoint that it handed over was staged; where it handed over none, or failed, nothing was.
pub record StagesTurn {Own : Type 0} (Tells : Type 0) (accepts : List TableView → Bool) (app budget : ℕ) (rest frame : List ℕ) (old new : Seen Own) (net now_net : NetState) (end : TurnEnd) (unread : List ℕ) (slots now_slots : List Slot) : Type 0 where
  pub turns : Turns Tells accepts app budget rest frame old new net now_net end unread
  pub staged_is : now_slots ≡ with_handed app (handed turns.outcome) slots

-- ---- One frame

-- why a turn fails where no frame comes
abbrev pub cause_of : Came → Cause
cause_of (comes.Frame frame) = causes.Budget
cause_of (comes.Refused fault) = causes.Garbled fault
cause_of comes.Closed = causes.Closed
cause_of comes.Silent = causes.Silent

-- A frame was played, and the turn goes on from there: whatever its rest is, with one frame more it is the rest from before.
pub record Goes {Own : Type 0} (Tells : Type 0) (accepts : List TableView → Bool) (app : ℕ) (rest here : List ℕ) (old then_seen : Seen Own) (net then_net : NetState) : Type 0 where
  pub on : (left : ℕ) (new : Seen Own) (now_net : NetState) (end : PlayEnd) (unread : List ℕ) → TurnsFrom Tells accepts app left here then_seen new then_net now_net end unread
      → TurnsFrom Tells accepts app (suc left) rest old new net now_net end unread
  -- where no change was sent since the frame before, this goes on with the dialogue
  pub speaks : Tells → (since : List Act) → SendsNone since → Converses app (before rest since) (before here []) old then_seen

-- A frame was played, and the turn ended with it.
pub record EndsSo {Own : Type 0} (Tells : Type 0) (accepts : List TableView → Bool) (app : ℕ) (rest unread : List ℕ) (old new : Seen Own) (net now_net : NetState) (end : PlayEnd) : Type 0 where
  pub turn : (left : ℕ) → TurnsFrom Tells accepts app (suc left) rest old new net now_net end unread

abbrev pub FramePlayed : {Own : Type 0} → Type 0 → (List TableView → Bool) → ℕ → Option PlayEnd → List ℕ → List ℕ → Seen Own → Seen Own → NetState → NetState → Type 0
FramePlayed Tells accepts app None rest here old new net now_net = Goes Tells accepts app rest here old new net now_net
FramePlayed Tells accepts app (Some end) rest here old new net now_net = EndsSo Tells accepts app rest here old new net now_net end

-- the same of a frame, wherever it stood
pub record Plays {Own : Type 0} (Tells : Type 0) (accepts : List TableView → Bool) (app : ℕ) (frame : AppFrame) (old new : Seen Own) (net now_net : NetState) (result : Option PlayEnd) : Type 0 where
  pub frame_played : (rest here : List ℕ) → IsNext frame rest here → FramePlayed Tells accepts app result rest here old new net now_net

-- ---- The loop over frames

-- the rest of the turn from here on makes the rest of the turn from its event on
pub record GoesOn {Own : Type 0} (Tells : Type 0) (accepts : List TableView → Bool) (app budget : ℕ) (rest : List ℕ) (old : Seen Own) (net : NetState) (left : ℕ) (here : List ℕ) (then_seen : Seen Own) (then_net : NetState) : Type 0 where
  pub on : (new : Seen Own) (now_net : NetState) (end : PlayEnd) (unread : List ℕ) → TurnsFrom Tells accepts app left here then_seen new then_net now_net end unread
      → TurnsFrom Tells accepts app budget rest old new net now_net end unread
  -- what was played goes on with the dialogue, whatever follows; no change was sent since the last frame
  pub speaks : Tells → (since : List Act) × (SendsNone since × Converses app (before rest []) (before here since) old then_seen)

-- how it ends where the application is done, by the judge's word
abbrev pub done_as : Bool → Bool → Option (List ℕ) → PlayEnd
done_as true stop checkpoint = plays.Done stop checkpoint
done_as false stop checkpoint = plays.Failed causes.Judged

-- what stays unread then: nothing where it failed
abbrev pub unread_after : TurnEnd → List ℕ → List ℕ
unread_after (ends.Done stop) unread = unread
unread_after (ends.Failed cause) unread = []

-- ---- Other tables

-- The table answers the messages of these exchanges, one after the other, as they were answered, and comes to a state by them.
abbrev pub Agrees : {State Own : Type 0} → Table State → List (Exchange Own) → State → State → Type 0
Agrees table [] s end = end ≡ s
Agrees table (x ∷ xs) s end = ((table.answer s x.dpid x.bytes).0 ≡ x.answer) × Agrees table xs (table.answer s x.dpid x.bytes).1 end

abbrev pub played_on : {State : Type 0} → State → List Answer → Outcome → Played State
played_on state answers outcome = record { state = state; answers = answers; outcome = outcome }
