-- What a fault leaves of the tables of switches, behind the last quiescent point: the turn in flight is undone, switch by switch. All of
-- this is our own but for the messages of OpenFlow 1.0.0.
use Rattle.std.specs.Prelude.{◌≡◌, ◌⊎◌, ℕ, Bool, true, false, List, [], ◌∷◌, ◌++◌, fold, ◌==◌, Option, Some, None, IsErr, slice_get, if◌then◌else◌}
use Rattle.std.specs.List.{AllByRecursion, list_any}
use Rattle.std.specs.Option.{option_map}
use Rattle.lego_io.specs.Count.{Rose}
use Rattle.crash_policy.specs.Policies.{AppValue}
use Rattle.of_types.specs.Fields.{number_at}
use Rattle.of_types.specs.declared.journal.Act.{Act}
use Rattle.of_types.specs.declared.journal.Act.TheVariants.{Got, Gave}
use Rattle.of_match.specs.declared.key.Key.{Key}
use Rattle.of_wire.specs.declared.message.Message.TheVariants.{PacketOut}
use Rattle.of_wire.specs.Reading.{reading_of}
use Rattle.flow_table.specs.Switch.{SwitchState}
use Rattle.flow_table.specs.Step.{after_message}
use Rattle.app_frames.specs.declared.frame.Answer.{Answer}
use Rattle.app_frames.specs.declared.frame.Answer.TheVariants.{Unknown}
use Rattle.outside.specs.declared.step.WorldStep.{WorldStep}
use Rattle.outside.specs.declared.step.WorldStep.TheVariants.{Acted}
use Rattle.outside.specs.Seen.{Seen, Longer, journal}
use Rattle.outside.specs.State.{state, switch_of}
use Rattle.lego_model.specs.declared.fault.TxnFault.{TxnFault}
use Rattle.lego_model.specs.declared.fault.TxnFault.TheVariants.{SwitchBroke, Diverged, Flooded, NoMemory}
use Rattle.lego_model.specs.AtOnce.{Passes, AtOnce}
use Rattle.lego_model.specs.BarrierWaits.{flood}
use Rattle.lego_model.specs.History.{own_acts}
use Rattle.lego_model.specs.Journal.{is_event, reply_of, released, losses}
use Rattle.lego_model.specs.Packets.{Held}
use Rattle.lego_model.specs.Scripted.{is_heard}
use Rattle.lego_model.specs.SwitchFaults.{Happened, SentThenGot, IsFlood}
use Rattle.lego_model.specs.UndoFaults.{inverse_bytes, WasSent, HasCause, IsStepOf, GoesWithoutStrays}
use Rattle.lego_model.specs.Turns.{Outcome, Completed, Failed, Table, turn_of}

-- ---- Why a switch failed in an undo

-- the inverse for a key is answered by an ERROR (1, in 5.4.4): it has the inverse's transaction id
pub record RefusesInverse (inverse got : List ℕ) : Type 0 where
  pub kind : number_at 1 1 got ≡ 1
  pub key : Key
  pub inverse_is : inverse ≡ inverse_bytes (number_at 4 4 got) key

-- Bytes were got from it that are no message; an inverse that was sent to it was refused; too many messages came
-- from it behind a barrier; or the world had no memory for a call of it.
abbrev pub IsWhyUndo : {Own : Type 0} → Type 0 → ℕ → Seen Own → Seen Own → TxnFault → Type 0
IsWhyUndo Tells d old new (SwitchBroke e bytes) = (e ≡ d) × IsErr (reading_of bytes) × (Tells → Happened (Acted (Got d bytes) ∷ []) old.history new.history)
IsWhyUndo Tells d old new (Diverged e inverse got) = (e ≡ d) × RefusesInverse inverse got × (Tells → SentThenGot d inverse got old.history new.history)
IsWhyUndo Tells d old new (Flooded e n) = (e ≡ d) × (n ≡ flood) × IsFlood Tells d n old new
IsWhyUndo Tells d old new NoMemory = Rose old.counts.shorts new.counts.shorts × Rose (old.counts.shorts_of d) (new.counts.shorts_of d)

-- The switch failed in the undo: its fault, with the cause in these calls. Before that these inverses were sent to it, each with its
-- transaction id and its key. Right behind all that the undo did until then stand the calls that have the cause, one behind the other, all
-- for this switch and in place.
pub record FailsInUndo {Own : Type 0} (Tells : Type 0) (d : ℕ) (old new : Seen Own) : Type 0 where
  pub fault : TxnFault
  pub why : IsWhyUndo Tells d old new fault
  pub sent : List (ℕ × Key)
  pub front : List WorldStep
  pub were_sent : AllByRecursion (λ p. WasSent d p.0 p.1 front) sent
  pub steps : List WorldStep
  pub each : AllByRecursion (IsStepOf d) steps
  pub cause : HasCause d sent steps fault
  pub places : GoesWithoutStrays d steps
  pub told : Tells → Happened (front ++ steps) old.history new.history

-- ---- The turn was undone

-- the switch has exactly the entries that it had, and all else of it stands as it stood, but for the serial of its next entry
pub record HasEntriesAgain (s : SwitchState) (now : Option SwitchState) : Type 0 where
  pub next : ℕ
  pub stands : now ≡ Some (record s { table = record { entries = s.table.entries; next = next } })

-- the switch was lost since then
pub record WasLost {Own : Type 0} (d : ℕ) (old new : Seen Own) : Type 0 where
  pub steps : List WorldStep
  pub history : new.history ≡ old.history ++ steps
  pub lost : list_any (λ e. e == d) (losses (journal steps)) ≡ true
  pub out : switch_of d (state new) ≡ None

-- Each switch that was joined then has its entries again, or it failed in the undo, with its cause in these calls, or it was lost; no other
-- is joined.
pub record UndoneButFailed {Own : Type 0} (Tells : Type 0) (old new : Seen Own) : Type 0 where
  pub joined : (d : ℕ) (s : SwitchState) → switch_of d (state old) ≡ Some s → FailsInUndo Tells d old new ⊎ HasEntriesAgain s (switch_of d (state new)) ⊎ WasLost d old new
  pub out : (d : ℕ) → switch_of d (state old) ≡ None → switch_of d (state new) ≡ None

-- ---- There was no turn

-- an application is given an event
abbrev pub gives_event : WorldStep → Bool
gives_event (Acted (Gave app bytes)) = is_event bytes
gives_event other = false

abbrev pub GiveNoEvent : List WorldStep → Type 0
GiveNoEvent steps = AllByRecursion (λ step. gives_event step ≡ false) steps

-- The history went on, and no application was given an event since then.
pub record NoEventSince {Own : Type 0} (old new : Seen Own) : Type 0 where
  pub steps : List WorldStep
  pub history : new.history ≡ old.history ++ steps
  pub none : GiveNoEvent steps

-- ---- The turn was whole

-- messages that are answered by these answers, one after the other
abbrev pub next_answer : List Answer → Answer × List Answer
next_answer [] = (Unknown, [])
next_answer (answer ∷ answers) = (answer, answers)

unfoldable pub answering : Bool → Table (List Answer)
answering judged = record { answer = λ answers dpid bytes. next_answer answers; allows = λ answers. judged; undo = λ before answers. answers }

abbrev pub IsCompleted : Outcome → Type 0
IsCompleted (Completed stop checkpoint unread) = Unit {0}
IsCompleted (Failed cause) = ⊥

-- An application had a whole turn: an event, and then acts that tell its end, by which it completed, with its messages answered somehow, behind
-- what it had given before and that was unread. It may take so many frames for a turn.
pub record TurnDone {Own : Type 0} (app budget : ℕ) (old new : Seen Own) : Type 0 where
  pub event : List ℕ
  pub event_is : is_event event ≡ true
  pub acts : List Act
  pub history : own_acts app new ≡ own_acts app old ++ Gave app event ∷ acts
  pub before : AtOnce app (journal old.history)
  pub rest : List ℕ
  pub passes : Passes before.last.unread rest
  -- it did not end for the reason alone that no more was told
  pub heard : is_heard budget rest (reply_of (record { given = true; acts = acts })) ≡ true
  pub judged : Bool
  pub answers : List Answer
  pub completed : IsCompleted (turn_of (answering judged) budget rest (reply_of (record { given = true; acts = acts })) answers).outcome

-- no switch moved: each is joined as it was, with the table that it had, and the same of all else
abbrev pub SwitchesStay : {Own : Type 0} → Seen Own → Seen Own → Type 0
SwitchesStay old new = (d : ℕ) → switch_of d (state new) ≡ switch_of d (state old)

-- It had a whole turn since then, behind which no switch moved, so that its changes stay.
pub record TurnKept {Own : Type 0} (app budget : ℕ) (old new : Seen Own) : Type 0 where
  pub mid : Seen Own
  pub given : new.given ≡ mid.given
  pub done : TurnDone app budget old mid
  pub later : Longer mid.history new.history
  pub stay : SwitchesStay mid new

-- ---- Its packets were being released

-- a switch after these packets, those for other switches passed over
abbrev pub after_packets : ℕ → List Held → SwitchState → SwitchState
after_packets d packets s = fold (λ t held. if held.0 == d then after_message (PacketOut held.1) t else t) s packets

-- It had a whole turn since then, whose release was begun. Each switch moved by the packets that were sent to it behind that, and by nothing
-- else, so that its changes stay, or it was lost.
pub record TurnReleasing {Own : Type 0} (app budget : ℕ) (old new : Seen Own) : Type 0 where
  pub mid : Seen Own
  pub given : new.given ≡ mid.given
  pub done : TurnDone app budget old mid
  pub first : WorldStep
  pub steps : List WorldStep
  pub history : new.history ≡ mid.history ++ first ∷ steps
  pub moved : (d : ℕ) → (switch_of d (state new) ≡ option_map (after_packets d (released (journal (first ∷ steps)))) (switch_of d (state mid))) ⊎ WasLost d mid new

-- ---- What is left

-- Where an application has a turn of so many frames at most: no event was given since then; or its turn was undone on each switch that did
-- not fail in the undo and was not lost; or, where memory may have been wanting behind it, the turn was whole, and its changes stay; or its
-- packets were being released.
abbrev pub TablesLeft : {Own : Type 0} → ℕ → ℕ → Type 0 → Seen Own → Seen Own → Type 0
TablesLeft app budget Short old new = NoEventSince old new ⊎ UndoneButFailed (Unit {0}) old new ⊎ (Short × TurnKept app budget old new) ⊎ TurnReleasing app budget old new

-- so it is with one of these applications
pub record TurnBehind {Own : Type 0} (rules : List AppValue) (Short : Type 0) (old new : Seen Own) : Type 0 where
  pub app : ℕ
  pub rule : AppValue
  pub rule_is : slice_get rules app ≡ Some rule
  pub tables : TablesLeft app rule.budget Short old new

-- No event was given since then, or one of the applications had a turn, or was in one.
abbrev pub TablesBehind : {Own : Type 0} → List AppValue → Type 0 → Seen Own → Seen Own → Type 0
TablesBehind rules Short old new = NoEventSince old new ⊎ TurnBehind rules Short old new
