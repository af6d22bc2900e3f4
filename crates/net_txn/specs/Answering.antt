-- What `change` does: the host's own answer with nothing sent, or the switch's answer behind a barrier (OpenFlow 1.0.0, 4.2 Message
-- Handling and 5.3.7 Barrier Message). What is sent, and that it is logged before, is our own choice.
use Rattle.std.specs.Prelude.{◌≡◌, ◌≢◌, ℕ, ◌^◌, ◌<◌, ◌≤◌, List, [], ◌∷◌, ◌++◌, Option, Some, None, Result, Ok, Err, IfOk, IfErr, ◌⊎◌, if◌then◌else◌}
use Rattle.std.specs.Option.{option_map}
use Rattle.of_types.specs.declared.errors.OfError.{OfError}
use Rattle.of_types.specs.declared.journal.Act.TheVariants.{Sent}
use Rattle.of_wire.specs.declared.bodies.FlowMod.{FlowMod as Change}
use Rattle.of_wire.specs.declared.message.Message.{Message}
use Rattle.of_wire.specs.declared.message.Message.TheVariants.{FlowMod}
use Rattle.of_wire.specs.Spelling.{message_bytes}
use Rattle.of_wire.specs.Grammar.{IsMessage}
use Rattle.flow_table.specs.View.{TableView}
use Rattle.flow_table.specs.Change.{key_in}
use Rattle.flow_table.specs.Step.{after_message}
use Rattle.app_frames.specs.declared.frame.Answer.{Answer}
use Rattle.lego_model.specs.Answers.{as_sent, host_answer, answer_by}
use Rattle.lego_model.specs.Packets.{HeldBack, holds}
use Rattle.outside.specs.declared.step.WorldStep.{WorldStep}
use Rattle.outside.specs.declared.step.WorldStep.TheVariants.{Acted}
use Rattle.outside.specs.Seen.{Seen}
use Rattle.outside.specs.State.{State, switch_of}
use Rattle.lego_model.specs.declared.fault.TxnFault.{TxnFault}
use Rattle.lego_model.specs.declared.fault.TxnFault.TheVariants.{SwitchBroke, Diverged, Flooded, NoMemory}
use Rattle.net_txn.specs.declared.halt.Halt.{Halt}
use Rattle.net_txn.specs.declared.halt.Halt.TheVariants.{Lost, Fault}
use Rattle.lego_model.specs.declared.wait.Awaited.{Awaited}
use Rattle.lego_model.specs.declared.wait.Refusal.{Refusal}
use Rattle.net_txn.specs.declared.logged.Logged.{Logged}
use Rattle.net_txn.specs.declared.queue.Storage.TheVariants.{Growing}
use Rattle.net_txn.specs.Said.{barrier_of, Replied, BreaksBy}
use Rattle.net_txn.specs.Waits.{Waits, Floods, KeptMore}
use Rattle.lego_model.specs.BarrierWaits.{barrier_sent, next_xid}
use Rattle.net_txn.specs.Views.{with_rows, rows_after, is_row_at}
pub use Rattle.net_txn.specs.Agrees.{known_rows}
use Rattle.net_txn.specs.Arriving.{notices_told}
use Rattle.net_txn.specs.Net.{NetState, awaited_from, logged_by, with_logged}

-- ---- What the host knows of a switch

-- the host's own answer to bytes for a switch, where it has one
abbrev pub answer_of_host : ℕ → List ℕ → NetState → Option Answer
answer_of_host d bytes net = host_answer (known_rows d net.views) bytes

-- ---- What the switch answered

abbrev pub error_in : Option Refusal → Option OfError
error_in refusal = option_map (λ r. r.error) refusal

-- the views after a change that was refused or not
abbrev pub views_by : Option Refusal → ℕ → Change → List TableView → List TableView
views_by None d m views = with_rows d (rows_after m) views
views_by (Some refusal) d m views = views

abbrev pub log_by : Option Refusal → ℕ → Change → List Logged → List Logged
log_by None d m log = with_logged (logged_by d m) log
log_by (Some refusal) d m log = log

-- notices are held of a change that was not refused: of each entry whose owner asked for one
abbrev pub held_by : Option Refusal → ℕ → List TableView → List (List ℕ) → HeldBack → HeldBack
held_by None d views notices held = record held { notices = held.notices ++ notices_told d views notices }
held_by (Some refusal) d views notices held = held

abbrev pub change_sent : ℕ → ℕ → Change → WorldStep
change_sent d xid m = Acted (Sent d (message_bytes xid (as_sent (FlowMod m))))

-- The change was sent, then a barrier, and its reply was awaited; the answer is the first refusal that came before it, or Fine. Where it was not
-- refused the view and the log move, and the notices that came are held.
pub record Asked {Own : Type 0} (Tells : Type 0) (d : ℕ) (m : Change) (old new : Seen Own) (net now_net : NetState) (answer : Answer) : Type 0 where
  -- what is sent is a message with a transaction id
  pub message : IsMessage (FlowMod m)
  pub is_xid : (1 ≤ net.xid) × (net.xid < 2 ^ 32)
  pub refusal : Option Refusal
  pub notices : List (List ℕ)
  pub waits : Waits Tells (awaited_from d net.xid) (change_sent d net.xid m ∷ barrier_sent (awaited_from d net.xid) ∷ []) old new net.kept now_net.kept (record { refusal = refusal; notices = notices })
  pub answer_is : answer ≡ answer_by (error_in refusal)
  pub views : now_net.views ≡ views_by refusal d m net.views
  pub log : now_net.log ≡ log_by refusal d m net.log
  pub held : now_net.held ≡ held_by refusal d net.views notices net.held
  pub xid : now_net.xid ≡ next_xid (next_xid net.xid)

-- ---- Faults

-- before anything was sent: no call of the world was made
pub record Unsent {Own : Type 0} (old new : Seen Own) (net now_net : NetState) : Type 0 where
  pub world : new ≡ old
  pub views : now_net.views ≡ net.views
  pub log : now_net.log ≡ net.log
  pub kept : now_net.kept ≡ net.kept
  pub held : now_net.held ≡ net.held

-- What undoes the change is logged, unless a row has its key already: then the switch refuses it, and its inverse would remove an entry
-- that was there before.
abbrev pub log_in_flight : ℕ → Change → List TableView → List Logged → List Logged
log_in_flight d m views log = if is_row_at d (key_in m) views then log else with_logged (logged_by d m) log

-- since the change may have been sent: it is logged, and the view moved so or not at all
pub record CutOff (d : ℕ) (m : Change) (net now_net : NetState) : Type 0 where
  pub views : (now_net.views ≡ net.views) ⊎ (now_net.views ≡ with_rows d (rows_after m) net.views)
  pub log : now_net.log ≡ log_in_flight d m net.views net.log
  pub kept : KeptMore d net.kept now_net.kept
  pub held : now_net.held ≡ net.held

abbrev pub Stopped : {Own : Type 0} → ℕ → Change → Seen Own → Seen Own → NetState → NetState → Type 0
Stopped d m old new net now_net = Unsent old new net now_net ⊎ CutOff d m net now_net

-- messages and a barrier were sent, its reply came, and nothing was refused
pub record RepliesWell {Own : Type 0} (Tells : Type 0) (a : Awaited) (frames : List (List ℕ)) (old new : Seen Own) (kept now_kept : List (ℕ × List ℕ)) : Type 0 where
  pub notices : List (List ℕ)
  pub replied : Replied Tells a frames Growing [] old new kept now_kept (record { refusal = None; notices = notices })

-- what was said where messages were to be sent, and then a barrier: they or the barrier could not be sent, its reply did not come, or it
-- came and nothing was refused
abbrev pub BreaksOff : {Own : Type 0} → Type 0 → Awaited → List (List ℕ) → Seen Own → Seen Own → List (ℕ × List ℕ) → List (ℕ × List ℕ) → Halt → Type 0
BreaksOff Tells a first old new kept now_kept halt =
    BreaksBy Tells a (first ++ barrier_of a ∷ []) old new kept now_kept halt ⊎ RepliesWell Tells a (first ++ barrier_of a ∷ []) old new kept now_kept

-- The change is in flight: it or the barrier behind it could not be sent, or the barrier's reply is outstanding, or it came and no memory
-- was left to put the row into the view or to hold the notices. The log is this one.
pub record InFlight {Own : Type 0} (Tells : Type 0) (d : ℕ) (m : Change) (log : List Logged) (old new : Seen Own) (net now_net : NetState) (halt : Halt) : Type 0 where
  pub message : IsMessage (FlowMod m)
  pub is_xid : net.xid < 2 ^ 32
  pub said : BreaksOff Tells (awaited_from d net.xid) (message_bytes net.xid (as_sent (FlowMod m)) ∷ []) old new net.kept now_net.kept halt
  pub views : (now_net.views ≡ net.views) ⊎ (now_net.views ≡ with_rows d (rows_after m) net.views)
  pub log_is : now_net.log ≡ log
  pub kept : KeptMore d net.kept now_net.kept
  pub held : now_net.held ≡ net.held

-- How the switches stand then, in a world that tells: the one moved as by the change, or not at all.
pub record MayMove (d : ℕ) (m : Message) (old new : State) : Type 0 where
  pub switch : (switch_of d new ≡ switch_of d old) ⊎ (switch_of d new ≡ option_map (after_message m) (switch_of d old))
  pub others : (e : ℕ) → e ≢ d → switch_of e new ≡ switch_of e old

-- of a fault that may be Flooded: what was sent is a message with a transaction id, and the wait for its answer was given up
abbrev pub IfGivenUp : {Own : Type 0} → Type 0 → ℕ → Change → Seen Own → Seen Own → NetState → Halt → Type 0
IfGivenUp Tells d m old new net (Fault (Flooded of n)) =
    IsMessage (FlowMod m) × (net.xid < 2 ^ 32) × Floods Tells (awaited_from d net.xid) (change_sent d net.xid m ∷ barrier_sent (awaited_from d net.xid) ∷ []) old new
IfGivenUp Tells d m old new net (Fault (SwitchBroke of bytes)) = Unit {0}
IfGivenUp Tells d m old new net (Fault (Diverged of sent got)) = Unit {0}
IfGivenUp Tells d m old new net (Fault NoMemory) = Unit {0}
IfGivenUp Tells d m old new net Lost = Unit {0}

-- ---- The whole

-- a packet that is answered Fine is held behind the others
abbrev pub held_after : ℕ → List ℕ → Result Answer TxnFault → HeldBack → HeldBack
held_after d bytes (Ok answer) held = record held { packets = held.packets ++ holds d bytes answer }
held_after d bytes (Err fault) held = held

-- the host answered: no call of the world was made, and nothing moved but what is held; memory may have been wanting
pub record ByHost {Own : Type 0} (d : ℕ) (bytes : List ℕ) (answer : Answer) (old new : Seen Own) (net now_net : NetState) (result : Result Answer TxnFault) : Type 0 where
  pub answers : IfOk result (λ a. a ≡ answer)
  pub fault : IfErr result (λ f. f ≡ NoMemory)
  pub world : new ≡ old
  pub stays : now_net ≡ record net { held = held_after d bytes result net.held }
