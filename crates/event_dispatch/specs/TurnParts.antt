-- What the parts of a turn and of a start leave, beside what every part leaves: where they were done, where a fault ended them, and however they
-- ended. All of this is our own.
use Rattle.std.specs.Prelude.{◌≡◌, ℕ, Bool, List}
use Rattle.flow_table.specs.View.{TableView}
use Rattle.app_frames.specs.declared.frame.Event.{Event}
use Rattle.app_frames.specs.declared.frame.EventKind.{EventKind}
use Rattle.app_visor.specs.declared.state.AppState.{AppState}
use Rattle.app_visor.specs.Attempts.{kept_of}
use Rattle.app_visor.specs.CallsFor.{CalmLater, OwnSteps}
use Rattle.checkpoint_store.specs.Slots.{Slot}
use Rattle.outside.specs.Seen.{Seen}
use Rattle.net_txn.specs.Net.{NetState}
use Rattle.lego_model.specs.Controller.{event_frame}
use Rattle.turn_laws.specs.Failed.{TurnFailed}
use Rattle.run_laws.specs.Facts.{says_stop}
use Rattle.event_dispatch.specs.declared.closing.Closing.{Closing}
use Rattle.event_dispatch.specs.declared.engine_core.Core.{Core}
use Rattle.event_dispatch.specs.declared.fault.Fault.{Fault}
use Rattle.event_dispatch.specs.declared.run.Managed.{Managed}
use Rattle.event_dispatch.specs.Runs.{AreRead, StoreRests, CoreGoes, SameManaged, Waits}
use Rattle.event_dispatch.specs.Serves.{Starts, Leaves, GoesOn, end_of, Closes, TurnNoted}
use Rattle.event_dispatch.specs.Stored.{KeepsSlots, KeepsOthers, PlaysStaged, HoldsTurn}
use Rattle.event_dispatch.specs.Talking.{TurnTalks}
use Rattle.event_dispatch.specs.Why.{IsReason}
use Rattle.event_dispatch.specs.Plain.{PlainTurn}
use Rattle.event_dispatch.specs.Undone.{IsShort, TurnLeft}

-- ---- A turn

-- A fault ended it: it goes on with the dialogue, where the application runs; the fault has its cause; in a world that keeps its word it is a
-- plain one; and what is left of the turn.
pub record TurnFails {Own : Type 0} (Tells : Type 0) (app budget : ℕ) (rest : List ℕ) (old new : Seen Own) (net : NetState) (fault : Fault) : Type 0 where
  pub talks : TurnTalks Tells app rest old new
  pub why : IsReason Tells old new 0 0 fault
  pub plain : PlainTurn Tells old new net fault
  pub left : TurnLeft Tells (IsShort fault) app budget rest old new net

-- it was played, and what it handed over is staged
pub record PlayDone {Own : Type 0} (Tells : Type 0) (accepts : List TableView → Bool) (app budget number : ℕ) (event : Event) (closing : Closing)
    (old new : Seen Own) (net now_net : NetState) (queue now_queue : List Event) (rest unread : List ℕ) (store now_store : List Slot) : Type 0 where
  pub room : now_net.room ≡ net.room
  pub plays : PlaysStaged Tells accepts app budget number event closing old new net now_net queue now_queue rest unread store now_store
  pub read : AreRead net.kept → AreRead now_net.kept

-- however it ended: no quiescent point lies behind the one where it began, and what is kept of checkpoints stays
pub record PlayKeeps {Own : Type 0} (Tells : Type 0) (app now_app : AppState) (old new : Seen Own) (store now_store : List Slot) : Type 0 where
  pub index : now_app.index ≡ app.index
  pub alive : now_app.alive ≡ app.alive
  pub slots : KeepsSlots app.index store now_store
  pub later : Tells → CalmLater app.index old new

-- it was played, and what it handed over is kept, where it was whole
pub record HoldDone {Own : Type 0} (Tells : Type 0) (accepts : List TableView → Bool) (app budget number : ℕ) (event : Event) (closing : Closing)
    (old new : Seen Own) (net now_net : NetState) (queue now_queue : List Event) (rest unread : List ℕ) (store now_store : List Slot) : Type 0 where
  pub room : now_net.room ≡ net.room
  pub plays : HoldsTurn Tells accepts app budget number event closing old new net now_net queue now_queue rest unread (kept_of app store)
      (kept_of app now_store)
  pub read : AreRead net.kept → AreRead now_net.kept

-- a fault ended it: the kept checkpoint is the one before
pub record HoldFails {Own : Type 0} (Tells : Type 0) (app budget : ℕ) (rest : List ℕ) (old new : Seen Own) (net : NetState) (store now_store : List Slot)
    (fault : Fault) : Type 0 where
  pub unkept : kept_of app now_store ≡ kept_of app store
  pub fails : TurnFails Tells app budget rest old new net fault

-- however it ended, nothing that it staged is left, and the checkpoints of others stay
pub record HoldKeeps {Own : Type 0} (Tells : Type 0) (app now_app : AppState) (old new : Seen Own) (store now_store : List Slot) : Type 0 where
  pub index : now_app.index ≡ app.index
  pub alive : now_app.alive ≡ app.alive
  pub rests : StoreRests now_store
  pub others : KeepsOthers app.index store now_store
  pub later : Tells → CalmLater app.index old new

-- it was held, counted and told
pub record TurnDone {Own : Type 0} (Tells : Type 0) (accepts : List TableView → Bool) (event : Event) (stops : Bool) (old new : Seen Own) (c now_c : Core)
    (m now_m : Managed) : Type 0 where
  pub goes : CoreGoes now_c
  pub events : now_c.events ≡ c.events
  pub others : KeepsOthers m.state.index c.store now_c.store
  pub index : now_m.state.index ≡ m.state.index
  pub rule : now_m.rule ≡ m.rule
  pub turn : TurnNoted Tells accepts event stops old new c now_c m now_m
  -- where it is counted as one that failed, it was undone, and there were calls for the application alone behind that
  pub behind : (now_m.failed ≡ m.failed → ⊥) → TurnFailed Tells accepts m.state.index m.rule.now.budget m.state.rest (event_frame c.events c.net.moment event) old new c.net now_c.net

-- ---- A start, and an end

-- however it ended: it is the same application, which ended no turn, and no other was called
pub record StartKeeps {Own : Type 0} (Tells : Type 0) (old new : Seen Own) (m now_m : Managed) : Type 0 where
  pub same : SameManaged m now_m
  pub own : Tells → OwnSteps m.state.index old new

pub record StartDone {Own : Type 0} (Tells : Type 0) (old new : Seen Own) (c now_c : Core) (m now_m : Managed) : Type 0 where
  pub waits : Waits c now_c
  pub net : now_c.net ≡ c.net
  pub queue : now_c.queue ≡ c.queue
  pub starts : Starts Tells old new c now_c m now_m

pub record LeaveDone {Own : Type 0} (Tells : Type 0) (old new : Seen Own) (c now_c : Core) (m now_m : Managed) : Type 0 where
  pub waits : Waits c now_c
  pub net : now_c.net ≡ c.net
  pub leaves : Leaves Tells old new c now_c m now_m

pub record GoOnDone {Own : Type 0} (Tells : Type 0) (kind : EventKind) (old new : Seen Own) (c now_c : Core) (m now_m : Managed) : Type 0 where
  pub waits : Waits c now_c
  pub net : now_c.net ≡ c.net
  pub goes_on : GoesOn Tells kind old new c now_c m now_m

-- ---- A turn is closed

-- however it ended: it is the same application, and no other was called
pub record CloseKeeps {Own : Type 0} (Tells : Type 0) (old new : Seen Own) (m now_m : Managed) : Type 0 where
  pub index : now_m.state.index ≡ m.state.index
  pub rule : now_m.rule ≡ m.rule
  pub own : Tells → OwnSteps m.state.index old new

pub record CloseDone {Own : Type 0} (Tells : Type 0) (kind : EventKind) (closing : Closing) (stopped : Bool) (old new : Seen Own) (c now_c : Core)
    (m now_m : Managed) : Type 0 where
  pub goes : CoreGoes now_c
  pub events : now_c.events ≡ c.events
  pub store : now_c.store ≡ c.store
  pub stops : stopped ≡ says_stop (end_of closing)
  pub closes : Closes Tells kind closing old new c now_c m now_m
