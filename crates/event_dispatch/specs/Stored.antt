-- The checkpoints of an application over a turn: what it staged, and what is kept then. All of this is our own.
use Rattle.std.specs.Prelude.{◌≡◌, ℕ, Bool, List, length, Result, Ok, Err, unwrap_or}
use Rattle.flow_table.specs.View.{TableView}
use Rattle.app_frames.specs.declared.frame.Event.{Event}
use Rattle.outside.specs.Seen.{Seen}
use Rattle.net_txn.specs.Net.{NetState}
use Rattle.checkpoint_store.specs.Slots.{Slot, slot_of, done, dropped}
use Rattle.app_visor.specs.Attempts.{kept_of}
use Rattle.app_visor.specs.Turns.{handed, with_handed}
use Rattle.event_dispatch.specs.declared.closing.Closing.{Closing}
use Rattle.event_dispatch.specs.declared.closing.Closing.TheVariants as closings
use Rattle.event_dispatch.specs.declared.fault.Fault.{Fault}
use Rattle.event_dispatch.specs.Serves.{PlaysTurn}

-- the number of places stays, the kept checkpoint of the application, and the places of others
pub record KeepsSlots (app : ℕ) (slots now_slots : List Slot) : Type 0 where
  pub number : length now_slots ≡ length slots
  pub kept : kept_of app now_slots ≡ kept_of app slots
  pub others : (i : ℕ) → (i ≡ app → ⊥) → slot_of i now_slots ≡ slot_of i slots

-- the number of places stays, and the places of other applications
pub record KeepsOthers (app : ℕ) (slots now_slots : List Slot) : Type 0 where
  pub number : length now_slots ≡ length slots
  pub others : (i : ℕ) → (i ≡ app → ⊥) → slot_of i now_slots ≡ slot_of i slots

-- what becomes of what a turn staged: it is kept where the turn was done, and dropped where it was not
abbrev pub closes_slot : Result Closing Fault → Slot → Slot
closes_slot (Ok (closings.Done stop out)) slot = done slot
closes_slot (Ok (closings.Failed cause)) slot = dropped slot
closes_slot (Err fault) slot = dropped slot

-- a turn was played, and the checkpoint that it handed over was staged
pub record PlaysStaged {Own : Type 0} (Tells : Type 0) (accepts : List TableView → Bool) (app budget number : ℕ) (event : Event) (closing : Closing) (old new : Seen Own) (net now_net : NetState) (queue now_queue : List Event) (rest unread : List ℕ) (slots now_slots : List Slot) : Type 0 where
  pub plays : PlaysTurn Tells accepts app budget number event closing old new net now_net queue now_queue rest unread
  pub staged_is : now_slots ≡ with_handed app (handed plays.turns.outcome) slots

-- a turn was played, and the checkpoint that it handed over is the kept one then, or the one before where it handed over none
pub record HoldsTurn {Own : Type 0} (Tells : Type 0) (accepts : List TableView → Bool) (app budget number : ℕ) (event : Event) (closing : Closing) (old new : Seen Own) (net now_net : NetState) (queue now_queue : List Event) (rest unread kept now_kept : List ℕ) : Type 0 where
  pub plays : PlaysTurn Tells accepts app budget number event closing old new net now_net queue now_queue rest unread
  pub kept_is : now_kept ≡ unwrap_or (handed plays.turns.outcome) kept
