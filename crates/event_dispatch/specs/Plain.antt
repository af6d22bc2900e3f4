-- How a run may end in a world that keeps its word: no switch is at fault for what it sent, so that each end but the whole one is by the sink, by
-- what comes next, by events that are left, or for want of memory; or a packet that was released made its switch send more messages than a wait
-- takes. A switch whose link fails is lost, and ends no run. All of this is our own.
use Rattle.std.specs.Prelude.{◌≡◌, ◌⊎◌, ℕ, Bool, List, [], IsOk}
use Rattle.of_wire.specs.Reading.{reading_of}
use Rattle.flow_table.specs.View.{TableView}
use Rattle.lego_model.specs.Places.{Place}
use Rattle.outside.specs.declared.step.WorldStep.{WorldStep}
use Rattle.outside.specs.Seen.{Seen}
use Rattle.outside.specs.State.{state, waits_of}
use Rattle.outside.specs.Conforming.{Conforming}
use Rattle.lego_model.specs.declared.fault.TxnFault.TheVariants.{Flooded}
use Rattle.lego_model.specs.BarrierWaits.{flood}
use Rattle.lego_model.specs.SwitchFaults.{FloodedByPacket}
use Rattle.net_txn.specs.Net.{NetState}
use Rattle.switch_laws.specs.Since.{Ready}
use Rattle.switch_laws.specs.Sound.{Sound}
use Rattle.batch_laws.specs.Calm.{Calm}
use Rattle.batch_laws.specs.InBatch.{CanTake, CanTakeNext}
use Rattle.run_laws.specs.Engine.{Engine}
use Rattle.run_laws.specs.Readings.{JudgesAlike}
use Rattle.run_laws.specs.Moves.{AtRest}
use Rattle.event_dispatch.specs.declared.fault.Fault.{Fault}
use Rattle.event_dispatch.specs.declared.served.Served.{Served}
use Rattle.event_dispatch.specs.declared.served.Served.TheVariants as ends
use Rattle.event_dispatch.specs.Why.{served_by}

abbrev pub IsPlainServed : Served → Type 0
IsPlainServed (ends.Txn fault) = ⊥
IsPlainServed (ends.Ended events) = Unit {0}
IsPlainServed ends.WriteFault = Unit {0}
IsPlainServed ends.Shut = Unit {0}
IsPlainServed ends.NextFault = Unit {0}
IsPlainServed (ends.EventsLeft left) = Unit {0}
IsPlainServed ends.NoMemory = Unit {0}

abbrev pub IsPlainEnd : Fault → Type 0
IsPlainEnd fault = IsPlainServed (served_by fault)

-- A packet that was released made its switch send at least as many messages as are too many (5.3.6 Send Packet Message).
abbrev pub IsFloodEnd : {Own : Type 0} → Seen Own → Seen Own → Served → Type 0
IsFloodEnd old new end = (d : ℕ) × ((end ≡ ends.Txn (Flooded d flood)) × FloodedByPacket d old new)

-- where packets may be released
abbrev pub EndsPlain : {Own : Type 0} → Seen Own → Seen Own → Served → Type 0
EndsPlain old new end = IsPlainServed end ⊎ IsFloodEnd old new end

-- ---- A batch

-- where the bytes are a message
pub record PlainRead (bytes : List ℕ) (fault : Fault) : Type 0 where
  pub plain : IsOk (reading_of bytes) → IsPlainEnd fault

-- where nothing of the switch waits
pub record PlainJoin {Own : Type 0} (Tells : Type 0) (d : ℕ) (old new : Seen Own) (fault : Fault) : Type 0 where
  pub plain : Tells → Conforming new → waits_of d (state old) ≡ [] → IsPlainEnd fault

-- where an item can be taken
pub record PlainItem {Own : Type 0} (Tells : Type 0) (step : WorldStep) (old new : Seen Own) (fault : Fault) : Type 0 where
  pub plain : Tells → Conforming new → CanTake step (state old) → IsPlainEnd fault

-- where whatever is told next can be taken
pub record PlainNext {Own : Type 0} (Tells : Type 0) (old new : Seen Own) (fault : Fault) : Type 0 where
  pub plain : Tells → Conforming new → CanTakeNext Tells old → IsPlainEnd fault

-- where no message is kept
pub record PlainKept (net : NetState) (fault : Fault) : Type 0 where
  pub plain : net.kept ≡ [] → IsPlainEnd fault

-- where all is calm
pub record PlainCalm {Own : Type 0} (Tells : Type 0) (old new : Seen Own) (net : NetState) (end : Served) : Type 0 where
  pub plain : Tells → Conforming new → Calm old net → IsPlainServed end

-- ---- A turn, and a question for rows

-- where all is ready, and the tables are sound
pub record PlainTurn {Own : Type 0} (Tells : Type 0) (old new : Seen Own) (net : NetState) (fault : Fault) : Type 0 where
  pub plain : Tells → Conforming new → Ready old net → Sound (state old) → EndsPlain old new (served_by fault)

pub record PlainTable {Own : Type 0} (Tells : Type 0) (old new : Seen Own) (net : NetState) (fault : Fault) : Type 0 where
  pub plain : Tells → Conforming new → Ready old net → Sound (state old) → IsPlainEnd fault

-- ---- Parts of a run, where all is settled and the judges judge alike

pub record PlainRun {Own : Type 0} (Tells : Type 0) (accepts : List TableView → Bool) (old new : Seen Own) (e : Engine) (end : Served) : Type 0 where
  pub plain : (allows : List Place → Bool) → Tells → Conforming new → JudgesAlike Own allows accepts → AtRest old e → EndsPlain old new end
