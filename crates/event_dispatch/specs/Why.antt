-- Why a run ended: each end but the whole one and want of memory has its cause in the run. All of this is our own choice but for the
-- messages of OpenFlow 1.0.0.
use Rattle.std.specs.Prelude.{ℕ, ◌≤◌, List, [], ◌∷◌, IsErr}
use Rattle.lego_io.specs.Count.{Rose}
use Rattle.of_wire.specs.Reading.{reading_of}
use Rattle.outside.specs.declared.step.WorldStep.{WorldStep}
use Rattle.outside.specs.declared.step.WorldStep.TheVariants.{From}
use Rattle.outside.specs.Seen.{Seen, Continues}
use Rattle.lego_model.specs.declared.fault.TxnFault.{TxnFault}
use Rattle.lego_model.specs.declared.fault.TxnFault.TheVariants.{SwitchBroke, Diverged, Flooded, NoMemory}
use Rattle.event_dispatch.specs.declared.fault.Fault.{Fault}
use Rattle.event_dispatch.specs.declared.fault.Fault.TheVariants as faults
use Rattle.event_dispatch.specs.declared.served.Served.{Served}
use Rattle.event_dispatch.specs.declared.served.Served.TheVariants as ends
use Rattle.lego_model.specs.SwitchFaults.{Happened, IsWhyTxn}

-- ---- Why a run ended

-- What is seen of the world, and how often the sink failed, before and after.
abbrev pub IsWhy : {Own : Type 0} → Type 0 → Seen Own → Seen Own → ℕ → ℕ → Served → Type 0
IsWhy Tells old new sink_old sink_new (ends.Ended events) = Unit {0}
IsWhy Tells old new sink_old sink_new ends.WriteFault = Rose sink_old sink_new
IsWhy Tells old new sink_old sink_new ends.Shut = Rose old.counts.shuts new.counts.shuts
IsWhy Tells old new sink_old sink_new ends.NextFault = Rose old.counts.next_faults new.counts.next_faults
IsWhy Tells old new sink_old sink_new (ends.Txn fault) = IsWhyTxn Tells old new fault
IsWhy Tells old new sink_old sink_new (ends.EventsLeft left) = 1 ≤ left
IsWhy Tells old new sink_old sink_new ends.NoMemory = Unit {0}

-- ---- What ends a run before its end

-- what a fault of the network is then
abbrev pub fault_of : TxnFault → Fault
fault_of NoMemory = faults.NoMemory
fault_of (SwitchBroke d bytes) = faults.Txn (SwitchBroke d bytes)
fault_of (Diverged d sent got) = faults.Txn (Diverged d sent got)
fault_of (Flooded d n) = faults.Txn (Flooded d n)

-- how the run ends with it
abbrev pub served_by : Fault → Served
served_by faults.Write = ends.WriteFault
served_by faults.Next = ends.NextFault
served_by (faults.Txn fault) = ends.Txn fault
served_by faults.NoMemory = ends.NoMemory

-- it has its cause
abbrev pub IsReason : {Own : Type 0} → Type 0 → Seen Own → Seen Own → ℕ → ℕ → Fault → Type 0
IsReason Tells old new sink_old sink_new fault = IsWhy Tells old new sink_old sink_new (served_by fault)

abbrev pub ended_by : TxnFault → Served
ended_by fault = served_by (fault_of fault)

-- ---- What ends a run at something that was told: its cause lies in the run from any earlier moment on, where it was told since then

pub record WhyItem {Own : Type 0} (Tells : Type 0) (step : WorldStep) (old new : Seen Own) (fault : Fault) : Type 0 where
  pub why : (before : Seen Own) → Continues Tells before old → (Tells → Happened (step ∷ []) before.history old.history) → IsReason Tells before new 0 0 fault

-- of a message, which need not have been told where it is read
pub record WhyMessage {Own : Type 0} (Tells : Type 0) (d : ℕ) (frame : List ℕ) (old new : Seen Own) (fault : Fault) : Type 0 where
  pub why : (before : Seen Own) → Continues Tells before old → (IsErr (reading_of frame) → Tells → Happened (From d frame ∷ []) before.history old.history) → IsReason Tells before new 0 0 fault
