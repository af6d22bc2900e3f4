-- What is done when the link of a switch fails: the switch is lost. What the host kept of it goes, but what is logged and what is held; its
-- known ports stand ready for its Leave event. All of this is our own.
use Rattle.std.specs.Prelude.{◌≡◌, ◌≢◌, ◌==◌, ℕ, true, false, List, [], ◌∷◌, ◌++◌, filter, fold, None}
use Rattle.std.specs.List.{AllByRecursion}
use Rattle.lego_io.specs.Count.{Rose}
use Rattle.outside.specs.declared.step.WorldStep.{WorldStep}
use Rattle.outside.specs.Seen.{Seen, journal}
use Rattle.outside.specs.State.{state, switch_of, waits_of, is_joined}
use Rattle.lego_model.specs.Journal.{released, losses}
use Rattle.lego_model.specs.Packets.{Held}
use Rattle.lego_model.specs.History.{lost_of}
use Rattle.lego_model.specs.AtOnce.{SendsNone}
use Rattle.lego_model.specs.UndoFaults.{IsStepOf}
use Rattle.lego_model.specs.declared.fault.TxnFault.TheVariants.{NoMemory}
use Rattle.lego_model.specs.declared.wait.Awaited.{Awaited}
use Rattle.outside.specs.InOrder.{MessagesSince}
use Rattle.net_txn.specs.declared.halt.Halt.{Halt}
use Rattle.net_txn.specs.declared.halt.Halt.TheVariants.{Lost, Fault}
use Rattle.net_txn.specs.OwnIds.{LeavesStep}
use Rattle.net_txn.specs.Causes.{IsCause}
use Rattle.net_txn.specs.Waits.{IfFlooded}
use Rattle.net_txn.specs.Net.{NetState}
use Rattle.net_txn.specs.Leaving.{without}

-- ---- What the host keeps then

abbrev pub lost_net : ℕ → NetState → NetState
lost_net d net = record (without d net) { left = net.left ++ filter (λ k. k.dpid == d) net.ports }

-- one after the other
abbrev pub lose_all : List ℕ → NetState → NetState
lose_all lost net = fold (λ n d. lost_net d n) net lost

-- ---- What is seen of it

-- In a world that tells, where the switch was joined: the history goes on by steps with its loss, which release these packets; the switch is
-- out, with what it had sent, and no other one moved.
pub record GoesOut {Own : Type 0} (d : ℕ) (packets : List Held) (old new : Seen Own) : Type 0 where
  pub steps : List WorldStep
  pub history : new.history ≡ old.history ++ steps
  pub lost : losses (journal steps) ≡ d ∷ []
  pub released_is : released (journal steps) ≡ packets
  pub out : switch_of d (state new) ≡ None
  pub waits : waits_of d (state new) ≡ []
  pub others : (e : ℕ) → e ≢ d → switch_of e (state new) ≡ switch_of e (state old)
  pub others_wait : (e : ℕ) → e ≢ d → waits_of e (state new) ≡ waits_of e (state old)

-- where it was not joined: no change was sent to it
pub record SaysNone {Own : Type 0} (old new : Seen Own) : Type 0 where
  pub steps : List WorldStep
  pub history : new.history ≡ old.history ++ steps
  pub none_sent : SendsNone (journal steps)

-- the calls were of this switch alone
pub record CallsSwitch {Own : Type 0} (d : ℕ) (old new : Seen Own) : Type 0 where
  pub steps : List WorldStep
  pub history : new.history ≡ old.history ++ steps
  pub each : AllByRecursion (IsStepOf d) steps

-- The count of its link rose in these calls, which are of this switch alone; some call left a step.
pub record IsLost {Own : Type 0} (Tells : Type 0) (d : ℕ) (packets : List Held) (old new : Seen Own) : Type 0 where
  pub rose : Rose (old.counts.link_faults d) (new.counts.link_faults d)
  pub only : Tells → CallsSwitch d old new
  pub some : LeavesStep Tells old new
  pub out : Tells → is_joined d (state old) ≡ true → GoesOut d packets old new
  pub was_out : Tells → is_joined d (state old) ≡ false → SaysNone old new

-- ---- How calls on a switch end before their end

-- Its switch is lost, and all bytes that came before were messages; or memory ran out, and no switch is lost.
abbrev pub SaysHalt : {Own : Type 0} → Type 0 → ℕ → Seen Own → Seen Own → Halt → Type 0
SaysHalt Tells d old new Lost = IsLost Tells d [] old new × (Tells → MessagesSince old new)
SaysHalt Tells d old new (Fault fault) = (fault ≡ NoMemory) × (Tells → lost_of new ≡ lost_of old)

-- the same of a wait for the reply to a barrier, behind steps: a fault has its cause
abbrev pub WaitHalts : {Own : Type 0} → Type 0 → Awaited → List WorldStep → Seen Own → Seen Own → Halt → Type 0
WaitHalts Tells a front old new Lost = IsLost Tells a.dpid [] old new × (Tells → MessagesSince old new)
WaitHalts Tells a front old new (Fault fault) = IsCause Tells a.dpid old new fault × IfFlooded Tells a front old new fault × (Tells → lost_of new ≡ lost_of old)
