-- What is sent to a switch in the undo of a turn (OpenFlow 1.0.0, 5.3.3 Modify State Messages: DELETE_STRICT; 5.3.7 Barrier Message), and
-- which calls for it have the cause where it fails there. All else is our own.
use Rattle.std.specs.Prelude.{◌≡◌, ◌==◌, ℕ, ◌^◌, ◌<◌, Bool, true, false, List, [], ◌∷◌, ◌++◌, length, Option, Some, None, IsOk, if◌then◌else◌}
use Rattle.std.specs.List.{AllByRecursion, list_any}
use Rattle.of_types.specs.Fields.{number_at}
use Rattle.of_types.specs.declared.journal.Act.TheVariants.{Sent, Got}
use Rattle.of_match.specs.declared.key.Key.{Key}
use Rattle.of_wire.specs.declared.bodies.FlowMod.{FlowMod as Change}
use Rattle.of_wire.specs.declared.message.Message.TheVariants.{FlowMod}
use Rattle.of_wire.specs.Reading.{reading_of}
use Rattle.of_wire.specs.Spelling.{message_bytes}
use Rattle.flow_table.specs.Refusals.{no_buffer}
use Rattle.flow_table.specs.Switch.{Declared}
use Rattle.outside.specs.declared.step.WorldStep.{WorldStep}
use Rattle.outside.specs.declared.step.WorldStep.TheVariants.{Acted, SendLost, RecvLost, SendFailed, RecvFailed}
use Rattle.outside.specs.State.{State, after_step, after_steps, is_joined, has_waiting}
use Rattle.outside.specs.InOrder.{MayComeAll}
use Rattle.lego_model.specs.declared.fault.TxnFault.{TxnFault}
use Rattle.lego_model.specs.declared.fault.TxnFault.TheVariants.{SwitchBroke, Diverged, Flooded}
use Rattle.lego_model.specs.declared.wait.Awaited.{Awaited}
use Rattle.lego_model.specs.BarrierWaits.{flood, heard, is_reply, wait_steps, barrier_sent}

-- ---- What undoes an addition: DELETE_STRICT of its key, whatever its outputs (5.3.3)

abbrev pub delete_strict : Key → Change
delete_strict k = record {
  matching = k.matching;
  cookie = 0;
  command = 4;
  idle = 0;
  hard = 0;
  priority = k.priority;
  buffer_id = no_buffer;
  out_port = 0xffff;
  flags = 0;
  actions = [];
}

-- the inverse as it is sent
unfoldable pub inverse_bytes : ℕ → Key → List ℕ
inverse_bytes xid k = message_bytes xid (FlowMod (delete_strict k))

-- the inverse for a key was sent to the switch, with this transaction id
pub record WasSent (d xid : ℕ) (key : Key) (steps : List WorldStep) : Type 0 where
  pub before : List WorldStep
  pub behind : List WorldStep
  pub steps_is : steps ≡ before ++ (Acted (Sent d (inverse_bytes xid key)) ∷ behind)

-- ---- What a switch says to its inverses: each has its transaction id and its key, newest first.

-- the key whose inverse was sent with this id
abbrev pub key_sent : ℕ → List (ℕ × Key) → Option Key
key_sent xid [] = None
key_sent xid (p ∷ ps) = if p.0 == xid then Some p.1 else key_sent xid ps

-- the key whose inverse this message refuses: it is an ERROR (1) with that id
unfoldable pub key_refused : List (ℕ × Key) → List ℕ → Option Key
key_refused sent bytes = if number_at 1 1 bytes == 1 then key_sent (number_at 4 4 bytes) sent else None

-- messages before the reply to a barrier, none of which refuses an inverse
pub record AreBefore (a : Awaited) (sent : List (ℕ × Key)) (got : List (List ℕ)) : Type 0 where
  pub read : AllByRecursion (λ b. IsOk (reading_of b)) got
  pub before_reply : AllByRecursion (λ b. is_reply (heard a b) ≡ false) got
  pub unrefused : AllByRecursion (λ b. key_refused sent b ≡ None) got

-- ---- The calls that have the cause

-- the last of the steps is that these bytes were got
abbrev pub EndsBy : ℕ → List ℕ → List WorldStep → Type 0
EndsBy d bytes steps = (front : List WorldStep) × (steps ≡ front ++ Acted (Got d bytes) ∷ [])

-- these bytes refuse the inverse that was sent, and were got last in a wait
pub record Refuses (d : ℕ) (sent : List (ℕ × Key)) (steps : List WorldStep) (inverse bytes : List ℕ) : Type 0 where
  pub key : Key
  pub of_key : key_refused sent bytes ≡ Some key
  pub inverse_is : inverse ≡ inverse_bytes (number_at 4 4 bytes) key
  pub awaited : Awaited
  pub of_switch : awaited.dpid ≡ d
  pub is_xid : awaited.barrier < 2 ^ 32
  pub got : List (List ℕ)
  pub before : AreBefore awaited sent got
  pub steps_is : steps ≡ barrier_sent awaited ∷ (wait_steps awaited got ++ Acted (Got awaited.dpid bytes) ∷ [])

-- so many messages were got behind a barrier, and none of them is its reply
pub record Overruns (d : ℕ) (steps : List WorldStep) : Type 0 where
  pub awaited : Awaited
  pub of_switch : awaited.dpid ≡ d
  pub is_xid : awaited.barrier < 2 ^ 32
  pub got : List (List ℕ)
  pub many : length got ≡ flood
  pub before_reply : AllByRecursion (λ b. is_reply (heard awaited b) ≡ false) got
  pub steps_is : steps ≡ barrier_sent awaited ∷ wait_steps awaited got

-- The bytes that are no message, or that refuse an inverse, were got last; or these calls are all that overran a wait.
abbrev pub HasCause : ℕ → List (ℕ × Key) → List WorldStep → TxnFault → Type 0
HasCause d sent steps (SwitchBroke e bytes) = EndsBy d bytes steps
HasCause d sent steps (Diverged e inverse bytes) = Refuses d sent steps inverse bytes
HasCause d sent steps (Flooded e n) = Overruns d steps
HasCause d sent steps fault = Unit {0}

-- a call for this switch
abbrev pub IsStepOf : ℕ → WorldStep → Type 0
IsStepOf d (Acted (Sent e bytes)) = e ≡ d
IsStepOf d (Acted (Got e bytes)) = e ≡ d
IsStepOf d (SendLost e) = e ≡ d
IsStepOf d (RecvLost e) = e ≡ d
IsStepOf d (SendFailed e) = e ≡ d
IsStepOf d (RecvFailed e) = e ≡ d
IsStepOf d other = ⊥

-- ---- Calls in place

-- A call that failed is in place where its switch is joined, and to take a message, where one of it waits. A call out of place never
-- succeeds, so that only the steps of calls that failed have to be looked at.
abbrev pub IsExpectedOnLink : WorldStep → State → Type 0
IsExpectedOnLink (SendLost d) s = is_joined d s ≡ true
IsExpectedOnLink (RecvLost d) s = has_waiting d s ≡ true
IsExpectedOnLink (SendFailed d) s = ⊥
IsExpectedOnLink (RecvFailed d) s = ⊥
IsExpectedOnLink other s = Unit {0}

-- each of them in the state that those before it leave
abbrev pub AreExpectedOnLinks : List WorldStep → State → Type 0
AreExpectedOnLinks [] s = Unit {0}
AreExpectedOnLinks (step ∷ steps) s = IsExpectedOnLink step s × AreExpectedOnLinks steps (after_step step s)

-- by which a switch is lost
abbrev pub loses : WorldStep → Bool
loses (SendLost d) = true
loses (RecvLost d) = true
loses other = false

-- The calls of these steps are in place, and the switch stays joined where it is not lost.
pub record Goes (d : ℕ) (steps : List WorldStep) (s : State) : Type 0 where
  pub places : AreExpectedOnLinks steps s
  pub joined : list_any loses steps ≡ false → is_joined d (after_steps steps s) ≡ true

-- so where they come in order, in any world that tells in order, and the switch is joined
abbrev pub GoesWithoutStrays : ℕ → List WorldStep → Type 0
GoesWithoutStrays d steps = (declared : List Declared) (s : State) → MayComeAll declared steps s → is_joined d s ≡ true → Goes d steps s
