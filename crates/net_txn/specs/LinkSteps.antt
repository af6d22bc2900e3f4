-- Steps of the links of switches: histories that go on by such steps alone, and calls of links that are in place. All of this is our own.
use Rattle.std.specs.Prelude.{◌≡◌, ℕ, Bool, true, false, List, ◌∷◌, ◌++◌}
use Rattle.std.specs.List.{AllByRecursion}
use Rattle.of_types.specs.declared.journal.Act.TheVariants.{Sent, Got}
use Rattle.of_wire.specs.declared.message.Message.TheVariants.{BarrierReply}
use Rattle.of_wire.specs.Spelling.{message_bytes}
use Rattle.flow_table.specs.Switch.{Declared}
use Rattle.outside.specs.declared.step.WorldStep.{WorldStep}
use Rattle.outside.specs.declared.step.WorldStep.TheVariants.{Acted, SendLost, RecvLost, SendFailed, RecvFailed}
use Rattle.outside.specs.Seen.{Seen}
use Rattle.outside.specs.State.{State, after_steps, state, waits_of, is_joined, has_waiting}
use Rattle.outside.specs.InOrder.{MayComeAll, InOrder}
use Rattle.lego_model.specs.declared.wait.Awaited.{Awaited}
use Rattle.lego_model.specs.UndoFaults.{AreExpectedOnLinks}

-- a step of the link of a switch: a message sent or got, or a call that failed
abbrev pub is_link_step : WorldStep → Bool
is_link_step (Acted (Sent d bytes)) = true
is_link_step (Acted (Got d bytes)) = true
is_link_step (SendLost d) = true
is_link_step (RecvLost d) = true
is_link_step (SendFailed d) = true
is_link_step (RecvFailed d) = true
is_link_step other = false

abbrev pub AreLinkSteps : List WorldStep → Type 0
AreLinkSteps steps = AllByRecursion (λ step. is_link_step step ≡ true) steps

-- The history went on by such steps alone: no call for an application, no stimulus, no item.
pub record LinkSteps {Own : Type 0} (old new : Seen Own) : Type 0 where
  pub steps : List WorldStep
  pub history : new.history ≡ old.history ++ steps
  pub all : AreLinkSteps steps

-- the same in a world that tells
abbrev pub OnLinks : {Own : Type 0} → Type 0 → Seen Own → Seen Own → Type 0
OnLinks Tells old new = Tells → LinkSteps old new

-- ---- Calls in place

-- the calls of links since then are in place
abbrev pub MakesNoStrayCall : {Own : Type 0} → Seen Own → Seen Own → Type 0
MakesNoStrayCall old new = (steps : List WorldStep) → new.history ≡ old.history ++ steps → AreExpectedOnLinks steps (state old)

-- the same where a world tells in order and the switch is joined
abbrev pub AsksWithoutStrays : {Own : Type 0} → Type 0 → ℕ → Seen Own → Seen Own → Type 0
AsksWithoutStrays Tells d old new = Tells → InOrder new → is_joined d (state old) ≡ true → MakesNoStrayCall old new

-- The switch is joined, and of what waits of it something is the reply to the barrier.
pub record Awaits (a : Awaited) (s : State) : Type 0 where
  pub joined : is_joined a.dpid s ≡ true
  pub before : List (List ℕ)
  pub behind : List (List ℕ)
  pub waits : waits_of a.dpid s ≡ before ++ message_bytes a.barrier BarrierReply ∷ behind

-- behind these steps a message of the switch waits, where they come in order and it is joined
abbrev pub ThenWaits : ℕ → List WorldStep → Type 0
ThenWaits d steps = (declared : List Declared) (s : State) → MayComeAll declared steps s → is_joined d s ≡ true → has_waiting d (after_steps steps s) ≡ true
