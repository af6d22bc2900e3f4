-- What a fault leaves of the tables of switches where an application may have had more than one turn at an event: the first of them failed and was
-- undone, and then came those at the events that it was given in its place, which are kept or undone together. All of this is our own.
use Rattle.std.specs.Prelude.{◌≡◌, ◌⊎◌, ℕ, Bool, true, List, [], ◌∷◌, ◌++◌, Some, slice_get}
use Rattle.std.specs.Option.{option_map}
use Rattle.of_types.specs.declared.journal.Act.{Act}
use Rattle.crash_policy.specs.Policies.{AppValue}
use Rattle.outside.specs.declared.step.WorldStep.{WorldStep}
use Rattle.outside.specs.Seen.{Seen, Longer, Continues, journal}
use Rattle.outside.specs.State.{state, switch_of}
use Rattle.lego_model.specs.History.{own_acts}
use Rattle.lego_model.specs.Journal.{is_event, released, give_act}
use Rattle.lego_model.specs.AfterFault.{NoEventSince, UndoneButFailed, WasLost, TurnDone, SwitchesStay, after_packets, TablesLeft, TablesBehind}

-- ---- Turns that were whole

-- some turns of an application were, one behind the other, and so the world stood between them
abbrev pub TurnsDone : {Own : Type 0} → ℕ → ℕ → List (Seen Own) → Seen Own → Seen Own → Type 0
TurnsDone app budget [] old new = TurnDone app budget old new
TurnsDone app budget (mid ∷ more) old new = TurnDone app budget old mid × TurnsDone app budget more mid new

pub record AllDone {Own : Type 0} (app budget : ℕ) (old new : Seen Own) : Type 0 where
  pub between : List (Seen Own)
  pub done : TurnsDone app budget between old new

-- Behind a point where something is whole no switch moved, so that its changes stay.
pub record StaysWhole {Own : Type 0} (Whole : Seen Own → Type 0) (new : Seen Own) : Type 0 where
  pub mid : Seen Own
  pub given : new.given ≡ mid.given
  pub done : Whole mid
  pub later : Longer mid.history new.history
  pub stay : SwitchesStay mid new

-- Behind it a release was begun. Each switch moved by the packets that were sent to it behind that, and by nothing else, so that the changes stay, or it
-- was lost.
pub record IsReleasing {Own : Type 0} (Whole : Seen Own → Type 0) (new : Seen Own) : Type 0 where
  pub mid : Seen Own
  pub given : new.given ≡ mid.given
  pub done : Whole mid
  pub first : WorldStep
  pub steps : List WorldStep
  pub history : new.history ≡ mid.history ++ first ∷ steps
  pub moved : (d : ℕ) → (switch_of d (state new) ≡ option_map (after_packets d (released (journal (first ∷ steps)))) (switch_of d (state mid))) ⊎ WasLost d mid new

-- ---- Turns in place of an event

-- What is left of such turns, from where the first of them began: none was given an event since then; or they were undone on each switch that did not fail
-- in the undo and was not lost; or, where memory may have been wanting behind them, they were whole, and their changes stay; or their packets were
-- being released.
abbrev pub GroupLeft : {Own : Type 0} → ℕ → ℕ → Type 0 → Seen Own → Seen Own → Type 0
GroupLeft app budget Short old new =
    NoEventSince old new ⊎ UndoneButFailed (Unit {0}) old new ⊎ (Short × StaysWhole (AllDone app budget old) new) ⊎ IsReleasing (AllDone app budget old) new

-- The application was given an event, or was gone; its turn was undone; and so much is left of the turns that it had then.
pub record InsteadLeft {Own : Type 0} (app budget : ℕ) (Short : Type 0) (old new : Seen Own) : Type 0 where
  pub begun : Seen Own
  pub given : Bool
  pub event : List ℕ
  pub event_is : is_event event ≡ true
  pub acts : List Act
  pub history : own_acts app begun ≡ own_acts app old ++ give_act given app event ∷ acts
  pub undone : UndoneButFailed (Unit {0}) old begun
  pub later : Continues (Unit {0}) begun new
  pub left : GroupLeft app budget Short begun new

-- ---- What is left of what an application had at an event

abbrev pub EventLeft : {Own : Type 0} → ℕ → ℕ → Type 0 → Seen Own → Seen Own → Type 0
EventLeft app budget Short old new = TablesLeft app budget Short old new ⊎ InsteadLeft app budget Short old new

-- one of these applications had turns in place of an event, or was in one
pub record InsteadBehind {Own : Type 0} (rules : List AppValue) (Short : Type 0) (old new : Seen Own) : Type 0 where
  pub app : ℕ
  pub rule : AppValue
  pub rule_is : slice_get rules app ≡ Some rule
  pub left : InsteadLeft app rule.budget Short old new

-- No event was given since then, or one of the applications had its turn, or was in it; or so it was with turns in place of an event.
abbrev pub TurnsBehind : {Own : Type 0} → List AppValue → Type 0 → Seen Own → Seen Own → Type 0
TurnsBehind rules Short old new = TablesBehind rules Short old new ⊎ InsteadBehind rules Short old new
