-- How many rounds a run has at most. A run so far: there is room for an undo, the index of each application is its place, the messages that are
-- kept were read, nothing is staged, and each switch that was lost is told. All of this is our own.
use Rattle.std.specs.Prelude.{◌≡◌, ◌==◌, ◌<◌, ◌≤◌, ◌+◌, ℕ, false, List, [], ◌∷◌, length, IsOk}
use Rattle.std.specs.List.{AllByRecursion}
use Rattle.of_types.specs.Fields.{number_at}
use Rattle.of_wire.specs.Reading.{reading_of}
use Rattle.checkpoint_store.specs.Slots.{Slot, slot_of, HasStaged}
use Rattle.crash_policy.specs.declared.policy_file.AppRule.{AppRule}
use Rattle.event_dispatch.specs.declared.engine_core.Core.{Core}
use Rattle.event_dispatch.specs.declared.run.Managed.{Managed}
use Rattle.event_dispatch.specs.declared.run.Run.{Run}

-- a run has at most so many rounds
abbrev pub most_rounds : ℕ
most_rounds = 1000000000

-- messages that were read, none of which is an ECHO_REQUEST (2), since such ones are answered at once (OpenFlow 1.0.0, 5.5.2 Echo Request)
abbrev pub AreRead : List (ℕ × List ℕ) → Type 0
AreRead kept = AllByRecursion (λ m. IsOk (reading_of m.1) × ((number_at 1 1 m.1 == 2) ≡ false)) kept

-- nothing is staged for any application
abbrev pub StoreRests : List Slot → Type 0
StoreRests slots = (i : ℕ) → i < length slots → HasStaged [] (slot_of i slots)

pub record CoreGoes (c : Core) : Type 0 where
  pub room : 1 ≤ c.net.room
  pub read : AreRead c.net.kept
  pub store : StoreRests c.store
  pub left : c.net.left ≡ []

-- the place of each is its index, from one on
abbrev pub AreNumbered : ℕ → List Managed → Type 0
AreNumbered i [] = Unit {0}
AreNumbered i (m ∷ more) = (m.state.index ≡ i) × AreNumbered (i + 1) more

-- what is kept, with applications
pub record AreGoing (c : Core) (apps : List Managed) : Type 0 where
  pub core : CoreGoes c
  pub numbered : AreNumbered 0 apps
  pub number : length c.store ≡ length apps

abbrev pub Going : Run → Type 0
Going r = AreGoing r.core r.apps.items

-- the same application, which ended no turn
pub record SameManaged (m now_m : Managed) : Type 0 where
  pub index : now_m.state.index ≡ m.state.index
  pub rule : now_m.rule ≡ m.rule
  pub done : now_m.done ≡ m.done
  pub failed : now_m.failed ≡ m.failed

-- applications of these rules, of which nothing has happened, from an index on
pub record IsFresh (i : ℕ) (rule : AppRule) (m : Managed) : Type 0 where
  pub rule_is : m.rule.now ≡ rule
  pub state_is : m.state ≡ record { index = i; alive = false; rest = []; buffer = tt }
  pub done : m.done ≡ 0
  pub failed : m.failed ≡ 0

abbrev pub AreFresh : ℕ → List AppRule → List Managed → Type 0
AreFresh i [] [] = Unit {0}
AreFresh i (rule ∷ rules) (m ∷ more) = IsFresh i rule m × AreFresh (i + 1) rules more
AreFresh i [] (m ∷ more) = ⊥
AreFresh i (rule ∷ rules) [] = ⊥

-- no event was dispatched, and the checkpoints are as they were
pub record Waits (old new : Core) : Type 0 where
  pub room : new.net.room ≡ old.net.room
  pub events : new.events ≡ old.events
  pub store : new.store ≡ old.store
  pub left : old.net.left ≡ [] → new.net.left ≡ []

-- and so it is at the end of a report, where a switch that is lost is told in its place, and makes no event
pub record WaitsAtEnd (old new : Core) : Type 0 where
  pub room : new.net.room ≡ old.net.room
  pub events : new.events ≡ old.events
  pub store : new.store ≡ old.store
