-- Histories that go on with calls for one application, and none for another. All of this is our own.
use Rattle.std.specs.Prelude.{◌≡◌, ◌⊎◌, ℕ, Bool, List, [], ◌∷◌, ◌++◌, map}
use Rattle.std.specs.List.{AllByRecursion}
use Rattle.of_types.specs.declared.journal.Act.{Act}
use Rattle.of_types.specs.declared.journal.Act.TheVariants.{Started, Gave, Gone, Took, Ended}
use Rattle.outside.specs.declared.step.WorldStep.{WorldStep}
use Rattle.outside.specs.declared.step.WorldStep.TheVariants.{Acted, TookInto, NotOpened}
use Rattle.outside.specs.Seen.{Seen}
use Rattle.outside.specs.Quiescence.{NoneQuiescentSince, IsLastQuiescent}
use Rattle.journal_laws.specs.Readings.{Calls}
use Rattle.lego_model.specs.Journal.{give_act}
use Rattle.app_visor.specs.Talks.{step_of}

abbrev pub IsActFor : ℕ → Act → Type 0
IsActFor app (Started of stands) = of ≡ app
IsActFor app (Gave of bytes) = of ≡ app
IsActFor app (Gone of bytes) = of ≡ app
IsActFor app (Took of what) = of ≡ app
IsActFor app (Ended of) = of ≡ app
IsActFor app other = Unit {0}

-- no call for another application, and no opening that failed
abbrev pub IsCallFor : ℕ → WorldStep → Type 0
IsCallFor app (Acted act) = IsActFor app act
IsCallFor app (TookInto of what room) = of ≡ app
IsCallFor app NotOpened = ⊥
IsCallFor app other = Unit {0}

-- The history went on so.
pub record CallsFor {Own : Type 0} (app : ℕ) (old new : Seen Own) : Type 0 where
  pub steps : List WorldStep
  pub history : new.history ≡ old.history ++ steps
  pub all : AllByRecursion (IsCallFor app) steps

-- It went on with calls for the application alone, none of which gave it an event.
pub record OwnSteps {Own : Type 0} (app : ℕ) (old new : Seen Own) : Type 0 where
  pub acts : List Act
  pub history : new.history ≡ old.history ++ map step_of acts
  pub all : Calls app acts

-- It went on with no call for another application, and no point was quiescent since then.
pub record Calmly {Own : Type 0} (app : ℕ) (old new : Seen Own) : Type 0 where
  pub none_quiescent : NoneQuiescentSince old new
  pub own : CallsFor app old new

-- It went on with no call for another application, and no point behind that one was quiescent.
pub record CalmLater {Own : Type 0} (app : ℕ) (old new : Seen Own) : Type 0 where
  pub last : IsLastQuiescent old new
  pub own : CallsFor app old new

-- It was given this frame, or was gone.
pub record IsGiven {Own : Type 0} (app : ℕ) (frame : List ℕ) (old new : Seen Own) : Type 0 where
  pub given : Bool
  pub history : new.history ≡ old.history ++ step_of (give_act given app frame) ∷ []

-- So it began, or memory was wanting before; and it went on with no call for another application, and no point was quiescent since then.
pub record CalmBehind {Own : Type 0} (app : ℕ) (frame : List ℕ) (old new : Seen Own) : Type 0 where
  pub mid : Seen Own
  pub begins : (mid.history ≡ old.history) ⊎ IsGiven app frame old mid
  pub calm : Calmly app mid new
