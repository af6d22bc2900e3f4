-- Quiescent points of a run: those before a stimulus, and those before an application is given its first event of a number. An application may be
-- given several events of one number, since what it is given in place of an event has the number of that event: between their turns there is no
-- such point, also where it was gone at the first of them. All of this is our own.
use Rattle.std.specs.Prelude.{◌≡◌, ◌==◌, ◌&&◌, ℕ, Bool, true, false, not, List, [], ◌∷◌, ◌++◌, Option, Some, None}
use Rattle.std.specs.List.{list_any}
use Rattle.of_types.specs.declared.journal.Act.TheVariants.{Stim, Gave, Gone}
use Rattle.outside.specs.declared.step.WorldStep.{WorldStep}
use Rattle.outside.specs.declared.step.WorldStep.TheVariants.{Acted}
use Rattle.outside.specs.Seen.{Seen}
use Rattle.outside.specs.State.{event_number, is_event}

-- the step gives the application an event of the number, or was to, and it was gone
abbrev pub gives_numbered : ℕ → ℕ → WorldStep → Bool
gives_numbered app number (Acted (Gave to bytes)) = to == app && is_event number (event_number bytes)
gives_numbered app number (Acted (Gone to bytes)) = to == app && is_event number (event_number bytes)
gives_numbered app number other = false

-- one of these steps did
abbrev pub was_given : ℕ → ℕ → List WorldStep → Bool
was_given app number steps = list_any (gives_numbered app number) steps

abbrev pub is_first_given : ℕ → Option ℕ → List WorldStep → Bool
is_first_given app None before = false
is_first_given app (Some number) before = not (was_given app number before)

-- The point behind these steps, before this one, is quiescent: the step begins a stimulus, or gives an application its first event of a number.
abbrev pub is_point : List WorldStep → WorldStep → Bool
is_point before (Acted (Stim x)) = true
is_point before (Acted (Gave app bytes)) = is_first_given app (event_number bytes) before
is_point before other = false

abbrev pub NoPoints : List WorldStep → List WorldStep → Type 0
NoPoints before [] = Unit {0}
NoPoints before (step ∷ steps) = (is_point before step ≡ false) × NoPoints (before ++ step ∷ []) steps

-- but for the place before the first step
abbrev pub NoPointsLater : List WorldStep → List WorldStep → Type 0
NoPointsLater before [] = Unit {0}
NoPointsLater before (step ∷ steps) = NoPoints (before ++ step ∷ []) steps

-- The history went on, and no point was quiescent since then.
pub record NoPointSince {Own : Type 0} (old new : Seen Own) : Type 0 where
  pub steps : List WorldStep
  pub history : new.history ≡ old.history ++ steps
  pub none : NoPoints old.history steps

-- The history went on, and no point behind that one was quiescent.
pub record IsLastPoint {Own : Type 0} (old new : Seen Own) : Type 0 where
  pub steps : List WorldStep
  pub history : new.history ≡ old.history ++ steps
  pub none_later : NoPointsLater old.history steps
