-- Quiescent points of a history: those before a stimulus, and those before an application is given an event. What lies behind the last one is
-- our own choice to say by steps.
use Rattle.std.specs.Prelude.{◌≡◌, Bool, true, false, List, [], ◌∷◌, ◌++◌}
use Rattle.std.specs.List.{AllByRecursion}
use Rattle.std.specs.Option.{is_some}
use Rattle.of_types.specs.declared.journal.Act.TheVariants.{Stim, Gave}
use Rattle.outside.specs.declared.step.WorldStep.{WorldStep}
use Rattle.outside.specs.declared.step.WorldStep.TheVariants.{Acted}
use Rattle.outside.specs.Seen.{Seen}
use Rattle.outside.specs.State.{event_number}

-- the point before the step is quiescent: it begins a stimulus, or gives an event to an application
abbrev pub is_quiescent : WorldStep → Bool
is_quiescent (Acted (Stim x)) = true
is_quiescent (Acted (Gave app bytes)) = is_some (event_number bytes)
is_quiescent other = false

abbrev pub NoneQuiescent : List WorldStep → Type 0
NoneQuiescent steps = AllByRecursion (λ step. is_quiescent step ≡ false) steps

-- but for the place before the first step
abbrev pub NoneQuiescentLater : List WorldStep → Type 0
NoneQuiescentLater [] = Unit {0}
NoneQuiescentLater (step ∷ steps) = NoneQuiescent steps

-- The history went on, and no point was quiescent since then.
pub record NoneQuiescentSince {Own : Type 0} (old new : Seen Own) : Type 0 where
  pub steps : List WorldStep
  pub history : new.history ≡ old.history ++ steps
  pub none : NoneQuiescent steps

-- The history went on, and no point behind that one was quiescent.
pub record IsLastQuiescent {Own : Type 0} (old new : Seen Own) : Type 0 where
  pub steps : List WorldStep
  pub history : new.history ≡ old.history ++ steps
  pub none_later : NoneQuiescentLater steps
