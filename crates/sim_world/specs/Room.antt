-- A list that grows in room that was made before.
use Rattle.std.specs.Prelude.{◌≡◌, ℕ, ◌+◌, ◌<◌, ◌^◌, List, map, length}
use Rattle.outside.specs.declared.step.WorldStep.{WorldStep}

-- the steps, and for how many more there is room
pub record Roomy : Type 0 where
  pub steps : List WorldStep
  pub room : ℕ

-- the steps of a log that notes nothing beside them
abbrev pub steps_in : {Note : Type 0} → List (WorldStep × Note) → List WorldStep
steps_in log = map (λ entry. entry.0) log

-- the steps are counted, and with those for which there is room they stay few
pub record CountsSteps {Note : Type 0} (log : List (WorldStep × Note)) (count room : ℕ) : Type 0 where
  pub counted : length log ≡ count
  pub few : count + room < 2 ^ 63
