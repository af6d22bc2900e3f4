-- Laws of a log that grows by one step.
use Rattle.std.specs.Prelude.{◌≡◌, ℕ, ◌+◌, ◌-◌, ◌≤◌, List, [], ◌∷◌, ◌++◌}
use Rattle.std.proofs.Common.{arith, length-append}
use Rattle.std.proofs.lemmas.List.{map-append}
use Rattle.outside.specs.declared.step.WorldStep.{WorldStep}
use Rattle.sim_world.specs.Room.{steps_in, CountsSteps}

pub noted_more : {Note : Type 0} (log : List (WorldStep × Note)) (step : WorldStep) (note : Note) → steps_in (log ++ (step, note) ∷ []) ≡ steps_in log ++ step ∷ []
noted_more {Note} log step note = map-append (λ (entry : WorldStep × Note). entry.0) log ((step, note) ∷ [])

pub counted_more : {Note : Type 0} (log : List (WorldStep × Note)) (step : WorldStep) (note : Note) (count room : ℕ) → CountsSteps log count room → 1 ≤ room → CountsSteps (log ++ (step, note) ∷ []) (count + 1) (room - 1)
counted_more log step note count room counts some = record {
  counted = omega (arith, counts.counted, length-append log ((step, note) ∷ []));
  few = omega (arith, counts.few, some);
}
