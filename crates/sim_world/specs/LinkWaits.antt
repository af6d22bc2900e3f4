-- How the messages of a switch that wait are held, and the numbers of its link calls that are to fail. All of this is our own choice.
use Rattle.std.specs.Prelude.{ℕ, ◌<◌, List, [], ◌∷◌, ◌++◌, length}
use Rattle.std.specs.List.{flat_map}
use Rattle.switch_sim.specs.Readable.{AreShort}

-- ---- Messages that wait

-- Messages that wait, oldest first, and for how many batches more there is room.
pub record Waiting : Type 0 where
  pub messages : List (List ℕ)
  pub room : ℕ

-- the messages of batches, one batch behind the other
abbrev pub joined : List (List (List ℕ)) → List (List ℕ)
joined batches = flat_map (λ batch. batch) batches

-- the batch at hand and those behind it
abbrev pub all_of : List (List ℕ) → List (List (List ℕ)) → List (List ℕ)
all_of current later = current ++ joined later

-- no batch is empty
abbrev pub AreFilled : List (List (List ℕ)) → Type 0
AreFilled [] = Unit {0}
AreFilled (batch ∷ batches) = (0 < length batch) × AreFilled batches

pub record AreWaits (current : List (List ℕ)) (later : List (List (List ℕ))) : Type 0 where
  pub filled : AreFilled later
  pub short : AreShort (all_of current later)

-- ---- Numbers of calls
