-- Runs of a cutter: what its calls took and what they gave, in their order. Calls that change nothing are left out.
use Rattle.std.specs.Prelude.{◌≡◌, ℕ, List, [], ◌∷◌, ◌++◌}
use Rattle.of_stream.specs.Frames.{IsFrame}

pub data Step : Type 0 where
  -- these bytes were fed
  fed : List ℕ → Step
  -- this frame was handed out
  handed_out : List ℕ → Step

-- the steps lead from the bytes held before to the bytes held after, each as its call says
abbrev pub Leads : List Step → List ℕ → List ℕ → Type 0
Leads [] old new = new ≡ old
Leads (fed bytes ∷ steps) old new = Leads steps (old ++ bytes) new
Leads (handed_out frame ∷ steps) old new = IsFrame frame × ((left : List ℕ) × (old ≡ frame ++ left) × Leads steps left new)

abbrev pub bytes_fed : List Step → List ℕ
bytes_fed [] = []
bytes_fed (fed bytes ∷ steps) = bytes ++ bytes_fed steps
bytes_fed (handed_out frame ∷ steps) = bytes_fed steps

abbrev pub frames_handed_out : List Step → List (List ℕ)
frames_handed_out [] = []
frames_handed_out (fed bytes ∷ steps) = frames_handed_out steps
frames_handed_out (handed_out frame ∷ steps) = frame ∷ frames_handed_out steps
