-- Applications as objects: what one gives at frames of the host. All of this is our own choice.
use Rattle.std.specs.Prelude.{◌≡◌, ℕ, List, ◌∷◌, ◌++◌}
use Rattle.app_objects.specs.declared.object.Step.{Step}

-- ---- What an object gives

-- the bytes that it gives at a frame, and whether it lives on
pub record Reaction : Type 0 where
  pub bytes : List ℕ
  pub step : Step

-- what it gives at each of some frames of the host
abbrev pub Gives : Type 0
Gives = List (List ℕ) → List Reaction

-- what it would give at each of some frames, after it was restored to a checkpoint
abbrev pub Would : Type 0
Would = List ℕ → Gives

-- At a frame it puts bytes behind those that are there, and goes on behind the frame.
pub record Reacts (frame : List ℕ) (step : Step) (old new : Gives) (before after : List ℕ) : Type 0 where
  pub bytes : List ℕ
  pub appended : after ≡ before ++ bytes
  pub gives : (frames : List (List ℕ)) → old (frame ∷ frames) ≡ (record { bytes = bytes; step = step }) ∷ new frames

-- It gives what it would after this checkpoint.
abbrev pub Restored : List ℕ → Would → Gives → Type 0
Restored checkpoint would gives = (frames : List (List ℕ)) → gives frames ≡ would checkpoint frames

-- what it would does not change
abbrev pub SameWould : Would → Would → Type 0
SameWould old new = (checkpoint : List ℕ) (frames : List (List ℕ)) → new checkpoint frames ≡ old checkpoint frames
