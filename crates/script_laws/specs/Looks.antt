-- How far a reply or a start is looked at. All of this is our own.
use Rattle.std.specs.Prelude.{◌≡◌, Bool, true, false, List, []}
use Rattle.of_types.specs.declared.journal.Act.{Act}
use Rattle.app_frames.specs.declared.script.ScriptStep.{ScriptStep}
use Rattle.lego_model.specs.Journal.{End, Untold, pieces, end_from}
use Rattle.lego_model.specs.Scripted.{pieces_said, end_said, IsLookedAt}

-- nothing is taken
pub record TakesNothing (acts : List Act) : Type 0 where
  pub pieces_is : pieces acts ≡ []
  pub end_is : (before : End) → end_from before acts ≡ before

-- what is taken is the front of what these steps give
abbrev pub LooksAt : List ScriptStep → List Act → Type 0
LooksAt left acts = IsLookedAt (pieces acts) (end_from Untold acts) (pieces_said left) (end_said left)

-- where the end was taken nothing is, and else the front of these steps
pub record Looks (ended : Bool) (left : List ScriptStep) (acts : List Act) : Type 0 where
  pub quiet : ended ≡ true → TakesNothing acts
  pub looked : ended ≡ false → LooksAt left acts
