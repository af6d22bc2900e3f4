-- Steps that are in order: no call of a link failed but by the loss of its switch, nor one for what comes next, and the calls for applications
-- are of one, whose bytes are taken up to 65,536 at once. All of this is our own.
use Rattle.std.specs.Prelude.{◌≡◌, ℕ, List, ◌++◌}
use Rattle.std.specs.List.{AllByRecursion}
use Rattle.outside.specs.declared.step.WorldStep.{WorldStep}
use Rattle.outside.specs.Seen.{Seen}
use Rattle.lego_model.specs.OrderlySteps.{IsOrderly}

-- the history goes on by such steps
pub record OrderlySince {Own : Type 0} (app : ℕ) (old new : Seen Own) : Type 0 where
  pub steps : List WorldStep
  pub history : new.history ≡ old.history ++ steps
  pub orderly : AllByRecursion (IsOrderly app) steps
