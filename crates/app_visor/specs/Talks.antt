-- One call for an application as the world answered it, and what a telling world's history has of it. All of this is our own choice.
use Rattle.std.specs.Prelude.{◌≡◌, ℕ, false, [], ◌∷◌, ◌++◌}
use Rattle.lego_io.specs.Count.{Rose}
use Rattle.of_types.specs.declared.journal.Act.{Act}
use Rattle.of_types.specs.declared.journal.Act.TheVariants.{Started, Gone, Took}
use Rattle.of_types.specs.declared.journal.TookWhat.TheVariants.{Closed, Silent}
use Rattle.outside.specs.declared.step.WorldStep.{WorldStep}
use Rattle.outside.specs.declared.step.WorldStep.TheVariants.{Acted, TookInto}
use Rattle.outside.specs.Seen.{Counts, Seen, Continues}

-- how many bytes are taken at most at once
abbrev pub room : ℕ
room = 65536

abbrev pub step_of : Act → WorldStep
step_of (Took app what) = TookInto app what room
step_of act = Acted act

-- the count that rose where the call failed
abbrev pub Rises : Act → Counts → Counts → Type 0
Rises (Started app false) old new = Rose old.starts_failed new.starts_failed
Rises (Gone app bytes) old new = Rose old.closings new.closings
Rises (Took app Closed) old new = Rose old.closings new.closings
Rises (Took app Silent) old new = Rose old.silences new.silences
Rises act old new = Unit {0}

-- what one call did: a world that tells appends this act, and a call that failed has its count
pub record Told {Own : Type 0} (Tells : Type 0) (act : Act) (old new : Seen Own) : Type 0 where
  pub continues : Continues Tells old new
  pub history : Tells → new.history ≡ old.history ++ step_of act ∷ []
  pub rises : Rises act old.counts new.counts

-- memory was wanting: a world that tells appended nothing
pub record Wants {Own : Type 0} (Tells : Type 0) (old new : Seen Own) : Type 0 where
  pub continues : Continues Tells old new
  pub history : Tells → new.history ≡ old.history
