-- A world that tells what its switches send in order, none of it missing until a switch is lost, though the bytes may be no messages: with
-- messages it keeps its word. All of this is our own choice.
use Rattle.std.specs.Prelude.{◌≡◌, Bool, true, List, [], ◌∷◌, ◌++◌, Some, is_ok, slice_get}
use Rattle.std.specs.List.{AllByRecursion}
use Rattle.of_types.specs.declared.journal.Act.TheVariants.{Got}
use Rattle.of_wire.specs.Reading.{reading_of}
use Rattle.flow_table.specs.Switch.{Declared}
use Rattle.outside.specs.declared.step.WorldStep.{WorldStep}
use Rattle.outside.specs.declared.step.WorldStep.TheVariants.{Acted, From}
use Rattle.outside.specs.Seen.{Seen}
use Rattle.outside.specs.State.{State, at_first, after_step, waits_of}
use Rattle.outside.specs.Conforming.{AreDeclaredFrom, MayDeclare, IsNext, MayStep}

-- ---- Bytes that come of switches

-- the bytes that the step brings of a switch, where it brings any, are a message
abbrev pub brings_message : WorldStep → Bool
brings_message (From d bytes) = is_ok (reading_of bytes)
brings_message (Acted (Got d bytes)) = is_ok (reading_of bytes)
brings_message other = true

abbrev pub BringMessages : List WorldStep → Type 0
BringMessages steps = AllByRecursion (λ step. brings_message step ≡ true) steps

-- all bytes that came of switches since then are messages
abbrev pub MessagesSince : {Own : Type 0} → Seen Own → Seen Own → Type 0
MessagesSince old new = (steps : List WorldStep) → new.history ≡ old.history ++ steps → BringMessages steps

-- ---- The world

-- the step is one that a world that keeps its word may make, but that the bytes that it brings of a switch may be no message
unfoldable pub MayCome : List Declared → WorldStep → State → Type 0
MayCome declared (From d bytes) s = IsNext (From d bytes) s
MayCome declared (Acted (Got d bytes)) s = slice_get (waits_of d s) 0 ≡ Some bytes
MayCome declared other s = MayStep declared other s

abbrev pub MayComeAll : List Declared → List WorldStep → State → Type 0
MayComeAll declared [] s = Unit {0}
MayComeAll declared (step ∷ steps) s = MayCome declared step s × MayComeAll declared steps (after_step step s)

pub record InOrder {Own : Type 0} (seen : Seen Own) : Type 0 where
  pub declared : AreDeclaredFrom 1 seen.given.declared
  pub switches : AllByRecursion MayDeclare seen.given.declared
  pub steps : MayComeAll seen.given.declared seen.history (at_first seen.given)
