-- The lives of applications that are objects: what a start, a frame, a take and an end do to one. The type of the objects, and what one
-- gives, stand beside. All of this is our own choice.
use Rattle.std.specs.Prelude.{◌≡◌, ℕ, ◌==◌, ◌&&◌, Bool, true, false, List, [], ◌∷◌, ◌++◌, drop, take, length, nat_le, Option, Some, None, IfSome}
use Rattle.std.specs.List.{list_any}
use Rattle.of_types.specs.Fields.{number_at}
use Rattle.of_types.specs.declared.journal.TookWhat.{TookWhat}
use Rattle.of_types.specs.declared.journal.TookWhat.TheVariants as took
use Rattle.app_objects.specs.declared.object.Step.TheVariants.{Alive}
use Rattle.boxed_world.specs.declared.life.Death.{Death}
use Rattle.app_objects.specs.Machine.{Gives, Would, Reacts, Restored, SameWould}

-- ---- Frames of the host

-- a Restore, kind 1 behind the length, with its checkpoint behind the kind
unfoldable pub is_restore : List ℕ → Bool
is_restore frame = nat_le 5 (length frame) && (number_at 1 4 frame == 1)

-- ---- A start

-- The last of the spares is the application then, and nothing that was given before waits.
pub record Begins {O : Type 0} (before after : List O) (object : Option O) (held : List ℕ) : Type 0 where
  pub next : O
  pub spares : before ≡ after ++ next ∷ []
  pub object_is : object ≡ Some next
  pub none_held : held ≡ []

-- ---- A frame of the host

-- An object that lives on behind a frame: restored by a Restore, and answering Ready, kind 6 with no body; else as it reacts.
pub record Goes {O : Type 0} (gives : O → Gives) (would : O → Would) (frame : List ℕ) (old new : O) (before after : List ℕ) : Type 0 where
  pub same : SameWould (would old) (would new)
  pub restored : is_restore frame ≡ true → Restored (drop 5 frame) (would old) (gives new) × (after ≡ before ++ 0 ∷ 0 ∷ 0 ∷ 1 ∷ 6 ∷ [])
  pub reacted : is_restore frame ≡ false → Reacts frame Alive (gives old) (gives new) before after

-- One that dies at it gives nothing for it; one that is dead stays dead.
pub record Fed {O : Type 0} (gives : O → Gives) (would : O → Would) (frame : List ℕ) (old new : Option O) (before after : List ℕ) : Type 0 where
  pub goes : IfSome old (λ o. IfSome new (λ p. Goes gives would frame o p before after))
  pub dies : new ≡ None → after ≡ before
  pub dead : old ≡ None → new ≡ None

-- ---- A take

-- what is given into so much room: what waits, else nothing yet of one that lives
abbrev pub next_given : Bool → ℕ → List ℕ → TookWhat
next_given alive room (b ∷ bs) = took.Bytes (take room (b ∷ bs))
next_given true room [] = took.Silent
next_given false room [] = took.Closed

-- where the take is a death, the end is closed
abbrev pub next_taken : Bool → Bool → ℕ → List ℕ → TookWhat
next_taken true alive room held = took.Closed
next_taken false alive room held = next_given alive room held

abbrev pub held_after : Bool → ℕ → List ℕ → List ℕ
held_after true room held = []
held_after false room held = drop room held

abbrev pub object_after : {O : Type 0} → Bool → Option O → Option O
object_after true object = None
object_after false object = object

abbrev pub is_death : ℕ → ℕ → Death → Bool
is_death app number death = (death.app == app) && (death.number == number)

-- the application dies at its take of this number
abbrev pub dies_at : ℕ → ℕ → List Death → Bool
dies_at app number deaths = list_any (is_death app number) deaths

-- What becomes of a life in a take.
pub record LifeTaken {O : Type 0} (death : Bool) (room : ℕ) (old new : Option O) (before after : List ℕ) : Type 0 where
  pub object : new ≡ object_after death old
  pub held : after ≡ held_after death room before
