-- The places of a store, one for each application. Our own choice.
use Rattle.std.specs.Prelude.{◌≡◌, ℕ, List, [], ◌∷◌, slice_index_or, slice_set}
use Rattle.checkpoint_store.specs.Past.{Past, Step, no_past, after}

-- an application's place: what is kept of it, and what would be kept if all that is staged were done
pub record Slot : Type 0 where
  pub kept : Past
  pub pending : Past

abbrev pub empty_slot : Slot
empty_slot = record { kept = no_past; pending = no_past }

-- one step more is staged
abbrev pub staged : Step → Slot → Slot
staged step slot = record slot { pending = after slot.pending (step ∷ []) }

-- all that is staged is done, in the order in which it was staged
abbrev pub done : Slot → Slot
done slot = record { kept = slot.pending; pending = slot.pending }

-- all that is staged is dropped
abbrev pub dropped : Slot → Slot
dropped slot = record { kept = slot.kept; pending = slot.kept }

-- what is staged amounts to these steps
abbrev pub HasStaged : List Step → Slot → Type 0
HasStaged steps slot = slot.pending ≡ after slot.kept steps

-- the place of an application
abbrev pub slot_of : ℕ → List Slot → Slot
slot_of app slots = slice_index_or slots app empty_slot

-- the place of an application changed, and each other as it was
abbrev pub with_slot : ℕ → (Slot → Slot) → List Slot → List Slot
with_slot app change slots = slice_set slots app (change (slot_of app slots))
