-- Laws of staging: steps add up, nothing is staged after `keep` and after `drop_staged`, and no other place changes.
use Rattle.std.proofs.Common.{◌≡◌, ℕ, ◌<◌, List, [], ◌∷◌, ◌++◌, length, refl, sym, ap, ◌∙◌, get_or-set_same, length-set}
use Rattle.checkpoint_store.specs.declared.turned.Turned.{Turned}
use Rattle.checkpoint_store.specs.Past.{Past, Step, checkpoints, remembers, forgets, kept_after, remembered_after, after}
use Rattle.checkpoint_store.specs.Slots.{Slot, empty_slot, staged, done, dropped, slot_of, with_slot, HasStaged}

kept_after-append : (kept : List ℕ) (xs ys : List Step) → kept_after kept (xs ++ ys) ≡ kept_after (kept_after kept xs) ys
kept_after-append kept [] ys = refl
kept_after-append kept (checkpoints bytes ∷ xs) ys = kept_after-append bytes xs ys
kept_after-append kept (remembers turn ∷ xs) ys = kept_after-append kept xs ys
kept_after-append kept (forgets ∷ xs) ys = kept_after-append kept xs ys

remembered_after-append : (turns : List Turned) (xs ys : List Step) → remembered_after turns (xs ++ ys) ≡ remembered_after (remembered_after turns xs) ys
remembered_after-append turns [] ys = refl
remembered_after-append turns (checkpoints bytes ∷ xs) ys = remembered_after-append turns xs ys
remembered_after-append turns (remembers turn ∷ xs) ys = remembered_after-append (turns ++ turn ∷ []) xs ys
remembered_after-append turns (forgets ∷ xs) ys = remembered_after-append [] xs ys

-- steps done one after another are the steps of both lists
pub after-append : (past : Past) (xs ys : List Step) → after past (xs ++ ys) ≡ after (after past xs) ys
after-append past xs ys = rw (kept_after-append past.checkpoint xs ys, remembered_after-append past.turns xs ys) refl

-- one step more is staged behind the others
pub HasStaged-staged : (steps : List Step) (step : Step) (slot : Slot) → HasStaged steps slot → HasStaged (steps ++ step ∷ []) (staged step slot)
HasStaged-staged steps step slot h = ap (λ (past : Past). after past (step ∷ [])) h ∙ sym (after-append slot.kept steps (step ∷ []))

-- nothing is staged after `keep`
pub HasStaged-done : (slot : Slot) → HasStaged [] (done slot)
HasStaged-done slot = refl

-- nothing is staged after `drop_staged`
pub HasStaged-dropped : (slot : Slot) → HasStaged [] (dropped slot)
HasStaged-dropped slot = refl

-- the place that changes
pub slot_of-with_slot : (app : ℕ) (change : Slot → Slot) (slots : List Slot) → app < length slots → slot_of app (with_slot app change slots) ≡ change (slot_of app slots)
slot_of-with_slot app change slots lt = get_or-set_same slots app (change (slot_of app slots)) empty_slot lt

-- no place comes and none goes
pub length-with_slot : (app : ℕ) (change : Slot → Slot) (slots : List Slot) → length (with_slot app change slots) ≡ length slots
length-with_slot app change slots = length-set slots app (change (slot_of app slots))
