-- Laws of longer journals: what they tell is what their parts tell.
use Rattle.std.proofs.Common.{◌≡◌, ℕ, Bool, List, [], ◌∷◌, ◌++◌, refl}
use Rattle.std.proofs.lemmas.List.Elements.{filter_map-append}
use Rattle.of_types.specs.declared.journal.Act.{Act}
use Rattle.of_types.specs.declared.journal.Act.TheVariants.{Stim, Started, Gave, Gone, Took, Ended, Sent, Got, Lost}
pub use Rattle.outside.specs.laws.StimuliLaws.{stimuli-append}
use Rattle.lego_model.specs.Journal.{Journal, given_to, inputs, lost_in, losses, in_attempts, released, is_of}
use Rattle.std.specs.List.{filter}
use Rattle.outside.specs.Stimuli.{stimuli}
use Rattle.outside.specs.Seen.{journal}

pub inputs-append : (app : ℕ) (first next : Journal) → inputs app (first ++ next) ≡ inputs app first ++ inputs app next
unfolding inputs
inputs-append app first next = filter_map-append (given_to app) first next

pub losses-append : (first next : Journal) → losses (first ++ next) ≡ losses first ++ losses next
unfolding losses
losses-append first next = filter_map-append lost_in first next

-- ---- Attempts

-- a further attempt to start stands behind those before it
pub in_attempts-started : (acts : List Act) (app : ℕ) (stands : Bool) (more : List Act)
    → in_attempts (acts ++ Started app stands ∷ more)
    ≡ ((in_attempts acts).0, (in_attempts acts).1 ++ record { stands = stands; acts = (in_attempts more).0 } ∷ (in_attempts more).1)
in_attempts-started [] app stands more = refl
in_attempts-started (Started a s ∷ acts) app stands more = rw (in_attempts-started acts app stands more) refl
in_attempts-started (Stim s ∷ acts) app stands more = rw (in_attempts-started acts app stands more) refl
in_attempts-started (Gave a b ∷ acts) app stands more = rw (in_attempts-started acts app stands more) refl
in_attempts-started (Gone a b ∷ acts) app stands more = rw (in_attempts-started acts app stands more) refl
in_attempts-started (Took a w ∷ acts) app stands more = rw (in_attempts-started acts app stands more) refl
in_attempts-started (Ended a ∷ acts) app stands more = rw (in_attempts-started acts app stands more) refl
in_attempts-started (Sent d b ∷ acts) app stands more = rw (in_attempts-started acts app stands more) refl
in_attempts-started (Got d b ∷ acts) app stands more = rw (in_attempts-started acts app stands more) refl
in_attempts-started (Lost d ∷ acts) app stands more = rw (in_attempts-started acts app stands more) refl

-- ---- Turns

-- ---- Where nothing happened

pub stimuli-nil : stimuli (journal []) ≡ []
unfolding stimuli journal
stimuli-nil = refl

pub released-nil : released (journal []) ≡ []
unfolding released journal
released-nil = refl

pub acts-nil : (app : ℕ) → filter (is_of app) (journal []) ≡ []
unfolding journal
acts-nil app = refl
