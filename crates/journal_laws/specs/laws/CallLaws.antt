-- Laws of the acts of an application: what it was given is what its own acts say, and calls for it tell of no stimulus.
use Rattle.std.specs.Prelude.{◌≡◌, ◌==◌, ℕ, Bool, true, false, not, ◌&&◌, List, [], ◌∷◌, ◌++◌, filter, refl}
use Rattle.std.specs.List.{AllByRecursion}
use Rattle.std.proofs.Common.{sym, ap, ◌∙◌, true≢false}
use Rattle.std.proofs.lemmas.Bool.{and_parts}
use Rattle.of_types.specs.declared.journal.Act.{Act}
use Rattle.of_types.specs.declared.journal.Act.TheVariants.{Stim, Started, Gave, Gone, Took, Ended, Sent, Got, Lost}
use Rattle.lego_model.specs.Journal.{stimuli, inputs, is_of, is_event}
use Rattle.journal_laws.specs.Readings.{is_within, Within, is_call, Calls}

-- an application is given what its own acts say
pub inputs_own : (app : ℕ) (acts : List Act) → inputs app (filter (is_of app) acts) ≡ inputs app acts
unfolding inputs
inputs_own app [] = refl
inputs_own app (Gave to bytes ∷ acts) = elim (to == app) as (λ t. (to == app) ≡ t → inputs app (filter (is_of app) (Gave to bytes ∷ acts)) ≡ inputs app (Gave to bytes ∷ acts)) [
  | true ↦ λ t. rw (t, t) (ap (λ (x : List (List ℕ)). bytes ∷ x) (inputs_own app acts))
  | false ↦ λ t. rw t (inputs_own app acts)
] refl
inputs_own app (Gone to bytes ∷ acts) = elim (to == app) as (λ t. (to == app) ≡ t → inputs app (filter (is_of app) (Gone to bytes ∷ acts)) ≡ inputs app (Gone to bytes ∷ acts)) [
  | true ↦ λ t. rw t (inputs_own app acts)
  | false ↦ λ t. rw t (inputs_own app acts)
] refl
inputs_own app (Took from what ∷ acts) = elim (from == app) as (λ t. (from == app) ≡ t → inputs app (filter (is_of app) (Took from what ∷ acts)) ≡ inputs app (Took from what ∷ acts)) [
  | true ↦ λ t. rw t (inputs_own app acts)
  | false ↦ λ t. rw t (inputs_own app acts)
] refl
inputs_own app (Ended of ∷ acts) = elim (of == app) as (λ t. (of == app) ≡ t → inputs app (filter (is_of app) (Ended of ∷ acts)) ≡ inputs app (Ended of ∷ acts)) [
  | true ↦ λ t. rw t (inputs_own app acts)
  | false ↦ λ t. rw t (inputs_own app acts)
] refl
inputs_own app (Started of stands ∷ acts) = elim (of == app) as (λ t. (of == app) ≡ t → inputs app (filter (is_of app) (Started of stands ∷ acts)) ≡ inputs app (Started of stands ∷ acts)) [
  | true ↦ λ t. rw t (inputs_own app acts)
  | false ↦ λ t. rw t (inputs_own app acts)
] refl
inputs_own app (Stim x ∷ acts) = inputs_own app acts
inputs_own app (Sent d bytes ∷ acts) = inputs_own app acts
inputs_own app (Got d bytes ∷ acts) = inputs_own app acts
inputs_own app (Lost d ∷ acts) = inputs_own app acts

-- ---- Calls for an application

pub call_within : (app : ℕ) (act : Act) → is_within app act ≡ true → is_call app act ≡ true
call_within app (Started of stands) is = absurd (true≢false (sym is))
call_within app (Gave to bytes) is = is
call_within app (Gone to bytes) is = is
call_within app (Took from what) is = is
call_within app (Ended of) is = is
call_within app (Stim x) is = is
call_within app (Sent d bytes) is = is
call_within app (Got d bytes) is = is
call_within app (Lost d) is = is

pub calls_within : (app : ℕ) (acts : List Act) → Within app acts → Calls app acts
calls_within app [] all = tt
calls_within app (act ∷ acts) all = (call_within app act all.0, calls_within app acts all.1)

pub calls_both : (app : ℕ) (xs ys : List Act) → Calls app xs → Calls app ys → Calls app (xs ++ ys)
calls_both app [] ys all rest = rest
calls_both app (x ∷ xs) ys all rest = (all.0, calls_both app xs ys all.1 rest)

pub both_second : (x y : Bool) → (x && not y) ≡ true → y ≡ false
both_second true true is = absurd (true≢false (sym is))
both_second true false is = refl
both_second false y is = absurd (true≢false (sym is))

pub call_of : (app : ℕ) (act : Act) → is_call app act ≡ true → is_of app act ≡ true
call_of app (Started of stands) is = is
call_of app (Gave to bytes) is = (and_parts (to == app) (not (is_event bytes)) is).0
call_of app (Gone to bytes) is = (and_parts (to == app) (not (is_event bytes)) is).0
call_of app (Took from what) is = is
call_of app (Ended of) is = is
call_of app (Stim x) is = is
call_of app (Sent d bytes) is = is
call_of app (Got d bytes) is = is
call_of app (Lost d) is = is

-- each is of the application
pub calls_own : (app : ℕ) (acts : List Act) → Calls app acts → AllByRecursion (λ act. is_of app act ≡ true) acts
calls_own app [] all = tt
calls_own app (act ∷ acts) all = (call_of app act all.0, calls_own app acts all.1)

pub calls_of : (app : ℕ) (acts : List Act) → Calls app acts → filter (is_of app) acts ≡ acts
calls_of app [] all = refl
calls_of app (act ∷ acts) all = rw (call_of app act all.0) (ap (λ (xs : List Act). act ∷ xs) (calls_of app acts all.1))

pub stimulus_called : (app : ℕ) (act : Act) (acts : List Act) → is_of app act ≡ true → stimuli (act ∷ acts) ≡ stimuli acts
unfolding stimuli
stimulus_called app (Started of stands) acts is = refl
stimulus_called app (Gave to bytes) acts is = refl
stimulus_called app (Gone to bytes) acts is = refl
stimulus_called app (Took from what) acts is = refl
stimulus_called app (Ended of) acts is = refl
stimulus_called app (Stim x) acts is = absurd (true≢false (sym is))
stimulus_called app (Sent d bytes) acts is = refl
stimulus_called app (Got d bytes) acts is = refl
stimulus_called app (Lost d) acts is = refl

pub no_stimuli : (app : ℕ) (acts : List Act) → Calls app acts → stimuli acts ≡ []
unfolding stimuli
no_stimuli app [] all = refl
no_stimuli app (act ∷ acts) all = stimulus_called app act acts (call_of app act all.0) ∙ no_stimuli app acts all.1
