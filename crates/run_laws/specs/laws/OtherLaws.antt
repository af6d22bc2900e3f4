-- Laws of applications of which nothing is told for a while: a call for another one tells nothing of it, so that it stays as it was.
use Rattle.std.proofs.Common.{◌≡◌, ◌==◌, ℕ, false, List, [], ◌∷◌, ◌++◌, filter, refl, sym, ap, ap₂, ◌∙◌, subst, append_assoc, inl, inr}
use Rattle.std.specs.List.{AllByRecursion}
use Rattle.std.proofs.lemmas.Bool.{cases_Bool, eqb-true}
use Rattle.std.proofs.lemmas.List.{append-nil}
use Rattle.std.proofs.lemmas.List.Elements.{filter-append}
use Rattle.of_types.specs.declared.journal.Act.{Act}
use Rattle.of_types.specs.declared.journal.Act.TheVariants.{Stim, Started, Gave, Gone, Took, Ended, Sent, Got, Lost}
use Rattle.lego_model.specs.Journal.{is_of, inputs}
use Rattle.lego_model.specs.laws.JournalLaws.{inputs-append}
use Rattle.lego_model.specs.AtOnce.{AtOnce}
use Rattle.lego_model.specs.History.{own_acts, given_in}
use Rattle.journal_laws.specs.Readings.{LastStands}
use Rattle.outside.specs.declared.step.WorldStep.{WorldStep}
use Rattle.outside.specs.declared.step.WorldStep.TheVariants.{Acted, TookInto, From, Joined, Left, Moment, Idle, End, Opened, NotOpened, NextFailed, SendLost, RecvLost, SendFailed, RecvFailed}
use Rattle.outside.specs.Seen.{Seen, journal}
use Rattle.outside.specs.laws.SeenLaws.{journal-append}
use Rattle.app_visor.specs.CallsFor.{IsCallFor, CallsFor}
use Rattle.run_laws.specs.Engine.{Application}
use Rattle.run_laws.specs.LinkSteps.{Silent}
use Rattle.run_laws.specs.Moves.{IsAtRest}
use Rattle.run_laws.specs.laws.DialogueLaws.{others_at_once}

-- ---- Calls for another application

-- a call for one application is for no other
not-of : (i j of : ℕ) → of ≡ i → (j ≡ i → ⊥) → (of == j) ≡ false
not-of i j of is other =
    elim (cases_Bool (of == j)) [
      | inl same ↦ absurd (other (sym (eqb-true of j same) ∙ is))
      | inr differs ↦ differs
    ]

call-silent : (i j : ℕ) (step : WorldStep) (steps : List WorldStep) → IsCallFor i step → (j ≡ i → ⊥) → filter (is_of j) (journal steps) ≡ [] → filter (is_of j) (journal (step ∷ steps)) ≡ []
unfolding journal
call-silent i j (Acted (Started of stands)) steps is other none = rw (not-of i j of is other) none
call-silent i j (Acted (Gave of bytes)) steps is other none = rw (not-of i j of is other) none
call-silent i j (Acted (Gone of bytes)) steps is other none = rw (not-of i j of is other) none
call-silent i j (Acted (Took of what)) steps is other none = rw (not-of i j of is other) none
call-silent i j (Acted (Ended of)) steps is other none = rw (not-of i j of is other) none
call-silent i j (Acted (Stim x)) steps is other none = none
call-silent i j (Acted (Sent d bytes)) steps is other none = none
call-silent i j (Acted (Got d bytes)) steps is other none = none
call-silent i j (Acted (Lost d)) steps is other none = none
call-silent i j (TookInto of what room) steps is other none = rw (not-of i j of is other) none
call-silent i j (From d bytes) steps is other none = none
call-silent i j (Joined d bytes) steps is other none = none
call-silent i j (Left d) steps is other none = none
call-silent i j (Moment t) steps is other none = none
call-silent i j Idle steps is other none = none
call-silent i j End steps is other none = none
call-silent i j Opened steps is other none = none
call-silent i j NotOpened steps is other none = absurd is
call-silent i j NextFailed steps is other none = none
call-silent i j (SendLost d) steps is other none = none
call-silent i j (RecvLost d) steps is other none = none
call-silent i j (SendFailed d) steps is other none = none
call-silent i j (RecvFailed d) steps is other none = none

steps-silent : (i j : ℕ) (steps : List WorldStep) → AllByRecursion (IsCallFor i) steps → (j ≡ i → ⊥) → filter (is_of j) (journal steps) ≡ []
unfolding journal
steps-silent i j [] all other = refl
steps-silent i j (step ∷ steps) all other = call-silent i j step steps all.0 other (steps-silent i j steps all.1 other)

pub calls-silent : {Own : Type 0} (i j : ℕ) (old new : Seen Own) → CallsFor i old new → (j ≡ i → ⊥) → Silent j old new
calls-silent i j old new calls other = record { steps = calls.steps; history = calls.history; none = steps-silent i j calls.steps calls.all other }

-- ---- One stretch behind the other

pub silent-none : {Own : Type 0} (app : ℕ) (old new : Seen Own) → new ≡ old → Silent app old new
unfolding journal
silent-none app old new is = record { steps = []; history = ap (λ (x : Seen _). x.history) is ∙ sym (append-nil old.history); none = refl }

pub silent-then : {Own : Type 0} (app : ℕ) (old mid new : Seen Own) → Silent app old mid → Silent app mid new → Silent app old new
silent-then app old mid new first later = record {
  steps = first.steps ++ later.steps;
  history = later.history ∙ ap (λ (h : List WorldStep). h ++ later.steps) first.history ∙ append_assoc old.history first.steps later.steps;
  none = ap (λ (acts : List Act). filter (is_of app) acts) (journal-append first.steps later.steps) ∙ filter-append (is_of app) (journal first.steps) (journal later.steps)
      ∙ ap₂ (λ (a b : List Act). a ++ b) first.none later.none;
}

-- ---- What stays

silent-longer : {Own : Type 0} (app : ℕ) (old new : Seen Own) → (s : Silent app old new) → journal new.history ≡ journal old.history ++ journal s.steps
silent-longer app old new s = ap journal s.history ∙ journal-append old.history s.steps

pub silent-acts : {Own : Type 0} (app : ℕ) (old new : Seen Own) → Silent app old new → own_acts app new ≡ own_acts app old
silent-acts app old new s =
    ap (λ (acts : List Act). filter (is_of app) acts) (silent-longer app old new s) ∙ filter-append (is_of app) (journal old.history) (journal s.steps)
    ∙ ap (λ (acts : List Act). own_acts app old ++ acts) s.none ∙ append-nil (own_acts app old)

-- what is given to it is among the calls for it
first-given : (app to : ℕ) (bytes : List ℕ) (acts : List Act) → filter (is_of app) (Gave to bytes ∷ acts) ≡ [] → ((to == app) ≡ false) × (filter (is_of app) acts ≡ [])
first-given app to bytes acts none =
    elim (cases_Bool (to == app)) [
      | inl same ↦ absurd (cons_none (filter (is_of app) acts) (rw same at none))
      | inr differs ↦ (differs, rw differs at none)
    ]
  where
    cons_none : (xs : List Act) → Gave to bytes ∷ xs ≡ [] → ⊥
    cons_none xs h = cc

none-behind : (app : ℕ) (act : Act) (acts : List Act) → filter (is_of app) (act ∷ acts) ≡ [] → filter (is_of app) acts ≡ []
none-behind app act acts none =
    elim (cases_Bool (is_of app act)) [
      | inl same ↦ absurd (cons_none (filter (is_of app) acts) (rw same at none))
      | inr differs ↦ rw differs at none
    ]
  where
    cons_none : (xs : List Act) → act ∷ xs ≡ [] → ⊥
    cons_none xs h = cc

none-given : (app : ℕ) (acts : List Act) → filter (is_of app) acts ≡ [] → inputs app acts ≡ []
unfolding inputs
none-given app [] none = refl
none-given app (Gave to bytes ∷ acts) none = let first = first-given app to bytes acts none in rw first.0 (none-given app acts first.1)
none-given app (Started of stands ∷ acts) none = none-given app acts (none-behind app (Started of stands) acts none)
none-given app (Gone of bytes ∷ acts) none = none-given app acts (none-behind app (Gone of bytes) acts none)
none-given app (Took of what ∷ acts) none = none-given app acts (none-behind app (Took of what) acts none)
none-given app (Ended of ∷ acts) none = none-given app acts (none-behind app (Ended of) acts none)
none-given app (Stim x ∷ acts) none = none-given app acts none
none-given app (Sent d bytes ∷ acts) none = none-given app acts none
none-given app (Got d bytes ∷ acts) none = none-given app acts none
none-given app (Lost d ∷ acts) none = none-given app acts none

pub silent-given : {Own : Type 0} (app : ℕ) (old new : Seen Own) → Silent app old new → given_in app new ≡ given_in app old
silent-given app old new s =
    ap (λ (acts : List Act). inputs app acts) (silent-longer app old new s) ∙ inputs-append app (journal old.history) (journal s.steps)
    ∙ ap (λ (frames : List (List ℕ)). given_in app old ++ frames) (none-given app (journal s.steps) s.none) ∙ append-nil (given_in app old)

abbrev pub silent-at-once : {Own : Type 0} (app : ℕ) (old new : Seen Own) → Silent app old new → AtOnce app (journal old.history) → AtOnce app (journal new.history)
silent-at-once app old new s a = others_at_once app old new s.steps s.history s.none a

pub silent-rests : {Own : Type 0} (i : ℕ) (a : Application) (old new : Seen Own) → Silent i old new → IsAtRest old i a → IsAtRest new i a
silent-rests i a old new s rests = record {
  life = λ alive. subst LastStands (sym (silent-acts i old new s)) (rests.life alive);
  at_once = silent-at-once i old new s rests.at_once;
  rest_is = rests.rest_is;
}
