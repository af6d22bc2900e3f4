-- Laws of attempts to start an application: what a telling world's history tells once they were made.
use Rattle.std.specs.Prelude.{◌≡◌, ℕ, zero, suc, Bool, true, false, List, [], ◌∷◌, ◌++◌, map, is_some, refl}
use Rattle.std.proofs.Common.{sym, ap, ◌∙◌, subst, append_assoc, inl, inr, true≢false}
use Rattle.std.proofs.lemmas.List.{append-nil}
use Rattle.std.proofs.lemmas.Bool.{eq-eqb}
use Rattle.of_types.specs.declared.journal.Act.{Act}
use Rattle.of_types.specs.declared.journal.Act.TheVariants.{Started}
use Rattle.of_types.specs.declared.journal.WorldStim.{WorldStim}
use Rattle.app_frames.specs.declared.cause.Tried.{Tried}
use Rattle.app_frames.specs.declared.cause.Tried.TheVariants as tries
use Rattle.lego_model.specs.Journal.{Attempt, Start, stimuli, inputs, start_of}
use Rattle.lego_model.specs.Turns.{outcome_of}
use Rattle.lego_model.specs.Controller.{is_ready}
use Rattle.outside.specs.declared.step.WorldStep.{WorldStep}
use Rattle.outside.specs.Seen.{Seen, journal}
use Rattle.outside.specs.State.{State, state, is_running}
use Rattle.outside.specs.laws.StateLaws.{state-append}
use Rattle.journal_laws.specs.Readings.{Within, Calls, LastStands, end_acts}
use Rattle.lego_model.specs.History.{starts_in, replies_in}
use Rattle.journal_laws.specs.laws.ReadingLaws.{attempt_read}
use Rattle.journal_laws.specs.laws.CallLaws.{calls_within, calls_both, calls_own}
use Rattle.app_visor.specs.Talks.{step_of}
use Rattle.app_visor.specs.Beats.{acts_of}
use Rattle.app_visor.specs.Attempts.{restored, IsTry, OneTry, AreTries, ready_rest, starts_of, given_by}
use Rattle.app_visor.specs.Tellings.{Apart, tried_acts, TriesTold}
use Rattle.app_visor.specs.laws.TellingLaws.{stimuli_longer, inputs_longer, Apart-refl, Apart-trans, acts_called, inputs_called, stimuli_called, apart_called}
use Rattle.app_visor.specs.laws.JournalLaws.{acts_append}

-- ---- The acts of one attempt

abbrev pub all_of_try : ℕ → Bool → Attempt → List Act
all_of_try app running attempt = end_acts running app ++ Started app attempt.stands ∷ attempt.acts

pub calls_end : (app : ℕ) (running : Bool) → Calls app (end_acts running app)
calls_end app true = (eq-eqb app app refl, tt)
calls_end app false = tt

pub calls_try : (app : ℕ) (running : Bool) (attempt : Attempt) → Within app attempt.acts → Calls app (all_of_try app running attempt)
calls_try app running attempt all = calls_both app (end_acts running app) (Started app attempt.stands ∷ attempt.acts) (calls_end app running) (eq-eqb app app refl, calls_within app attempt.acts all)

inputs_try : (app : ℕ) (running : Bool) (attempt : Attempt) → inputs app (all_of_try app running attempt) ≡ inputs app attempt.acts
unfolding inputs
inputs_try app true attempt = refl
inputs_try app false attempt = refl

-- one that is ready stands
ready_stands : (attempt : Attempt) (tried : Tried) (rest : List ℕ) → outcome_of (start_of attempt) ≡ (tried, rest) → is_ready tried ≡ true → attempt.stands ≡ true
unfolding outcome_of start_of
ready_stands attempt tried rest is ready = elim attempt.stands as (λ b. attempt.stands ≡ b → attempt.stands ≡ true) [
  | true ↦ λ b. b
  | false ↦ λ b.
      let refused : (tries.Refused, []) ≡ (tried, rest) = rw b at is in
      let none : is_ready tries.Refused ≡ true = ap (λ (o : Tried × List ℕ). is_ready o.0) refused ∙ ready in
      absurd (true≢false (sym none))
] refl

-- what is told of one attempt
record TryTold {Own : Type 0} (app : ℕ) (kept : List ℕ) (attempt : Attempt) (tried : Tried) (old new : Seen Own) : Type 0 where
  acts : acts_of app new.history ≡ acts_of app old.history ++ all_of_try app (is_running app (state old)) attempt
  starts : starts_in (acts_of app new.history) ≡ starts_in (acts_of app old.history) ++ start_of attempt ∷ []
  replies : replies_in (acts_of app new.history) ≡ replies_in (acts_of app old.history)
  inputs_is : inputs app (journal new.history) ≡ inputs app (journal old.history) ++ restored kept (start_of attempt)
  stimuli_is : stimuli (journal new.history) ≡ stimuli (journal old.history)
  apart : Apart (state old) (state new)
  life : is_ready tried ≡ true → LastStands (acts_of app new.history)

try_told : {Own : Type 0} (Tells : Type 0) (app : ℕ) (kept : List ℕ) (attempt : Attempt) (tried : Tried) (rest : List ℕ) (old new : Seen Own) → IsTry Tells app kept attempt tried rest old new → Tells → TryTold app kept attempt tried old new
try_told Tells app kept attempt tried rest old new is tells =
    let runs = is_running app (state old) in
    let acts = all_of_try app runs attempt in
    let all = calls_try app runs attempt is.within in
    let longer : new.history ≡ old.history ++ map step_of acts = is.history tells in
    let more : acts_of app new.history ≡ acts_of app old.history ++ acts =
    ap (λ (h : List WorldStep). acts_of app h) longer ∙ acts_append app old.history (map step_of acts) ∙ ap (λ (xs : List Act). acts_of app old.history ++ xs) (acts_called app acts all) in
    let reads = attempt_read app runs attempt.stands (acts_of app old.history) attempt.acts is.within in
    record {
      acts = more;
      starts = ap starts_in more ∙ reads.starts;
      replies = ap replies_in more ∙ reads.replies;
      inputs_is = ap (λ (h : List WorldStep). inputs app (journal h)) longer ∙ inputs_longer app old.history (map step_of acts)
          ∙ ap (λ (xs : List (List ℕ)). inputs app (journal old.history) ++ xs) (inputs_called app acts ∙ inputs_try app runs attempt ∙ is.given);
      stimuli_is = ap (λ (h : List WorldStep). stimuli (journal h)) longer ∙ stimuli_longer old.history (map step_of acts)
          ∙ ap (λ (xs : List WorldStim). stimuli (journal old.history) ++ xs) (stimuli_called app acts all) ∙ append-nil (stimuli (journal old.history));
      apart = subst (λ (s : State). Apart (state old) s) (sym (state-append old new (map step_of acts) is.continues.given longer)) (apart_called app acts (state old) all);
      life = λ ready. subst LastStands (sym more) (reads.life (ready_stands attempt tried rest is.outcome ready));
    }

-- ---- All attempts

told_none : {Own : Type 0} (app : ℕ) (kept : List ℕ) (old new : Seen Own) → new ≡ old → TriesTold app kept [] old new
told_none app kept old new is = rw is (record {
  given_is = refl;
  acts = sym (append-nil (acts_of app old.history));
  starts = sym (append-nil (starts_in (acts_of app old.history)));
  replies = refl;
  inputs_is = sym (append-nil (inputs app (journal old.history)));
  stimuli_is = refl;
  apart = Apart-refl (state old);
  life = λ some. absurd (true≢false (sym some));
  running = λ some. absurd (true≢false (sym some));
  own = tt;
})

-- where an attempt is made first, and what is told behind it is told
told_then : {Own : Type 0} (Tells : Type 0) (app : ℕ) (kept : List ℕ) (t : OneTry Own) (ts : List (OneTry Own)) (old new : Seen Own) → IsTry Tells app kept t.attempt t.tried t.rest old t.after → Tells → TriesTold app kept ts t.after new
    → (is_some (ready_rest (t ∷ ts)) ≡ true → LastStands (acts_of app new.history)) → (is_some (ready_rest (t ∷ ts)) ≡ true → is_running app (state new) ≡ true) → TriesTold app kept (t ∷ ts) old new
told_then Tells app kept t ts old new is tells later life running =
    let first = try_told Tells app kept t.attempt t.tried t.rest old t.after is tells in
    let acts = all_of_try app (is_running app (state old)) t.attempt in
    record {
      given_is = later.given_is ∙ is.continues.given;
      acts = later.acts ∙ ap (λ (xs : List Act). xs ++ tried_acts app t.after ts) first.acts ∙ append_assoc (acts_of app old.history) acts (tried_acts app t.after ts);
      starts = later.starts ∙ ap (λ (xs : List Start). xs ++ starts_of ts) first.starts ∙ append_assoc (starts_in (acts_of app old.history)) (start_of t.attempt ∷ []) (starts_of ts);
      replies = later.replies ∙ first.replies;
      inputs_is = later.inputs_is ∙ ap (λ (xs : List (List ℕ)). xs ++ given_by kept ts) first.inputs_is ∙ append_assoc (inputs app (journal old.history)) (restored kept (start_of t.attempt)) (given_by kept ts);
      stimuli_is = later.stimuli_is ∙ first.stimuli_is;
      apart = Apart-trans (state old) (state t.after) (state new) first.apart later.apart;
      life = life;
      running = running;
      own = (calls_own app t.attempt.acts (calls_within app t.attempt.acts is.within), later.own);
    }

ready_first : {Own : Type 0} (t : OneTry Own) (ts : List (OneTry Own)) → is_ready t.tried ≡ false → is_some (ready_rest (t ∷ ts)) ≡ is_some (ready_rest ts)
ready_first t ts not_ready = rw not_ready refl

pub tries_told : {Own : Type 0} (Tells : Type 0) (app : ℕ) (kept : List ℕ) (n : ℕ) (all : List (OneTry Own)) (old new : Seen Own) → AreTries Tells app kept n all old new → Tells → TriesTold app kept all old new
tries_told Tells app kept zero [] old new are tells = told_none app kept old new are
tries_told Tells app kept zero (t ∷ ts) old new are tells = absurd are
tries_told Tells app kept (suc n) [] old new are tells = absurd are
tries_told Tells app kept (suc n) (t ∷ ts) old new are tells = elim are.1 [
  | inl h ↦ let first = try_told Tells app kept t.attempt t.tried t.rest old t.after are.0 tells in
      let told : TriesTold app kept (t ∷ []) old t.after =
      told_then Tells app kept t [] old t.after are.0 tells (told_none app kept t.after t.after refl) (λ some. first.life h.0) (λ some. are.0.running tells h.0) in
      rw (h.1, h.2) told
  | inr h ↦ let later = tries_told Tells app kept n ts t.after new h.1 tells in
      told_then Tells app kept t ts old new are.0 tells later (λ some. later.life (sym (ready_first t ts h.0) ∙ some)) (λ some. later.running (sym (ready_first t ts h.0) ∙ some))
]
