-- Calls for one application, as the course of a run says them: those of a turn, and those by which it is started or ended.
use Rattle.std.specs.Prelude.{◌==◌, ◌&&◌, not, map, filter, length, is_some}
use Rattle.std.proofs.Common.{◌≡◌, ℕ, ◌+◌, zero, suc, Bool, true, false, List, [], ◌∷◌, ◌++◌, Option, Some, refl, sym, ap, ◌∙◌, subst, inl, inr, append_assoc, arith, length-append, true≢false, if◌then◌else◌}
use Rattle.std.specs.List.{AllByRecursion}
use Rattle.std.proofs.lemmas.Bool.{eq-eqb, eqb-true}
use Rattle.std.proofs.lemmas.List.{append-nil}
use Rattle.std.proofs.lemmas.List.Elements.{filter-append}
use Rattle.of_types.specs.declared.journal.Act.{Act}
use Rattle.of_types.specs.declared.journal.Act.TheVariants.{Stim, Started, Gave, Gone, Took, Ended, Sent, Got, Lost}
use Rattle.outside.specs.declared.step.WorldStep.{WorldStep}
use Rattle.outside.specs.Seen.{Seen, journal}
use Rattle.outside.specs.laws.SeenLaws.{journal-append}
use Rattle.outside.specs.State.{state, is_running}
use Rattle.lego_model.specs.Journal.{is_of, is_event, inputs, start_of}
use Rattle.lego_model.specs.Controller.{is_ready, restore_frame}
use Rattle.net_txn.specs.laws.SaidLaws.{all_two}
use Rattle.journal_laws.specs.Readings.{is_within, Within, end_acts}
use Rattle.app_visor.specs.Talks.{step_of}
use Rattle.app_visor.specs.Attempts.{OneTry, IsTry, AreTries, ready_rest}
use Rattle.app_visor.specs.laws.TellingLaws.{journal_steps, inputs_longer}
use Rattle.run_course.specs.Asked.{IsCallOf, CallsOf}
use Rattle.run_course.specs.Applications.{is_start, times_started}
use Rattle.run_laws.specs.laws.ChainLaws.{try_own, try_given}

-- ---- Calls for an application

own_step : (app : ℕ) (act : Act) → is_of app act ≡ true → IsCallOf app (step_of act)
own_step app (Started of stands) is = is
own_step app (Gave of bytes) is = is
own_step app (Gone of bytes) is = is
own_step app (Took of what) is = eqb-true of app is
own_step app (Ended of) is = is
own_step app (Stim x) is = absurd (true≢false (sym is))
own_step app (Sent d bytes) is = absurd (true≢false (sym is))
own_step app (Got d bytes) is = absurd (true≢false (sym is))
own_step app (Lost d) is = absurd (true≢false (sym is))

own_steps : (app : ℕ) (acts : List Act) → AllByRecursion (λ act. is_of app act ≡ true) acts → AllByRecursion (IsCallOf app) (map step_of acts)
own_steps app [] all = tt
own_steps app (act ∷ acts) all = (own_step app act all.0, own_steps app acts all.1)

pub call_of : (app : ℕ) (act : Act) (before after : List WorldStep) → is_of app act ≡ true → after ≡ before ++ step_of act ∷ [] → CallsOf app before after
call_of app act before after is history = record { steps = step_of act ∷ []; history = history; own = (own_step app act is, tt) }

-- ---- Attempts

pub both_first : (a b : Bool) → (a && b) ≡ true → a ≡ true
both_first true b is = refl
both_first false b is = is

within_of : (app : ℕ) (act : Act) → is_within app act ≡ true → is_of app act ≡ true
within_of app (Gave of bytes) is = both_first (of == app) (not (is_event bytes)) is
within_of app (Gone of bytes) is = both_first (of == app) (not (is_event bytes)) is
within_of app (Took of what) is = is
within_of app (Ended of) is = is
within_of app (Started of stands) is = absurd (true≢false (sym is))
within_of app (Stim x) is = absurd (true≢false (sym is))
within_of app (Sent d bytes) is = absurd (true≢false (sym is))
within_of app (Got d bytes) is = absurd (true≢false (sym is))
within_of app (Lost d) is = absurd (true≢false (sym is))

all_of : (app : ℕ) (acts : List Act) → Within app acts → AllByRecursion (λ act. is_of app act ≡ true) acts
all_of app [] all = tt
all_of app (act ∷ acts) all = (within_of app act all.0, all_of app acts all.1)

-- all acts of an attempt are of its application
pub try_all : (app : ℕ) (running stands : Bool) (acts : List Act) → Within app acts → AllByRecursion (λ act. is_of app act ≡ true) (end_acts running app ++ Started app stands ∷ acts)
try_all app running stands acts within = try_own app running stands acts (eq-eqb app app refl) (all_of app acts within)

-- by no other act of it something is started
within_none : (app : ℕ) (acts : List Act) → Within app acts → filter is_start acts ≡ []
within_none app [] all = refl
within_none app (Gave of bytes ∷ acts) all = within_none app acts all.1
within_none app (Gone of bytes ∷ acts) all = within_none app acts all.1
within_none app (Took of what ∷ acts) all = within_none app acts all.1
within_none app (Ended of ∷ acts) all = within_none app acts all.1
within_none app (Started of stands ∷ acts) all = absurd (true≢false (sym all.0))
within_none app (Stim x ∷ acts) all = absurd (true≢false (sym all.0))
within_none app (Sent d bytes ∷ acts) all = absurd (true≢false (sym all.0))
within_none app (Got d bytes ∷ acts) all = absurd (true≢false (sym all.0))
within_none app (Lost d ∷ acts) all = absurd (true≢false (sym all.0))

try_counted : (app : ℕ) (running stands : Bool) (acts : List Act) → Within app acts → length (filter is_start (end_acts running app ++ Started app stands ∷ acts)) ≡ 1
try_counted app true stands acts within = ap (λ (xs : List Act). suc (length xs)) (within_none app acts within)
try_counted app false stands acts within = ap (λ (xs : List Act). suc (length xs)) (within_none app acts within)

abbrev AllRestore : List ℕ → List (List ℕ) → Type 0
AllRestore kept frames = AllByRecursion (λ frame. frame ≡ restore_frame kept) frames

if_restored : (kept : List ℕ) (here : Bool) → AllRestore kept (if here then restore_frame kept ∷ [] else [])
if_restored kept true = (refl, tt)
if_restored kept false = tt

-- what some attempts tell: how many there were, and that each frame that is given is Restore with this checkpoint
pub record TriesTold (app : ℕ) (kept : List ℕ) (tries : ℕ) (before after : List WorldStep) : Type 0 where
  pub calls : CallsOf app before after
  pub restored : AllByRecursion (λ frame. frame ≡ restore_frame kept) (inputs app (journal calls.steps))
  pub counted : times_started calls.steps ≡ tries

try_told : {Own Tells : Type 0} {app : ℕ} {kept : List ℕ} (t : OneTry Own) (old : Seen Own) → Tells → IsTry Tells app kept t.attempt t.tried t.rest old t.after → TriesTold app kept 1 old.history t.after.history
try_told {app = app} {kept = kept} t old told is =
    let running = is_running app (state old) in
    let acts = end_acts running app ++ Started app t.attempt.stands ∷ t.attempt.acts in
    let start = start_of t.attempt in
    record {
      calls = record { steps = map step_of acts; history = is.history told; own = own_steps app acts (try_all app running t.attempt.stands t.attempt.acts is.within) };
      restored = subst (AllRestore kept) (sym (ap (inputs app) (journal_steps acts) ∙ (try_given app running t.attempt.stands t.attempt.acts ∙ is.given))) (if_restored kept (start.stands && start.restored));
      counted = ap (λ (xs : List Act). length (filter is_start xs)) (journal_steps acts) ∙ try_counted app running t.attempt.stands t.attempt.acts is.within;
    }

none_told : (app : ℕ) (kept : List ℕ) (before after : List WorldStep) → after ≡ before → TriesTold app kept 0 before after
unfolding journal inputs
none_told app kept before after same = record { calls = record { steps = []; history = same ∙ sym (append-nil before); own = tt }; restored = tt; counted = refl }

counted_two : (xs ys : List WorldStep) → times_started (xs ++ ys) ≡ times_started xs + times_started ys
counted_two xs ys =
    ap (λ (acts : List Act). length (filter is_start acts)) (journal-append xs ys) ∙ (ap (λ (acts : List Act). length acts) (filter-append is_start (journal xs) (journal ys)) ∙ length-append (filter is_start (journal xs)) (filter is_start (journal ys)))

told_both : (app : ℕ) (kept : List ℕ) (m n : ℕ) (a b c : List WorldStep) → TriesTold app kept m a b → TriesTold app kept n b c → TriesTold app kept (m + n) a c
told_both app kept m n a b c first second =
    let xs = first.calls.steps in
    let ys = second.calls.steps in
    record {
      calls = record {
        steps = xs ++ ys;
        history = second.calls.history ∙ (ap (λ (h : List WorldStep). h ++ ys) first.calls.history ∙ append_assoc a xs ys);
        own = all_two (IsCallOf app) xs ys first.calls.own second.calls.own;
      };
      restored = subst (AllRestore kept) (sym (inputs_longer app xs ys)) (all_two (λ frame. frame ≡ restore_frame kept) (inputs app (journal xs)) (inputs app (journal ys)) first.restored second.restored);
      counted = counted_two xs ys ∙ (ap (λ (k : ℕ). k + times_started ys) first.counted ∙ ap (λ (k : ℕ). m + k) second.counted);
    }

told_first : (app : ℕ) (kept : List ℕ) (n : ℕ) (a b c : List WorldStep) → TriesTold app kept 1 a b → TriesTold app kept n b c → TriesTold app kept (suc n) a c
told_first app kept n a b c first second = let more : 1 + n ≡ suc n = omega arith in subst (λ (k : ℕ). TriesTold app kept k a c) more (told_both app kept 1 n a b c first second)

pub tries_told : {Own : Type 0} (Tells : Type 0) (app : ℕ) (kept : List ℕ) (n : ℕ) (ts : List (OneTry Own)) (old new : Seen Own) → Tells → AreTries Tells app kept n ts old new → TriesTold app kept (length ts) old.history new.history
tries_told Tells app kept zero [] old new told are = none_told app kept old.history new.history (ap (λ (s : Seen _). s.history) are)
tries_told Tells app kept zero (t ∷ ts) old new told are = absurd are
tries_told Tells app kept (suc n) [] old new told are = absurd are
tries_told Tells app kept (suc n) (t ∷ ts) old new told are =
    let one = try_told t old told are.0 in
    elim are.1 [
      | inl last ↦ told_first app kept (length ts) old.history t.after.history new.history one
          (subst (λ (xs : List (OneTry _)). TriesTold app kept (length xs) t.after.history new.history) (sym last.1) (none_told app kept t.after.history new.history (ap (λ (s : Seen _). s.history) last.2)))
      | inr more ↦ told_first app kept (length ts) old.history t.after.history new.history one (tries_told Tells app kept n ts t.after new told more.1)
    ]

some_ready : (ready : Bool) (rest : List ℕ) (more : Option (List ℕ)) → ready ≡ true → is_some (if ready then Some rest else more) ≡ true
some_ready true rest more is = refl
some_ready false rest more is = absurd (true≢false (sym is))

none_here : (ready : Bool) (rest : List ℕ) (more : Option (List ℕ)) → is_some (if ready then Some rest else more) ≡ false → is_some more ≡ false
none_here true rest more none = absurd (true≢false none)
none_here false rest more none = none

-- where none was ready, as many were made as may be
pub all_tried : {Own : Type 0} (Tells : Type 0) (app : ℕ) (kept : List ℕ) (n : ℕ) (ts : List (OneTry Own)) (old new : Seen Own) → AreTries Tells app kept n ts old new → is_some (ready_rest ts) ≡ false → length ts ≡ n
all_tried Tells app kept zero [] old new are none = refl
all_tried Tells app kept zero (t ∷ ts) old new are none = absurd are
all_tried Tells app kept (suc n) [] old new are none = absurd are
all_tried Tells app kept (suc n) (t ∷ ts) old new are none =
    elim are.1 [
      | inl last ↦ absurd (true≢false (sym (some_ready (is_ready t.tried) t.rest (ready_rest ts) last.0) ∙ none))
      | inr more ↦ ap suc (all_tried Tells app kept n ts t.after new more.1 (none_here (is_ready t.tried) t.rest (ready_rest ts) none))
    ]
