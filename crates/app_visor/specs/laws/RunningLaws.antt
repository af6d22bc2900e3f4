-- Laws of whether an application runs: a dialogue tells of it what the state tells that the history leaves, and so no call is out of place.
use Rattle.std.specs.Prelude.{◌≡◌, ℕ, ◌==◌, Bool, true, false, not, List, [], ◌∷◌, ◌++◌, filter, ◌||◌, refl}
use Rattle.std.proofs.Common.{sym, ap, ◌∙◌, subst, true≢false}
use Rattle.std.proofs.lemmas.Bool.{eqb-true, eq-eqb, ne_eqb}
use Rattle.std.proofs.lemmas.List.Folds.{list_any-append}
use Rattle.std.proofs.lemmas.Map.Views.{any-filter_same}
use Rattle.of_types.specs.declared.journal.Act.{Act}
use Rattle.of_types.specs.declared.journal.Act.TheVariants.{Stim, Started, Gave, Gone, Took, Ended, Sent, Got, Lost}
use Rattle.of_types.specs.declared.journal.TookWhat.TheVariants as took
use Rattle.lego_model.specs.Journal.{is_of}
use Rattle.lego_model.specs.AtOnce.{Before, attempted, is_answer, GivesFrame, Says, Dialogue}
use Rattle.outside.specs.declared.step.WorldStep.{WorldStep}
use Rattle.outside.specs.declared.step.WorldStep.TheVariants.{Acted, TookInto, From, Joined, Left, Moment, Idle, End, Opened, NotOpened, NextFailed, SendLost, RecvLost, SendFailed, RecvFailed}
use Rattle.outside.specs.Seen.{Seen, act_of, journal}
use Rattle.outside.specs.State.{State, is_running, running_after, after_stim, after_act, after_step, after_steps, state}
use Rattle.outside.specs.laws.StateLaws.{state-append}
use Rattle.app_visor.specs.Dialogues.{Converses, ran_before, KeepsOrder, CallsKeepOrder}
use Rattle.of_types.specs.Membership.{is_among}

-- ---- Those that run

or_true : (b c : Bool) → c ≡ true → (b || (c || false)) ≡ true
or_true true c is = refl
or_true false c is = rw is refl

or_false : (b c : Bool) → c ≡ false → (b || (c || false)) ≡ b
or_false true c is = refl
or_false false c is = rw is refl

-- one that was started runs, where the start stands
pub started_runs : (app of : ℕ) (running : List ℕ) → (of == app) ≡ true → is_among app (running ++ of ∷ []) ≡ true
started_runs app of running is = list_any-append (λ (a : ℕ). a == app) running (of ∷ []) ∙ or_true (is_among app running) (of == app) is

start_of_other : (app of : ℕ) (stands : Bool) (running : List ℕ) → (of == app) ≡ false → is_among app (running_after of stands running) ≡ is_among app running
start_of_other app of true running other = list_any-append (λ (a : ℕ). a == app) running (of ∷ []) ∙ or_false (is_among app running) (of == app) other
start_of_other app of false running other = refl

apart : (app of k : ℕ) → (of == app) ≡ false → (k == app) ≡ true → not (k == of) ≡ true
apart app of k other is = ap not (ne_eqb k of (λ e. true≢false (sym (eq-eqb of app (sym e ∙ eqb-true k app is)) ∙ other)))

end_of_other : (app of : ℕ) (running : List ℕ) → (of == app) ≡ false → is_among app (filter (λ a. not (a == of)) running) ≡ is_among app running
end_of_other app of running other = any-filter_same (λ a. a == app) (λ a. not (a == of)) true (λ k is. apart app of k other is) running

ended_itself : (app of k : ℕ) → (of == app) ≡ true → (k == app) ≡ true → not (k == of) ≡ false
ended_itself app of k same is = ap not (eq-eqb k of (eqb-true k app is ∙ sym (eqb-true of app same)))

end_of_itself : (app of : ℕ) (running : List ℕ) → (of == app) ≡ true → is_among app (filter (λ a. not (a == of)) running) ≡ false
end_of_itself app of running same = any-filter_same (λ a. a == app) (λ a. not (a == of)) false (λ k is. ended_itself app of k same is) running

-- ---- One act

-- an act of another leaves it as it is
other_acts : (app : ℕ) (act : Act) (s : State) → is_of app act ≡ false → is_running app (after_act act s) ≡ is_running app s
unfolding after_act after_stim
other_acts app (Stim x) s other = refl
other_acts app (Started of stands) s other = start_of_other app of stands s.running other
other_acts app (Gave of frame) s other = refl
other_acts app (Gone of frame) s other = refl
other_acts app (Took of what) s other = refl
other_acts app (Ended of) s other = end_of_other app of s.running other
other_acts app (Sent d bytes) s other = refl
other_acts app (Got d bytes) s other = refl
other_acts app (Lost d) s other = refl

given_runs : (answers : Bool) (frame : List ℕ) (s t : Before) → GivesFrame answers frame s t → t.running ≡ true
given_runs true frame s t gives = ap (λ (x : Before). x.running) gives.then_is
given_runs false frame s t gives = gives.running_is

started_as : (app of : ℕ) (stands : Bool) (t : Before) (s : State) → (of == app) ≡ true → is_running app s ≡ false → t ≡ attempted stands → t.running ≡ is_running app (after_act (Started of stands) s)
unfolding after_act
started_as app of true t s is not_before then_is = ap (λ (x : Before). x.running) then_is ∙ sym (started_runs app of s.running is)
started_as app of false t s is not_before then_is = ap (λ (x : Before). x.running) then_is ∙ sym not_before

own_acts : (app : ℕ) (act : Act) (s t : Before) (st : State) → is_of app act ≡ true → Says true act s t → s.running ≡ is_running app st → t.running ≡ is_running app (after_act act st)
unfolding after_act
own_acts app (Stim x) s t st own says runs = absurd (true≢false (sym own))
own_acts app (Started of stands) s t st own says runs = started_as app of stands t st own (sym runs ∙ says.0) says.1
own_acts app (Gave of frame) s t st own says runs = given_runs (is_answer frame) frame s t says.1 ∙ sym says.0 ∙ runs
own_acts app (Gone of frame) s t st own says runs = ap (λ (x : Before). x.running) says.1 ∙ runs
own_acts app (Took of (took.Bytes bytes)) s t st own says runs = ap (λ (x : Before). x.running) says.1.1 ∙ runs
own_acts app (Took of took.Closed) s t st own says runs = ap (λ (x : Before). x.running) says.1.1 ∙ runs
own_acts app (Took of took.Silent) s t st own says runs = ap (λ (x : Before). x.running) says.1.1 ∙ runs
own_acts app (Ended of) s t st own says runs = ap (λ (x : Before). x.running) says.1 ∙ sym (end_of_itself app of st.running own)
own_acts app (Sent d bytes) s t st own says runs = absurd (true≢false (sym own))
own_acts app (Got d bytes) s t st own says runs = absurd (true≢false (sym own))
own_acts app (Lost d) s t st own says runs = absurd (true≢false (sym own))

own_ran : (app : ℕ) (act : Act) (s t : Before) → is_of app act ≡ true → Says true act s t → s.running ≡ ran_before act
own_ran app (Stim x) s t own says = absurd (true≢false (sym own))
own_ran app (Started of stands) s t own says = says.0
own_ran app (Gave of frame) s t own says = says.0
own_ran app (Gone of frame) s t own says = says.0
own_ran app (Took of (took.Bytes bytes)) s t own says = says.0
own_ran app (Took of took.Closed) s t own says = says.0
own_ran app (Took of took.Silent) s t own says = says.0
own_ran app (Ended of) s t own says = says.0
own_ran app (Sent d bytes) s t own says = absurd (true≢false (sym own))
own_ran app (Got d bytes) s t own says = absurd (true≢false (sym own))
own_ran app (Lost d) s t own says = absurd (true≢false (sym own))

act_by : (app : ℕ) (act : Act) (s t : Before) (st : State) (own : Bool) → is_of app act ≡ own → Says own act s t → s.running ≡ is_running app st → t.running ≡ is_running app (after_act act st)
act_by app act s t st true own says runs = own_acts app act s t st own says runs
act_by app act s t st false other says runs = ap (λ (x : Before). x.running) says ∙ runs ∙ sym (other_acts app act st other)

act_in_place : (app : ℕ) (act : Act) (s t : Before) (running : Bool) → Says (is_of app act) act s t → s.running ≡ running → is_of app act ≡ true → running ≡ ran_before act
act_in_place app act s t running says runs own = sym runs ∙ own_ran app act s t own (subst (λ (b : Bool). Says b act s t) own says)

-- ---- A history

-- The dialogue tells whether it runs as the state does, and each call is in place.
record Tells (app : ℕ) (steps : List WorldStep) (t : Before) (st : State) : Type 0 where
  runs : t.running ≡ is_running app (after_steps steps st)
  no_strays : CallsKeepOrder app steps st

abbrev behind : (app : ℕ) (step : WorldStep) (steps : List WorldStep) (t : Before) (st : State) → KeepsOrder app (act_of step) (is_running app st) → Tells app steps t (after_step step st) → Tells app (step ∷ steps) t st
behind app step steps t st here later = record { runs = later.runs; no_strays = (here, later.no_strays) }

dialogue_tells : (app : ℕ) (steps : List WorldStep) (s t : Before) (st : State) → Dialogue app s (journal steps) t → s.running ≡ is_running app st → Tells app steps t st
unfolding journal after_act after_step
dialogue_tells app [] s t st d runs = record { runs = ap (λ (x : Before). x.running) d ∙ runs; no_strays = tt }
dialogue_tells app (Acted act ∷ steps) s t st d runs = behind app (Acted act) steps t st (act_in_place app act s d.0 (is_running app st) d.1.0 runs)
    (dialogue_tells app steps d.0 t (after_act act st) d.1.1 (act_by app act s d.0 st (is_of app act) refl d.1.0 runs))
dialogue_tells app (TookInto of what room ∷ steps) s t st d runs = behind app (TookInto of what room) steps t st (act_in_place app (Took of what) s d.0 (is_running app st) d.1.0 runs)
    (dialogue_tells app steps d.0 t st d.1.1 (act_by app (Took of what) s d.0 st (is_of app (Took of what)) refl d.1.0 runs))
dialogue_tells app (From dpid bytes ∷ steps) s t st d runs = behind app (From dpid bytes) steps t st (act_in_place app (Got dpid bytes) s d.0 (is_running app st) d.1.0 runs)
    (dialogue_tells app steps d.0 t (after_step (From dpid bytes) st) d.1.1 (act_by app (Got dpid bytes) s d.0 st false refl d.1.0 runs))
dialogue_tells app (Joined dpid bytes ∷ steps) s t st d runs = behind app (Joined dpid bytes) steps t st tt (dialogue_tells app steps s t (after_step (Joined dpid bytes) st) d runs)
dialogue_tells app (Left dpid ∷ steps) s t st d runs = behind app (Left dpid) steps t st tt (dialogue_tells app steps s t (after_step (Left dpid) st) d runs)
dialogue_tells app (Moment at ∷ steps) s t st d runs = behind app (Moment at) steps t st tt (dialogue_tells app steps s t (after_step (Moment at) st) d runs)
dialogue_tells app (Idle ∷ steps) s t st d runs = behind app Idle steps t st tt (dialogue_tells app steps s t (after_step Idle st) d runs)
dialogue_tells app (End ∷ steps) s t st d runs = behind app End steps t st tt (dialogue_tells app steps s t (after_step End st) d runs)
dialogue_tells app (Opened ∷ steps) s t st d runs = behind app Opened steps t st tt (dialogue_tells app steps s t (after_step Opened st) d runs)
dialogue_tells app (NotOpened ∷ steps) s t st d runs = behind app NotOpened steps t st tt (dialogue_tells app steps s t (after_step NotOpened st) d runs)
dialogue_tells app (NextFailed ∷ steps) s t st d runs = behind app NextFailed steps t st tt (dialogue_tells app steps s t (after_step NextFailed st) d runs)
dialogue_tells app (SendLost dpid ∷ steps) s t st d runs = behind app (SendLost dpid) steps t st (act_in_place app (Lost dpid) s d.0 (is_running app st) d.1.0 runs)
    (dialogue_tells app steps d.0 t (after_step (SendLost dpid) st) d.1.1 (act_by app (Lost dpid) s d.0 st false refl d.1.0 runs))
dialogue_tells app (RecvLost dpid ∷ steps) s t st d runs = behind app (RecvLost dpid) steps t st (act_in_place app (Lost dpid) s d.0 (is_running app st) d.1.0 runs)
    (dialogue_tells app steps d.0 t (after_step (RecvLost dpid) st) d.1.1 (act_by app (Lost dpid) s d.0 st false refl d.1.0 runs))
dialogue_tells app (SendFailed dpid ∷ steps) s t st d runs = behind app (SendFailed dpid) steps t st tt (dialogue_tells app steps s t (after_step (SendFailed dpid) st) d runs)
dialogue_tells app (RecvFailed dpid ∷ steps) s t st d runs = behind app (RecvFailed dpid) steps t st tt (dialogue_tells app steps s t (after_step (RecvFailed dpid) st) d runs)

pub dialogue_runs : (app : ℕ) (steps : List WorldStep) (s t : Before) (st : State) → Dialogue app s (journal steps) t → s.running ≡ is_running app st → t.running ≡ is_running app (after_steps steps st)
dialogue_runs app steps s t st d runs = (dialogue_tells app steps s t st d runs).runs

pub dialogue_in_place : (app : ℕ) (steps : List WorldStep) (s t : Before) (st : State) → Dialogue app s (journal steps) t → s.running ≡ is_running app st → CallsKeepOrder app steps st
dialogue_in_place app steps s t st d runs = (dialogue_tells app steps s t st d runs).no_strays

-- what it tells then, where it told so before
pub converses_runs : {Own : Type 0} (app : ℕ) (s t : Before) (old new : Seen Own) → Converses app s t old new → new.given ≡ old.given → s.running ≡ is_running app (state old) → t.running ≡ is_running app (state new)
converses_runs app s t old new c given runs = dialogue_runs app c.steps s t (state old) c.dialogue runs ∙ ap (λ (st : State). is_running app st) (sym (state-append old new c.steps given c.history))
