-- Laws of the end of the application: no application runs behind it, where none ran before the run and no other one was called.
use Rattle.std.specs.Prelude.{◌≡◌, ◌==◌, ◌<◌, ◌≤◌, ◌+◌, ℕ, Bool, true, false, not, List, [], ◌∷◌, ◌++◌, ◌||◌, filter, refl}
use Rattle.std.specs.List.{AllByRecursion, list_any}
use Rattle.std.proofs.Common.{sym, ap, ◌∙◌, subst, arith, inl, inr, true≢false}
use Rattle.std.proofs.lemmas.Bool.{cases_Bool, cases_eq, eq-eqb, or_parts}
use Rattle.std.proofs.lemmas.List.{append-nil}
use Rattle.of_types.specs.declared.journal.Act.{Act}
use Rattle.of_types.specs.declared.journal.Act.TheVariants.{Stim, Started, Gave, Gone, Took, Ended, Sent, Got, Lost}
use Rattle.outside.specs.declared.step.WorldStep.{WorldStep}
use Rattle.outside.specs.declared.step.WorldStep.TheVariants.{Acted, TookInto, From, Joined, Left, Moment, Idle, End, Opened, NotOpened, NextFailed, SendLost, RecvLost, SendFailed, RecvFailed}
use Rattle.outside.specs.Seen.{Seen, Continues, journal}
use Rattle.outside.specs.State.{State, state, at_first, is_running, after_stim, after_act, after_step, after_steps}
use Rattle.outside.specs.laws.SeenLaws.{Continues-trans, Ends-continues}
use Rattle.outside.specs.laws.StateLaws.{state-append}
use Rattle.outside.specs.Calls.{end_steps, Ends}
use Rattle.outside.specs.InOrder.{MessagesSince}
use Rattle.run_laws.specs.laws.CutLaws.{leaves-nothing}
use Rattle.net_txn.specs.LinkSteps.{MakesNoStrayCall}
use Rattle.outside.specs.laws.InOrderLaws.{InOrder-before, messages-none, messages-then}
use Rattle.net_txn.specs.Net.{NetState}
use Rattle.net_txn.specs.laws.LinkStrayLaws.{no_strays_none, no_strays_then}
use Rattle.run_laws.specs.Cut.{IsCallAmong, CallsAmong}
use Rattle.app_visor.specs.laws.AttemptLaws.{ends_is}
use Rattle.batch_laws.specs.laws.KeyLaws.{all-filter}
use Rattle.event_dispatch.specs.declared.served.Served.{Served}
use Rattle.event_dispatch.specs.declared.served.Served.TheVariants as served
use Rattle.event_dispatch.specs.Serves.{IsUnopened}
use Rattle.event_dispatch.specs.Steady.{NoStray, NoPoint, NoneMoves, NoOwnMessage, IsEnded, NoneRuns}
use Rattle.lego_model.specs.OwnIds.{own_ids}
use Rattle.event_dispatch.specs.laws.NumberLaws.{none_sent_none, none_sent_then}
use Rattle.event_dispatch.specs.Talking.{KeepsTalking}
use Rattle.lego_model.specs.History.{lost_of}
use Rattle.run_laws.specs.Endings.{Leaves}
use Rattle.switch_laws.specs.laws.OrderlyLaws.{orderly-then}
use Rattle.run_laws.specs.laws.LeaveLaws.{end-leaves}
use Rattle.event_dispatch.specs.laws.TalkingLaws.{keeps_none, keeps_then, keeps_ended}
use Rattle.event_dispatch.specs.laws.SteadyLaws.{places_none, quietly_none, quietly_then, none_move, none_move_then, calls_then}
use Rattle.event_dispatch.specs.laws.ReadLaws.{end_quietly, end_places, end_messages}
use Rattle.event_dispatch.specs.laws.NoEventLaws.{end_stay, end_releases_none}

-- ---- The applications that run

abbrev AreAll : ℕ → List ℕ → Type 0
AreAll number running = AllByRecursion (λ a. a < number) running

all_added : (number of : ℕ) (xs : List ℕ) → of < number → AreAll number xs → AreAll number (xs ++ of ∷ [])
all_added number of [] is all = (is, tt)
all_added number of (x ∷ xs) is all = (all.0, all_added number of xs is all.1)

-- one call for the application, or none for any
act_runs : (number : ℕ) (act : Act) (s : State) → IsCallAmong number (Acted act) → AreAll number s.running → AreAll number (after_act act s).running
unfolding after_act after_stim
act_runs number (Stim x) s is all = all
act_runs number (Started of true) s is all = all_added number of s.running is all
act_runs number (Started of false) s is all = all
act_runs number (Gave of bytes) s is all = all
act_runs number (Gone of bytes) s is all = all
act_runs number (Took of what) s is all = all
act_runs number (Ended of) s is all = all-filter (λ a. a < number) (λ a. a < number) (λ a. not (a == of)) (λ a same kept. same) s.running all
act_runs number (Sent d bytes) s is all = all
act_runs number (Got d bytes) s is all = all
act_runs number (Lost d) s is all = all

step_runs : (number : ℕ) (step : WorldStep) (s : State) → IsCallAmong number step → AreAll number s.running → AreAll number (after_step step s).running
unfolding after_step
step_runs number (Acted act) s is all = act_runs number act s is all
step_runs number (TookInto of what room) s is all = all
step_runs number (From d bytes) s is all = all
step_runs number (Joined d bytes) s is all = all
step_runs number (Left d) s is all = all
step_runs number (Moment t) s is all = all
step_runs number Idle s is all = all
step_runs number End s is all = all
step_runs number Opened s is all = all
step_runs number NotOpened s is all = absurd is
step_runs number NextFailed s is all = all
step_runs number (SendLost d) s is all = all
step_runs number (RecvLost d) s is all = all
step_runs number (SendFailed d) s is all = all
step_runs number (RecvFailed d) s is all = all

steps_run : (number : ℕ) (steps : List WorldStep) (s : State) → AllByRecursion (IsCallAmong number) steps → AreAll number s.running → AreAll number (after_steps steps s).running
steps_run number [] s own all = all
steps_run number (step ∷ steps) s own all = steps_run number steps (after_step step s) own.1 (step_runs number step s own.0 all)

none_of : (number : ℕ) (running : List ℕ) → AreAll number running → ((app : ℕ) → app < number → list_any (λ a. a == app) running ≡ false) → running ≡ []
none_of number [] all none = refl
none_of number (x ∷ xs) all none = absurd (true≢false (sym (ap (λ (b : Bool). b || list_any (λ a. a == x) xs) (eq-eqb x x refl)) ∙ none x all.0))

-- no other one was called, and none of these runs
none_left : {Own : Type 0} (Tells : Type 0) (number : ℕ) (old new : Seen Own) → Tells → Continues Tells old new → CallsAmong number old new → ((app : ℕ) → app < number → is_running app (state new) ≡ false) → (state old).running ≡ [] → (state new).running ≡ []
none_left Tells number old new told on own ended none =
    none_of number (state new).running
    (subst (λ (s : State). AreAll number s.running) (sym (state-append old new own.steps on.given own.history)) (steps_run number own.steps (state old) own.all (subst (λ (xs : List ℕ). AreAll number xs) (sym none) tt))) ended

-- ---- The end

-- one that does not run is not made to run by the end of another
any_filter : (of app : ℕ) (xs : List ℕ) → list_any (λ a. a == of) xs ≡ false → list_any (λ a. a == of) (filter (λ a. not (a == app)) xs) ≡ false
any_filter of app [] none = refl
any_filter of app (x ∷ xs) none =
    let both = or_parts (x == of) (list_any (λ a. a == of) xs) none in
    elim (cases_Bool (x == app)) [
      | inl here ↦ rw here (any_filter of app xs both.1)
      | inr other ↦ rw (other, both.0) (any_filter of app xs both.1)
    ]

end_still : (app of : ℕ) (running : Bool) (s : State) → is_running of s ≡ false → is_running of (after_steps (end_steps app running) s) ≡ false
unfolding end_steps after_act after_step
end_still app of true s none = any_filter of app s.running none
end_still app of false s none = none

-- so many of them were ended
pub record EndedSoFar {Own : Type 0} (Tells : Type 0) (number n : ℕ) (old new : Seen Own) : Type 0 where
  pub no_point : NoPoint Tells number old new
  pub places : Tells → MakesNoStrayCall old new
  pub messages : Tells → MessagesSince old new
  pub none_sent : Tells → NoOwnMessage old new
  pub ended : Tells → (app : ℕ) → app < n → is_running app (state new) ≡ false
  pub none_moves : NoneMoves Tells old new
  pub leaves : Tells → Leaves number [] old new
  pub talks : KeepsTalking Tells old new

leaves_then : {Own : Type 0} {number : ℕ} (old mid new : Seen Own) → Leaves number [] old mid → Leaves number [] mid new → Leaves number [] old new
leaves_then {number = number} old mid new first second = record {
  given = second.given ∙ first.given;
  told = λ app. record {
    starts = (second.told app).starts ∙ (first.told app).starts;
    replies = (second.told app).replies ∙ (first.told app).replies;
    inputs = (second.told app).inputs ∙ (first.told app).inputs;
  };
  stimuli = second.stimuli ∙ first.stimuli;
  released = second.released ∙ first.released;
  lost_is = second.lost_is ∙ append-nil (lost_of mid) ∙ first.lost_is;
  marks = second.marks ∙ first.marks;
  switches = λ d. second.switches d ∙ first.switches d;
  at_once = λ app said. second.at_once app (first.at_once app said);
  orderly = orderly-then number old mid new first.orderly second.orderly;
}

pub ended_none : {Own : Type 0} {number : ℕ} (Tells : Type 0) (seen : Seen Own) → EndedSoFar Tells number 0 seen seen
ended_none {number = number} Tells seen = record {
  no_point = quietly_none Tells seen;
  places = λ told. no_strays_none seen;
  messages = λ told. messages-none seen;
  none_sent = λ told. none_sent_none seen;
  ended = λ told app small. absurd (omega (arith, small));
  none_moves = none_move Tells seen;
  leaves = λ told. leaves-nothing number seen;
  talks = keeps_none Tells seen;
}

still_ended : {Own : Type 0} (Tells : Type 0) (n app : ℕ) (mid new : Seen Own) → Tells → Ends Tells n mid new → is_running app (state mid) ≡ false → is_running app (state new) ≡ false
still_ended Tells n app mid new told ends none =
    ap (λ (s : State). is_running app s) (state-append mid new (end_steps n (is_running n (state mid))) ends.given (ends.told told).history) ∙ end_still n app (is_running n (state mid)) (state mid) none

end_none_sent : (app : ℕ) (running : Bool) → own_ids (journal (end_steps app running)) ≡ []
unfolding end_steps own_ids journal
end_none_sent app true = refl
end_none_sent app false = refl

pub ended_next : {Own : Type 0} {Tells : Type 0} {number : ℕ} (n : ℕ) (old mid new : Seen Own) → n < number → Continues Tells old mid → EndedSoFar Tells number n old mid → Ends Tells n mid new → EndedSoFar Tells number (n + 1) old new
ended_next {Tells = Tells} {number = number} n old mid new small before first ends = record {
  no_point = quietly_then Tells old mid new first.no_point (end_quietly Tells n mid new small ends);
  places = λ told. no_strays_then old mid new told before (Ends-continues ends) (first.places told) (end_places Tells n mid new ends told);
  messages = λ told. messages-then old mid new told before (Ends-continues ends) (first.messages told) (end_messages Tells n mid new ends told);
  none_sent = λ told. none_sent_then (first.none_sent told) (record { steps = end_steps n (is_running n (state mid)); history = (ends.told told).history; none = end_none_sent n (is_running n (state mid)) });
  ended = λ told app less. elim (cases_eq app n) [
    | inl same ↦ subst (λ (i : ℕ). is_running i (state new) ≡ false) (sym same) (ends_is Tells n mid new ends told)
    | inr other ↦ still_ended Tells n app mid new told ends (first.ended told app (omega (arith, less, other)))
  ];
  none_moves = none_move_then first.none_moves (record { stay = λ told. end_stay ends told; releases = λ told. end_releases_none ends told });
  leaves = λ told. leaves_then old mid new (first.leaves told) (end-leaves Tells n number mid new told small ends);
  talks = keeps_then Tells old mid new first.talks (keeps_ended Tells n mid new ends);
}

pub are_ended : {Own : Type 0} {Tells : Type 0} {number : ℕ} (n : ℕ) (old new : Seen Own) → number ≤ n → EndedSoFar Tells number n old new → IsEnded Tells number old new
are_ended n old new all so_far = record {
  no_point = so_far.no_point;
  places = so_far.places;
  messages = so_far.messages;
  none_sent = so_far.none_sent;
  ended = λ told app less. so_far.ended told app (omega (arith, all, less));
  none_moves = so_far.none_moves;
}

pub none_runs_none : {Own : Type 0} {number : ℕ} (Tells : Type 0) (seen : Seen Own) (net : NetState) → NoneRuns Tells number seen seen net
none_runs_none Tells seen net = record { no_stray = places_none Tells seen net; none_runs = λ told none. none }

pub none_runs_then : {Own : Type 0} {number : ℕ} {Tells : Type 0} (old mid new : Seen Own) (net : NetState) → Continues Tells old mid → Continues Tells mid new → NoStray Tells number old mid net → IsEnded Tells number mid new → NoneRuns Tells number old new net
none_runs_then {number = number} {Tells = Tells} old mid new net before later first last =
    let own : Tells → CallsAmong number old new = λ told. calls_then (first.own told) (last.no_point.own told) in
    record {
      no_stray = record {
        places = λ told order abreast. no_strays_then old mid new told before later (first.places told (InOrder-before told later order) abreast) (last.places told);
        own = own;
      };
      none_runs = λ told none. none_left Tells number old new told (Continues-trans Tells old mid new before later) (own told) (last.ended told) none;
    }

-- ---- Of a world on which no call was made

none_at_first : {Own : Type 0} (seen : Seen Own) (steps : List WorldStep) → seen.history ≡ steps → (after_steps steps (at_first seen.given)).running ≡ [] → (state seen).running ≡ []
unfolding state
none_at_first seen steps is none = ap (λ (h : List WorldStep). (after_steps h (at_first seen.given)).running) is ∙ none

pub unopened_ended : {Own : Type 0} (Tells : Type 0) (old new : Seen Own) (end : Served) → IsUnopened Tells old new end → Tells → old.history ≡ [] → (state new).running ≡ []
unfolding at_first after_step
unopened_ended Tells old new served.Shut left told none = none_at_first new (NotOpened ∷ []) (left told ∙ ap (λ (h : List WorldStep). h ++ NotOpened ∷ []) none) refl
unopened_ended Tells old new served.NoMemory left told none = none_at_first new [] (left told ∙ none) refl
unopened_ended Tells old new (served.Ended events) left told none = absurd left
unopened_ended Tells old new served.WriteFault left told none = absurd left
unopened_ended Tells old new served.NextFault left told none = absurd left
unopened_ended Tells old new (served.Txn fault) left told none = absurd left
unopened_ended Tells old new (served.EventsLeft n) left told none = absurd left

pub opened_ended : {Own : Type 0} {number : ℕ} (Tells : Type 0) (old mid new : Seen Own) (net : NetState) → (Tells → mid.history ≡ old.history ++ Opened ∷ []) → NoneRuns Tells number mid new net → Tells → old.history ≡ [] → (state new).running ≡ []
unfolding at_first after_step
opened_ended Tells old mid new net opened run told none =
    run.none_runs told (none_at_first mid (Opened ∷ []) (opened told ∙ ap (λ (h : List WorldStep). h ++ Opened ∷ []) none) refl)
