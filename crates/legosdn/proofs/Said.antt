-- The run of a session is the reference controller's over what the lines of the session say.
use Rattle.std.proofs.Common.{◌≡◌, ◌==◌, ℕ, zero, suc, ◌+◌, ◌<◌, ◌≤◌, nat_lt, false, List, [], ◌∷◌, length, filter, map, Option, Some, Ok, IfSome, refl, sym, ap, ◌∙◌, subst, arith, inl, inr}
use Rattle.std.proofs.lemmas.Bool.{cases_Bool, eqb-true, eqb-false, ltb-true, ltb-false}
use Rattle.std.specs.Io.KnownBytes.{append_known}
use Rattle.std.specs.List.{AllByRecursion}
use Rattle.of_types.specs.declared.journal.Act.{Act}
use Rattle.of_types.specs.declared.journal.Act.TheVariants.{Stim, Started, Gave, Gone, Took, Ended, Sent, Got, Lost}
use Rattle.of_types.specs.declared.journal.WorldStim.{WorldStim}
use Rattle.outside.specs.declared.call.FailCall.{FailCall}
use Rattle.outside.specs.declared.step.WorldStep.{WorldStep}
use Rattle.outside.specs.declared.step.WorldStep.TheVariants.{Acted, TookInto, From, Joined, Left, Moment, Idle, End, Opened, NotOpened, NextFailed, SendLost, RecvLost, SendFailed, RecvFailed}
use Rattle.outside.specs.Seen.{Given, Seen, journal}
use Rattle.lego_model.specs.AtOnce.{AtOnce}
use Rattle.lego_model.specs.Journal.{is_of}
use Rattle.lego_model.specs.Scripted.{starts_said, replies_said, AreFronts, AreStartFronts}
use Rattle.lego_model.specs.Controller.{reference}
use Rattle.lego_model.specs.RunReport.{run_report}
use Rattle.lego_model.specs.SessionLines.{SessionValue}
use Rattle.lego_model.specs.History.{starts_in, replies_in, own_acts, stimuli_in}
use Rattle.sim_world.specs.Told.{without_links}
use Rattle.sim_world.specs.Scripts.{Scripts, starts_of, replies_of, KeepsScripts}
use Rattle.lego_model.specs.OrderlySteps.{IsOrderlyAct, IsOrderly}
use Rattle.script_laws.specs.Ahead.{HasRoom}
use Rattle.script_laws.specs.laws.FollowLaws.{tells_fronts}
use Rattle.lego_model.specs.Application.{names}
use Rattle.lego_model.specs.ReferenceRun.{fresh_from, AreSaid}
use Rattle.lego_model.specs.WholeRun.{EndsAs, EndsAlike, LeavesAs, LeavesAlike}
use Rattle.session_text.specs.Loading.{fail_of, given_by}
use Rattle.legosdn.specs.Input.{ProgramValue, Read, Spelling}
use Rattle.legosdn.specs.Said.{allowed_by, said_by, reference_over, reference_of_session, WithEnough}
use Rattle.legosdn.specs.Headline.{Loaded, RunsWhole}
use Rattle.lego_model.specs.laws.JournalLaws.{acts-nil}

-- ---- What was told is the front of what is said

step_has_room : (number : ℕ) (step : WorldStep) → IsOrderly number step → HasRoom step
step_has_room number (Acted act) so = tt
step_has_room number (TookInto of what room) so = so.1
step_has_room number (From d bytes) so = tt
step_has_room number (Joined d bytes) so = tt
step_has_room number (Left d) so = tt
step_has_room number (Moment t) so = tt
step_has_room number Idle so = tt
step_has_room number End so = tt
step_has_room number Opened so = tt
step_has_room number NotOpened so = tt
step_has_room number NextFailed so = tt
step_has_room number (SendLost d) so = tt
step_has_room number (RecvLost d) so = tt
step_has_room number (SendFailed d) so = tt
step_has_room number (RecvFailed d) so = tt

have_room : (number : ℕ) (steps : List WorldStep) → AllByRecursion (IsOrderly number) steps → AllByRecursion HasRoom steps
have_room number [] so = tt
have_room number (step ∷ steps) so = (step_has_room number step so.0, have_room number steps so.1)

-- the world kept to the lines that it was given, and no call for one of its applications was told to fail
pub record KeptToLines (number : ℕ) (seen : Seen Scripts) : Type 0 where
  pub keeps : KeepsScripts seen.given.own [] seen.history
  pub orderly : AllByRecursion (IsOrderly number) seen.history
  pub at_once : (i : ℕ) → i < number → AtOnce i (journal seen.history)

-- ---- How many starts and replies were told

told_of_one : ℕ → Seen Scripts → ℕ
told_of_one i seen = length (starts_in (own_acts i seen)) + length (replies_in (own_acts i seen))

-- of the first applications together
pub told_in : ℕ → Seen Scripts → ℕ
told_in zero seen = 0
told_in (suc n) seen = told_of_one n seen + told_in n seen

-- at least those of one of them
told_within : (i n : ℕ) (seen : Seen Scripts) → i < n → told_of_one i seen ≤ told_in n seen
unfolding told_in
told_within i zero seen lt = absurd (omega (arith, lt))
told_within i (suc n) seen lt =
    elim (cases_Bool (i == n)) [
      | inl same ↦ subst (λ (k : ℕ). told_of_one k seen ≤ told_of_one n seen + told_in n seen) (sym (eqb-true i n same)) (omega arith)
      | inr other ↦ let rest = told_within i n seen (omega (arith, lt, eqb-false i n other)) in omega (arith, rest)
    ]

starts_few : (i n : ℕ) (seen : Seen Scripts) (more : ℕ) → i < n → told_in n seen ≤ more → length (starts_in (own_acts i seen)) ≤ more
unfolding told_of_one
starts_few i n seen more lt few = let all = told_within i n seen lt in omega (arith, all, few)

replies_few : (i n : ℕ) (seen : Seen Scripts) (more : ℕ) → i < n → told_in n seen ≤ more → length (replies_in (own_acts i seen)) ≤ more
unfolding told_of_one
replies_few i n seen more lt few = let all = told_within i n seen lt in omega (arith, all, few)

-- ---- No other application was called

not_same : (number i of : ℕ) → number ≤ i → of < number → (of == i) ≡ false
not_same number i of out so =
    elim (cases_Bool (of == i)) [
      | inl same ↦ absurd (let is = eqb-true of i same in omega (arith, out, so, is))
      | inr other ↦ other
    ]

not_its_act : (number i : ℕ) (act : Act) → number ≤ i → IsOrderlyAct number act → is_of i act ≡ false
not_its_act number i (Stim x) out so = refl
not_its_act number i (Started of stands) out so = not_same number i of out so
not_its_act number i (Gave of bytes) out so = not_same number i of out so
not_its_act number i (Gone of bytes) out so = not_same number i of out so
not_its_act number i (Took of what) out so = not_same number i of out so
not_its_act number i (Ended of) out so = not_same number i of out so
not_its_act number i (Sent d bytes) out so = refl
not_its_act number i (Got d bytes) out so = refl
not_its_act number i (Lost d) out so = refl

none_more : (i : ℕ) (act : Act) (acts : List Act) → is_of i act ≡ false → filter (is_of i) acts ≡ [] → filter (is_of i) (act ∷ acts) ≡ []
none_more i act acts other rest = rw other rest

no_own_step : (number i : ℕ) (step : WorldStep) (steps : List WorldStep) → number ≤ i → IsOrderly number step → filter (is_of i) (journal steps) ≡ [] → filter (is_of i) (journal (step ∷ steps)) ≡ []
unfolding journal
no_own_step number i (Acted act) steps out so rest = none_more i act (journal steps) (not_its_act number i act out so) rest
no_own_step number i (TookInto of what room) steps out so rest = none_more i (Took of what) (journal steps) (not_same number i of out so.0) rest
no_own_step number i (From d bytes) steps out so rest = rest
no_own_step number i (Joined d bytes) steps out so rest = rest
no_own_step number i (Left d) steps out so rest = rest
no_own_step number i (Moment t) steps out so rest = rest
no_own_step number i Idle steps out so rest = rest
no_own_step number i End steps out so rest = rest
no_own_step number i Opened steps out so rest = rest
no_own_step number i NotOpened steps out so rest = rest
no_own_step number i NextFailed steps out so rest = rest
no_own_step number i (SendLost d) steps out so rest = rest
no_own_step number i (RecvLost d) steps out so rest = rest
no_own_step number i (SendFailed d) steps out so rest = rest
no_own_step number i (RecvFailed d) steps out so rest = rest

none_own : (number i : ℕ) (steps : List WorldStep) → number ≤ i → AllByRecursion (IsOrderly number) steps → filter (is_of i) (journal steps) ≡ []
none_own number i [] out so = acts-nil i
none_own number i (step ∷ steps) out so = no_own_step number i step steps out so.0 (none_own number i steps out so.1)

-- ---- The front of what is said

abbrev AreFrontsBy : ℕ → Scripts → ℕ → List Act → Type 0
AreFrontsBy more own i acts = AreStartFronts (starts_in acts) (starts_said more (starts_of i own)) × AreFronts (replies_in acts) (replies_said more (replies_of i own))

fronts_of : (number : ℕ) (seen : Seen Scripts) (more : ℕ) → KeptToLines number seen → told_in number seen ≤ more → (i : ℕ) → AreFrontsBy more seen.given.own i (own_acts i seen)
fronts_of number seen more k few i =
    elim (cases_Bool (nat_lt i number)) [
      | inl within ↦
          let lt = ltb-true i number within in
          tells_fronts seen.given.own i seen.history more k.keeps (have_room number seen.history k.orderly) (k.at_once i lt) (starts_few i number seen more lt few) (replies_few i number seen more lt few)
      | inr out ↦ subst (AreFrontsBy more seen.given.own i) (sym (none_own number i seen.history (ltb-false i number out) k.orderly)) (tt, tt)
    ]

pub are_said : (number : ℕ) (seen : Seen Scripts) (more : ℕ) → KeptToLines number seen → told_in number seen ≤ more → AreSaid seen (said_by more seen.given.own)
are_said number seen more k few = λ i. fronts_of number seen more k few i

pub kept_to_lines : (number : ℕ) (seen : Seen Scripts) (fails : List FailCall) → KeepsScripts seen.given.own fails seen.history → fails ≡ [] → AllByRecursion (IsOrderly number) seen.history → ((i : ℕ) → i < number → AtOnce i (journal seen.history)) → KeptToLines number seen
kept_to_lines number seen fails keeps none orderly at_once = record {
  keeps = subst (λ (f : List FailCall). KeepsScripts seen.given.own f seen.history) none keeps;
  orderly = orderly;
  at_once = at_once;
}

-- ---- The whole run, and one that leaves events

pub ends_as_said : (program : ProgramValue) (seen : Seen Scripts) (contents now_contents : Option (List ℕ)) (events : ℕ) → (alike : EndsAlike program.apps (allowed_by program.judge) false seen contents now_contents events) → stimuli_in seen ≡ seen.given.stimuli → KeptToLines (length program.apps) seen
    → WithEnough (λ more. EndsAs program.apps seen contents now_contents events (reference_over program more alike.losses seen.given))
ends_as_said program seen contents now_contents events alike stimuli k = record {
  enough = told_in (length program.apps) seen;
  holds = λ more few. subst (λ (xs : List WorldStim). EndsAs program.apps seen contents now_contents events
      (reference (allowed_by program.judge) seen.given.declared (fresh_from 0 program.apps (said_by more seen.given.own)) alike.losses false xs)) stimuli
      (alike.as_said _ (are_said (length program.apps) seen more k few));
}

pub leaves_as_said : (program : ProgramValue) (seen : Seen Scripts) (contents now_contents : Option (List ℕ)) (left : ℕ) → (alike : LeavesAlike program.apps (allowed_by program.judge) false seen contents now_contents left) → stimuli_in seen ≡ seen.given.stimuli → KeptToLines (length program.apps) seen
    → WithEnough (λ more. LeavesAs program.apps seen contents now_contents left (reference_over program more alike.losses seen.given))
leaves_as_said program seen contents now_contents left alike stimuli k = record {
  enough = told_in (length program.apps) seen;
  holds = λ more few. subst (λ (xs : List WorldStim). LeavesAs program.apps seen contents now_contents left
      (reference (allowed_by program.judge) seen.given.declared (fresh_from 0 program.apps (said_by more seen.given.own)) alike.losses false xs)) stimuli
      (alike.as_said _ (are_said (length program.apps) seen more k few));
}

-- ---- From the bytes of the input

fails_of_links : (faults : List (ℕ × ℕ)) → without_links (map fail_of faults) ≡ []
unfolding without_links
fails_of_links [] = refl
fails_of_links (fault ∷ faults) = fails_of_links faults

none_of_applications : (session : SessionValue) → without_links (given_by session).fails ≡ []
unfolding given_by
none_of_applications session = fails_of_links session.faults

same_spelled : (a b : ProgramValue × SessionValue) (r : Read (ProgramValue × SessionValue)) → r ≡ Ok a → r ≡ Ok b → a ≡ b
same_spelled a b r one other = cc

-- the program and the session that were loaded are those that the input spells
loaded_is : (spells : Spelling) (ran program : ProgramValue) (told left : Option (List ℕ)) (seen : Seen Scripts) (input : List ℕ) (session : SessionValue) → (loaded : Loaded spells ran told left seen) → told ≡ Some input → spells input ≡ Ok (program, session)
    → ◌≡◌ {A = ProgramValue × SessionValue} (ran, loaded.session) (program, session)
loaded_is spells ran program told left seen input session loaded whole spelled =
    let same : loaded.input ≡ input = subst (λ (t : Option (List ℕ)). IfSome t (λ bytes. loaded.input ≡ bytes)) whole loaded.whole in
    same_spelled (ran, loaded.session) (program, session) (spells input) (ap spells (sym same) ∙ loaded.spelled) spelled

pub app_is : (spells : Spelling) (ran program : ProgramValue) (told left : Option (List ℕ)) (seen : Seen Scripts) (input : List ℕ) (session : SessionValue) → Loaded spells ran told left seen → told ≡ Some input → spells input ≡ Ok (program, session) → ran ≡ program
app_is spells ran program told left seen input session loaded whole spelled = ap (λ (p : ProgramValue × SessionValue). p.0) (loaded_is spells ran program told left seen input session loaded whole spelled)

pub given_session : (spells : Spelling) (ran program : ProgramValue) (told left : Option (List ℕ)) (seen : Seen Scripts) (input : List ℕ) (session : SessionValue) → Loaded spells ran told left seen → told ≡ Some input → spells input ≡ Ok (program, session) → seen.given ≡ given_by session
given_session spells ran program told left seen input session loaded whole spelled =
    loaded.given ∙ ap (λ (p : ProgramValue × SessionValue). given_by p.1) (loaded_is spells ran program told left seen input session loaded whole spelled)

-- the whole report is that of the reference controller of the session
session_report : (program : ProgramValue) (seen : Seen Scripts) (contents now_contents : Option (List ℕ)) (session : SessionValue) → seen.given ≡ given_by session → (runs : RunsWhole program seen contents now_contents)
    → WithEnough (λ more. now_contents ≡ append_known contents (run_report (names program.apps) (reference_of_session program more runs.alike.losses session)))
session_report program seen contents now_contents session given runs =
    let said = runs.as_said (ap (λ (g : Given Scripts). without_links g.fails) given ∙ none_of_applications session) in
    record {
      enough = said.enough;
      holds = λ more few. subst (λ (g : Given Scripts). now_contents ≡ append_known contents (run_report (names program.apps) (reference_over program more runs.alike.losses g))) given (said.holds more few).report;
    }

pub reports : (spells : Spelling) (program : ProgramValue) (told left : Option (List ℕ)) (seen : Seen Scripts) (contents now_contents : Option (List ℕ)) (input : List ℕ) (session : SessionValue)
    → (other : ProgramValue) × Loaded spells other told left seen × RunsWhole other seen contents now_contents → told ≡ Some input → spells input ≡ Ok (program, session)
    → (runs : RunsWhole program seen contents now_contents) × WithEnough (λ more. now_contents ≡ append_known contents (run_report (names program.apps) (reference_of_session program more runs.alike.losses session)))
reports spells program told left seen contents now_contents input session ran whole spelled =
    let runs = subst (λ (other : ProgramValue). RunsWhole other seen contents now_contents) (app_is spells ran.0 program told left seen input session ran.1 whole spelled) ran.2 in
    (runs, session_report program seen contents now_contents session (given_session spells ran.0 program told left seen input session ran.1 whole spelled) runs)
