-- The promises of both commands, from how each ends.
use Rattle.std.proofs.Common.{◌≡◌, ◌⊎◌, ◌≤◌, ℕ, List, [], ◌∷◌, Option, Ok, Err, IfSome, Contains, refl, sym, subst, ap, ◌∙◌, arith, inl, inr}
use Rattle.lego_io.specs.Count.{NeverFell}
use Rattle.outside.specs.declared.step.WorldStep.TheVariants.{NotOpened}
use Rattle.outside.specs.Seen.{Seen, journal}
use Rattle.outside.specs.State.{state}
use Rattle.outside.specs.InOrder.{BringMessages}
use Rattle.sim_world.specs.Scripts.{Scripts}
use Rattle.sim_world.specs.World.{WorldData, seen_of}
use Rattle.sim_world.specs.Building.{IsNew}
use Rattle.lego_model.specs.CutRun.{NothingDone}
use Rattle.lego_model.specs.OwnIds.{IsShortRun, OwnIdsAscend}
use Rattle.legosdn.specs.declared.stop.InputRefusal.{InputRefusal}
use Rattle.legosdn.specs.declared.stop.Stop.{Stop}
use Rattle.legosdn.specs.declared.stop.Stop.TheVariants.{Usage, Refused, ReadFault, WriteFault, Shut, NextFault, SwitchBroke, Diverged, EventsLeft, NoMemory}
use Rattle.legosdn.specs.Input.{ProgramValue, run_policy, Spelling}
use Rattle.legosdn.specs.Stops.{stop_status, stop_line, refusal_line}
use Rattle.legosdn.specs.Headline.{IsNoSession, IsNoPolicy, Streams, faults_at, IsCause, NoneFailed, IsEarly, SpellsSession, SpellsPolicy, IsLoaded, LosesByFaults, UpToPoint, NeverRuns, StopsAs, RunsLoaded, Wrote, Replays}
use Rattle.crash_policy.specs.Policies.{AppValue}
use Rattle.run_course.specs.Parts.{TakesCourse}
use Rattle.legosdn.specs.Course.{StandsAt, CourseTo}
use Rattle.legosdn.specs.LinkFaults.{LosesAsTold}
use Rattle.legosdn.specs.Live.{ServesUntil, ServesTaken, Serves}
use Rattle.legosdn.specs.Promise.{IsAnswered, HasCause, HasRun, RefusedBy, AreDialogues, AnswersMeanDone, ReplayPromise, ReportsTold, RunPromise, AtEveryStatus, LiveAtEveryStatus}
use Rattle.legosdn.proofs.Statuses.{is_refused, is_late, not_zero, fault_or_left}
use Rattle.legosdn.proofs.Causes.{cause_then, none_refused, refuses}
use Rattle.legosdn.proofs.Loads.{late_loaded, none_done_early}
use Rattle.legosdn.proofs.FaultLines.{lost_by_lines, lost_nowhere}
use Rattle.legosdn.proofs.Losses.{nothing_lost, none_lost_by}
use Rattle.legosdn.proofs.Places.{idle_in_place}
use Rattle.legosdn.proofs.Said.{reports}
use Rattle.legosdn.proofs.Runs.{untouched, none_runs, none_runs_yet, no_ids, no_ids_yet, new_strays, of_session, ran_whole, whole_of_input, left_of_input, cut_or_not_begun, broke_as, diverged_as, good_session, completes}
use Rattle.legosdn.proofs.CommandEnds.{of_policy, served_whole, served_of_policy, served_or_not_begun, broke_live, diverged_live, good_policy, none_refused_policy, refuses_policy}

-- ---- The last line

-- what stands behind it: more was written, and no more was read
abbrev pub behind : Streams → Option (List ℕ) → ℕ → Streams
behind mid contents faults = record mid { contents = contents; sink_faults = faults }

-- A stop ended the command with this status, and its line was written behind what was written up to there. A stop that comes before anything runs has
-- nothing before its line.
pub record Halts (stop : Stop) (status : ℕ) (old mid : Streams) (contents : Option (List ℕ)) (faults : ℕ) : Type 0 where
  pub status_is : status ≡ stop_status stop
  pub never_fell : NeverFell old.sink_faults mid.sink_faults
  pub never_fell_then : NeverFell mid.sink_faults faults
  pub line : Wrote mid.contents contents mid.sink_faults faults (stop_line stop)
  pub still : IsEarly stop → (mid.contents ≡ old.contents) × (mid.sink_faults ≡ old.sink_faults)

has_cause : {Own : Type 0} (Tells : Type 0) (IsRefused : InputRefusal → List ℕ → Type 0) (stop : Stop) (status : ℕ) (old mid : Streams) (contents : Option (List ℕ)) (faults : ℕ) (was now : Seen Own) → Halts stop status old mid contents faults
    → IsCause Tells IsRefused old.remaining (faults_at old was) (faults_at mid now) stop → HasCause Tells IsRefused status old (behind mid contents faults) was now
has_cause Tells IsRefused stop status old mid contents faults was now halts why = inr (record {
  stop = stop;
  status_is = halts.status_is;
  cause = cause_then Tells IsRefused old.remaining old.source_faults mid.source_faults old.sink_faults mid.sink_faults faults was now stop halts.never_fell halts.never_fell_then why;
  holds = record { before = mid.contents; faults = mid.sink_faults; never_fell = halts.never_fell; written = halts.line };
})

-- the line of a refusal is all that was written
wrote_alone : (stop : Stop) (refusal : InputRefusal) (status : ℕ) (old mid : Streams) (contents : Option (List ℕ)) (faults : ℕ) → Halts stop status old mid contents faults → stop ≡ Refused refusal → Wrote old.contents contents old.sink_faults faults (refusal_line refusal)
unfolding stop_line
wrote_alone stop refusal status old mid contents faults halts is =
    let same = halts.still (subst IsEarly (sym is) tt) in
    let line : Wrote mid.contents contents mid.sink_faults faults (refusal_line refusal) = subst (λ (s : Stop). Wrote mid.contents contents mid.sink_faults faults (stop_line s)) is halts.line in
    subst (λ (c : Option (List ℕ)). Wrote c contents old.sink_faults faults (refusal_line refusal)) same.0 (subst (λ (n : ℕ). Wrote mid.contents contents n faults (refusal_line refusal)) same.1 line)

refused_by : {Own : Type 0} (Tells : Type 0) (IsRefused : InputRefusal → List ℕ → Type 0) (stop : Stop) (status : ℕ) (old mid : Streams) (contents : Option (List ℕ)) (faults : ℕ) (was now : Seen Own) → Halts stop status old mid contents faults
    → IsCause Tells IsRefused old.remaining (faults_at old was) (faults_at mid now) stop → status ≡ 3 → RefusedBy IsRefused old (behind mid contents faults)
refused_by Tells IsRefused stop status old mid contents faults was now halts why three =
    let refused = is_refused stop (sym halts.status_is ∙ three) in (
      refused.0,
      subst (IsCause Tells IsRefused old.remaining (faults_at old was) (faults_at mid now)) refused.1 why,
      wrote_alone stop refused.0 status old mid contents faults halts refused.1,
    )

pub answers : {Own : Type 0} (Tells : Type 0) (IsRefused : InputRefusal → List ℕ → Type 0) (stop : Stop) (status : ℕ) (old mid : Streams) (contents : Option (List ℕ)) (faults : ℕ) (was now : Seen Own) → Halts stop status old mid contents faults
    → IsCause Tells IsRefused old.remaining (faults_at old was) (faults_at mid now) stop → ((refusal : InputRefusal) → IfSome old.remaining (IsRefused refusal) → ⊥) → (stop_status stop ≡ 8 → ⊥) → (stop_status stop ≡ 9 → ⊥)
    → NoneFailed (faults_at old was) (faults_at (behind mid contents faults) now) → IsAnswered status
answers Tells IsRefused stop status old mid contents faults was now halts why good broke diverged none =
    let cause = cause_then Tells IsRefused old.remaining old.source_faults mid.source_faults old.sink_faults mid.sink_faults faults was now stop halts.never_fell halts.never_fell_then why in
    subst IsAnswered (sym halts.status_is) (completes Tells IsRefused old.remaining (faults_at old was) (faults_at (behind mid contents faults) now) stop cause good broke diverged none)

-- ---- Dialogues

nothing_done : {Own : Type 0} (seen : Seen Own) → seen.history ≡ [] → journal seen.history ≡ []
unfolding journal
nothing_done seen none = ap journal none

not_opened : {Own : Type 0} (seen : Seen Own) → seen.history ≡ NotOpened ∷ [] → journal seen.history ≡ []
unfolding journal
not_opened seen is = ap journal is

memory_dialogues : {Own : Type 0} {Short : Type 0} {Holds : Seen Own → Type 0} (program : ProgramValue) (seen : Seen Own) (a b : Option (List ℕ)) → UpToPoint program seen Short Holds ⊎ NothingDone [] seen a b → AreDialogues program seen ⊎ (journal seen.history ≡ [])
memory_dialogues program seen a b (inl until) = inl until.at_once
memory_dialogues program seen a b (inr nothing) = inr (nothing_done seen nothing.history)

serves_dialogues : {Own : Type 0} (program : ProgramValue) (rounds : ℕ) (stop : Stop) (seen : Seen Own) (a b : Option (List ℕ)) → (IsEarly stop → seen.history ≡ []) → ServesUntil program rounds stop seen a b → AreDialogues program seen ⊎ (journal seen.history ≡ [])
serves_dialogues program rounds Usage seen a b early until = inr (nothing_done seen (early tt))
serves_dialogues program rounds (Refused refusal) seen a b early until = inr (nothing_done seen (early tt))
serves_dialogues program rounds ReadFault seen a b early until = inr (nothing_done seen (early tt))
serves_dialogues program rounds WriteFault seen a b early until = inl until.at_once
serves_dialogues program rounds Shut seen a b early until = inr (not_opened seen until.history)
serves_dialogues program rounds NextFault seen a b early until = inl until.at_once
serves_dialogues program rounds (SwitchBroke d) seen a b early until = inl until.1.at_once
serves_dialogues program rounds (Diverged d) seen a b early until = inl until.1.at_once
serves_dialogues program rounds (EventsLeft left) seen a b early until = inl until.alike.at_once
serves_dialogues program rounds NoMemory seen a b early until = memory_dialogues program seen a b until

stops_dialogues : (program : ProgramValue) (stop : Stop) (now : WorldData) (a b : Option (List ℕ)) → (IsEarly stop → (seen_of now).history ≡ []) → StopsAs program stop now a b → AreDialogues program (seen_of now) ⊎ (journal (seen_of now).history ≡ [])
stops_dialogues program Usage now a b early until = inr (nothing_done (seen_of now) (early tt))
stops_dialogues program (Refused refusal) now a b early until = inr (nothing_done (seen_of now) (early tt))
stops_dialogues program ReadFault now a b early until = inr (nothing_done (seen_of now) (early tt))
stops_dialogues program WriteFault now a b early until = inl until.at_once
stops_dialogues program Shut now a b early until = inr (not_opened (seen_of now) until.history)
stops_dialogues program NextFault now a b early until = inl until.at_once
stops_dialogues program (SwitchBroke d) now a b early until = inl until.1.at_once
stops_dialogues program (Diverged d) now a b early until = inl until.1.at_once
stops_dialogues program (EventsLeft left) now a b early until = inl until.alike.at_once
stops_dialogues program NoMemory now a b early until = memory_dialogues program (seen_of now) a b until

-- with the applications of the input
those : {P Q R : Type 0} → (P → R) → P ⊎ Q → R ⊎ Q
those to (inl p) = inl (to p)
those to (inr q) = inr q

run_dialogues : {Own : Type 0} (rounds : ℕ) (told left : Option (List ℕ)) (seen : Seen Own) (a b : Option (List ℕ)) (stop : Stop) → (IsEarly stop → seen.history ≡ []) → ServesTaken {T = Unit {0}} rounds (Err stop) told left seen a b → AnswersMeanDone SpellsPolicy told seen
run_dialogues rounds told left seen a b stop early (inl served) = those (of_policy (λ program. AreDialogues program seen) told left served.0 served.1) (serves_dialogues served.0 rounds stop seen a b early served.2)
run_dialogues rounds told left seen a b stop early (inr before) = inr (nothing_done seen before.1)

replay_dialogues : (spells : Spelling) (told left : Option (List ℕ)) (now : WorldData) (a b : Option (List ℕ)) (stop : Stop) → (IsEarly stop → (seen_of now).history ≡ []) → RunsLoaded {T = Unit {0}} spells (Err stop) told left now a b → AnswersMeanDone (SpellsSession spells) told (seen_of now)
replay_dialogues spells told left now a b stop early (inl ran) = those (of_session spells (λ program. AreDialogues program (seen_of now)) told left (seen_of now) ran.0 ran.1) (stops_dialogues ran.0 stop now a b early ran.2)
replay_dialogues spells told left now a b stop early (inr before) = inr (nothing_done (seen_of now) before.1)

-- the course up to a stop
stops_course : {Own : Type 0} (rules : List AppValue) (stop : Stop) (status : ℕ) (old mid : Streams) (contents : Option (List ℕ)) (faults : ℕ) (was now : Seen Own) → Halts stop status old mid contents faults
    → TakesCourse rules was now old.contents (StandsAt {T = Unit {0}} (Err stop) mid.contents) → CourseTo rules status was now old (behind mid contents faults)
stops_course rules stop status old mid contents faults was now halts course =
    inr (record { stop = stop; status_is = halts.status_is; before = mid.contents; faults = mid.sink_faults; never_fell = halts.never_fell; course = course; written = halts.line })

-- ---- `replay`

pub messages_of : (sim : WorldData) → BringMessages (seen_of sim).history → BringMessages sim.history
unfolding seen_of
messages_of sim messages = messages

pub replay_ok : (spells : Spelling) (old new : Streams) (was now : WorldData) (Stays : Type 0) → Replays {T = Unit {0}} spells (Ok tt) old new was now Stays → ReplayPromise spells 0 old new was now
replay_ok spells old new was now Stays ends =
    let ran = ran_whole spells old.remaining new.remaining now old.contents new.contents ends.runs in
    record {
      failed_turn_leaves_nothing_behind = record {
        whole_run = λ zero. whole_of_input spells old.remaining new.remaining now old.contents new.contents ends.runs;
        events_left = λ ten. absurd (omega (arith, ten));
      };
      report_is_exact = λ program session is zero. reports spells program old.remaining new.remaining (seen_of now) old.contents new.contents is.input session ran is.whole is.spelled;
      answer_means_that_it_is_done = inl (of_session spells (λ program. AreDialogues program (seen_of now)) old.remaining new.remaining (seen_of now) ran.0 ran.1 ran.2.alike.at_once);
      stop_has_its_cause = record { status_has_cause = inl refl; run_until_fault = λ within. absurd (grind (arith, within)) };
      good_input_is_answered = λ program session is none. (0, omega arith, refl);
      statuses = record {
        input_refused = λ three. absurd (omega (arith, three));
        refused_input_never_runs = λ line. none_refused spells old.remaining new.remaining (seen_of now) line 0 ends.loaded;
        input_loaded = λ has_run. ends.loaded;
        application_keeps_script = λ has_run. ends.lines;
        breaks_only_on_bad_bytes = λ quiet eight. absurd (omega (arith, eight));
        diverges_only_on_bad_bytes = λ nine. absurd (omega (arith, nine));
      };
      takes_its_course =
          let course = ends.course in
          (course.0, course.1, those (λ c. of_session spells (λ program. CourseTo program.apps 0 course.0 (seen_of now) old new) old.remaining new.remaining (seen_of now) c.0 c.1 (inl (refl, c.2))) course.2);
    }

pub replay_err : (spells : Spelling) (old mid : Streams) (contents : Option (List ℕ)) (faults : ℕ) (was now : WorldData) (Stays : Type 0) (stop : Stop) (status : ℕ) → Halts stop status old mid contents faults → Replays {T = Unit {0}} spells (Err stop) old mid was now Stays
    → ReplayPromise spells status old (behind mid contents faults) was now
replay_err spells old mid contents faults was now Stays stop status halts ends = record {
  failed_turn_leaves_nothing_behind = record {
    whole_run = λ zero. absurd (not_zero stop (sym halts.status_is ∙ zero));
    events_left = λ ten.
        left_of_input spells mid.remaining now stop old.contents mid.contents contents old.sink_faults mid.sink_faults faults old.remaining (faults_at old (seen_of was)) (faults_at mid (seen_of now)) (sym halts.status_is ∙ ten) halts.never_fell ends.runs ends.why halts.line;
  };
  report_is_exact = λ program session is zero. absurd (not_zero stop (sym halts.status_is ∙ zero));
  answer_means_that_it_is_done = replay_dialogues spells old.remaining mid.remaining now old.contents mid.contents stop (λ early. none_done_early spells old.remaining mid.remaining (seen_of now) stop early ends.loaded) ends.runs;
  stop_has_its_cause = record {
    status_has_cause = has_cause (Unit {0}) (IsNoSession spells) stop status old mid contents faults (seen_of was) (seen_of now) halts ends.why;
    run_until_fault = λ within.
        cut_or_not_begun spells old.remaining mid.remaining status now stop old.contents mid.contents contents old.sink_faults mid.sink_faults faults halts.status_is
        (fault_or_left stop (subst (λ (s : ℕ). Contains (5 ∷ 6 ∷ 8 ∷ 9 ∷ 12 ∷ []) s) halts.status_is within)) halts.never_fell ends.runs halts.line;
  };
  good_input_is_answered = λ program session is none.
      answers (Unit {0}) (IsNoSession spells) stop status old mid contents faults (seen_of was) (seen_of now) halts ends.why (good_session spells old.remaining is.input program session is.whole is.spelled)
      (λ eight. broke_as spells old.remaining mid.remaining now stop old.contents mid.contents ends.runs none.no_flood eight (messages_of now none.messages))
      (λ nine. diverged_as spells old.remaining mid.remaining now stop old.contents mid.contents ends.runs nine (messages_of now none.messages)) none.none_failed;
  statuses = record {
    input_refused = refused_by (Unit {0}) (IsNoSession spells) stop status old mid contents faults (seen_of was) (seen_of now) halts ends.why;
    refused_input_never_runs = λ line. subst (λ (s : ℕ). IfSome old.remaining (λ input. spells input ≡ Err line → NeverRuns s (seen_of now))) (sym halts.status_is) (refuses spells old.remaining mid.remaining (seen_of now) stop line ends.loaded);
    input_loaded = λ has_run. late_loaded spells old.remaining mid.remaining (seen_of now) stop (is_late stop (subst HasRun halts.status_is has_run)) ends.loaded;
    application_keeps_script = λ has_run. ends.late_lines (is_late stop (subst HasRun halts.status_is has_run));
    breaks_only_on_bad_bytes = λ quiet eight. broke_as spells old.remaining mid.remaining now stop old.contents mid.contents ends.runs quiet (sym halts.status_is ∙ eight);
    diverges_only_on_bad_bytes = λ nine. diverged_as spells old.remaining mid.remaining now stop old.contents mid.contents ends.runs (sym halts.status_is ∙ nine);
  };
  takes_its_course =
      let course = ends.course in (
        course.0,
        course.1,
        those (λ c. of_session spells (λ program. CourseTo program.apps status course.0 (seen_of now) old (behind mid contents faults)) old.remaining mid.remaining (seen_of now) c.0 c.1
            (stops_course c.0.apps stop status old mid contents faults course.0 (seen_of now) halts c.2)) course.2,
      );
}

-- ---- `run`

pub run_ok : {Own : Type 0} (Tells : Type 0) (rounds : ℕ) (old new : Streams) (was now : Seen Own) (World Sink : Type 0) → Serves {T = Unit {0}} Tells rounds (Ok tt) old new was now (World × Sink) → RunPromise Tells rounds 0 old new was now World
run_ok Tells rounds old new was now World Sink ends = record {
  failed_turn_leaves_nothing_behind = λ tells zero. served_of_policy old.remaining new.remaining now old.contents new.contents (ends.runs tells);
  report_is_exact = λ tells zero.
      let served = served_whole old.remaining new.remaining now old.contents new.contents (ends.runs tells) in
      of_policy (λ program. ReportsTold program rounds old new now) old.remaining new.remaining served.0 served.1 (served.2, served.2.alike.as_told.report);
  answer_means_that_it_is_done = λ tells.
      let served = served_whole old.remaining new.remaining now old.contents new.contents (ends.runs tells) in
      inl (of_policy (λ program. AreDialogues program now) old.remaining new.remaining served.0 served.1 served.2.alike.at_once);
  stop_has_its_cause = record { status_has_cause = inl refl; run_until_stop = λ tells within. absurd (grind (arith, within)) };
  good_input_is_answered = λ tells program is none. (0, omega arith, refl);
  statuses = record {
    policy_refused = λ three. absurd (omega (arith, three));
    refused_policy_never_runs = λ line. none_refused_policy old.remaining new.remaining _ line ends.taken;
    policy_taken = λ has_run. ends.taken;
  };
  takes_its_course = λ told.
      those (λ c. of_policy (λ program. CourseTo program.apps 0 was now old new) old.remaining new.remaining c.0 c.1 (inl (refl, c.2))) (ends.course told);
}

pub run_err : {Own : Type 0} (Tells : Type 0) (rounds : ℕ) (old mid : Streams) (contents : Option (List ℕ)) (faults : ℕ) (was now : Seen Own) (World Sink : Type 0) (stop : Stop) (status : ℕ) → Halts stop status old mid contents faults → (World → now ≡ was)
    → Serves {T = Unit {0}} Tells rounds (Err stop) old mid was now (World × Sink) → RunPromise Tells rounds status old (behind mid contents faults) was now World
run_err {Own = Own} Tells rounds old mid contents faults was now World Sink stop status halts same ends = record {
  failed_turn_leaves_nothing_behind = λ tells zero. absurd (not_zero stop (sym halts.status_is ∙ zero));
  report_is_exact = λ tells zero. absurd (not_zero stop (sym halts.status_is ∙ zero));
  answer_means_that_it_is_done = λ tells.
      run_dialogues rounds old.remaining mid.remaining now old.contents mid.contents stop (λ early. ap (λ (seen : Seen Own). seen.history) (same (ends.early early).0) ∙ tells.untouched) (ends.runs tells);
  stop_has_its_cause = record {
    status_has_cause = has_cause Tells IsNoPolicy stop status old mid contents faults was now halts ends.why;
    run_until_stop = λ tells within.
        served_or_not_begun old.remaining mid.remaining status now stop old.contents mid.contents contents old.sink_faults mid.sink_faults faults halts.status_is
        (subst (λ (s : ℕ). Contains (5 ∷ 6 ∷ 8 ∷ 9 ∷ 10 ∷ 12 ∷ []) s) halts.status_is within) halts.never_fell (ends.runs tells) halts.line;
  };
  good_input_is_answered = λ tells program is none.
      answers Tells IsNoPolicy stop status old mid contents faults was now halts ends.why (good_policy old.remaining is.input program is.whole is.spelled)
      (broke_live rounds old.remaining mid.remaining now old.contents mid.contents stop (ends.runs tells) none.no_flood none.messages)
      (diverged_live rounds old.remaining mid.remaining now old.contents mid.contents stop (ends.runs tells) none.messages) none.none_failed;
  statuses = record {
    policy_refused = refused_by Tells IsNoPolicy stop status old mid contents faults was now halts ends.why;
    refused_policy_never_runs = λ line.
        subst (λ (s : ℕ). IfSome old.remaining (λ input. run_policy input ≡ Err line → Contains (2 ∷ 3 ∷ 4 ∷ 12 ∷ []) s × World)) (sym halts.status_is) (refuses_policy old.remaining mid.remaining stop line World Sink ends.taken ends.no_other);
    policy_taken = λ has_run. ends.taken (is_late stop (subst HasRun halts.status_is has_run));
  };
  takes_its_course = λ told.
      those (λ c. of_policy (λ program. CourseTo program.apps status was now old (behind mid contents faults)) old.remaining mid.remaining c.0 c.1 (stops_course c.0.apps stop status old mid contents faults was now halts c.2)) (ends.course told);
}

-- ---- At every status

pub new_always : (spells : Spelling) (told left : Option (List ℕ)) (sim : WorldData) → IsNew sim → AtEveryStatus spells told left (seen_of sim)
new_always spells told left sim new = record {
  no_stray_call = new_strays sim new;
  lost_at_fault_lines = λ program session is. lost_nowhere session.faults (seen_of sim) (untouched sim new);
  none_lost_without_fault = λ program session is faults. nothing_lost (seen_of sim) (untouched sim new);
  no_other_session = inl (untouched sim new);
  every_application_ended = none_runs sim new;
  own_ids_ascend = λ short. no_ids sim new;
}

pub loaded_always : (spells : Spelling) (told left : Option (List ℕ)) (seen : Seen Scripts) → IsLoaded spells told left seen → seen.counts.strays ≤ seen.counts.shorts → LosesByFaults seen × LosesAsTold seen → (state seen).running ≡ [] → (IsShortRun seen → OwnIdsAscend seen) → AtEveryStatus spells told left seen
loaded_always spells told left seen loaded strays lost ended ids = record {
  no_stray_call = strays;
  lost_at_fault_lines = λ program session is. lost_by_lines spells program told left seen is.input session loaded lost.1 is.whole is.spelled;
  none_lost_without_fault = λ program session is faults. none_lost_by spells program told left seen is.input session (inr loaded) lost.0 is.whole is.spelled faults;
  no_other_session = inr loaded;
  every_application_ended = ended;
  own_ids_ascend = ids;
}

pub idle_always : {Own : Type 0} (Tells : Type 0) (seen : Seen Own) → LiveAtEveryStatus Tells seen seen
idle_always Tells seen = record {
  every_application_ended = λ told none. none_runs_yet seen none;
  no_stray_call = λ tells. idle_in_place seen tells.untouched;
  own_ids_ascend = λ tells short. no_ids_yet seen tells.untouched;
}
