-- What the program promises: of `replay` and of `run` the five sentences of the README, a field for each, and what their statuses say; and of each
-- world what is so at every status. All of this is our own choice.
use Rattle.std.specs.Prelude.{◌≡◌, ◌==◌, ◌⊎◌, ◌<◌, ◌≤◌, ℕ, List, [], ◌∷◌, length, Option, Some, IfSome, Ok, Err, Contains, if◌then◌else◌}
use Rattle.std.specs.Io.KnownBytes.{append_known}
use Rattle.outside.specs.Seen.{Seen, journal}
use Rattle.outside.specs.State.{state}
use Rattle.outside.specs.InOrder.{BringMessages}
use Rattle.sim_world.specs.Scripts.{Scripts}
use Rattle.sim_world.specs.World.{WorldData, seen_of}
use Rattle.session_gen.specs.Summary.{summary_line}
use Rattle.lego_io.specs.Sink.{TookPart}
use Rattle.lego_model.specs.Application.{names}
use Rattle.lego_model.specs.AtOnce.{AtOnce}
use Rattle.lego_model.specs.History.{lost_of}
use Rattle.lego_model.specs.OwnIds.{IsShortRun, OwnIdsAscend}
use Rattle.lego_model.specs.ReferenceRun.{reference_of}
use Rattle.lego_model.specs.RunReport.{run_report}
use Rattle.lego_model.specs.SessionLines.{SessionValue}
use Rattle.lego_model.specs.WholeRun.{is_spent}
use Rattle.legosdn.specs.declared.stop.InputRefusal.{InputRefusal}
use Rattle.legosdn.specs.declared.stop.Stop.TheVariants.{WriteFault}
use Rattle.legosdn.specs.Input.{ProgramValue, Spelling, drawn, run_policy}
use Rattle.legosdn.specs.Said.{allowed_by, reference_of_session, WithEnough}
use Rattle.legosdn.specs.Stops.{stop_line, refusal_line}
use Rattle.legosdn.specs.Headline.{IsNoSession, IsNoPolicy, Streams, streams, faults_at, IsCause, NoneFailed, SpellsSession, SpellsPolicy, OfInput, IsLoaded, RunsNoOther, NeverRuns, RunsWhole, NoneFloods, SomeRefused, KeepsLines, Wrote, WroteLast, LeftAs, CutShort, NotBegun, Stopped}
use Rattle.legosdn.specs.LinkFaults.{LostAtFaults}
use Rattle.legosdn.specs.Live.{IsTaken, TellsInOrder, NoneStray, ServesWhole, ServesCut}
use Rattle.legosdn.specs.Course.{CourseTo}
use Rattle.legosdn.specs.Recorded.{Kept, Recording}

-- ---- The input

-- It is this session, with these applications,
pub record IsSession (spells : Spelling) (told : Option (List ℕ)) (program : ProgramValue) (session : SessionValue) : Type 0 where
  pub input : List ℕ
  pub whole : told ≡ Some input
  pub spelled : spells input ≡ Ok (program, session)

-- or a policy that `run` takes, with these.
pub record IsPolicy (told : Option (List ℕ)) (program : ProgramValue) : Type 0 where
  pub input : List ℕ
  pub whole : told ≡ Some input
  pub spelled : run_policy input ≡ Ok program

-- ---- Statuses

-- the world ran
abbrev pub HasRun : ℕ → Type 0
HasRun status = Contains (0 ∷ 5 ∷ 6 ∷ 8 ∷ 9 ∷ 10 ∷ []) status

-- the whole report was written, or events are left, or memory was wanting
abbrev pub IsAnswered : ℕ → Type 0
IsAnswered status = Contains (0 ∷ 10 ∷ 12 ∷ []) status

-- Another status than 0 is that of a stop, whose cause there is, and whose line is the last that was written. Of a switch that broke or diverged
-- the history of the world tells what came from it, and what was sent to it before.
abbrev pub HasCause : {Own : Type 0} → Type 0 → (InputRefusal → List ℕ → Type 0) → ℕ → Streams → Streams → Seen Own → Seen Own → Type 0
HasCause Tells IsRefused status old new was now =
    (status ≡ 0) ⊎ Stopped (IsCause Tells IsRefused old.remaining (faults_at old was) (faults_at new now)) status
    (λ stop. WroteLast new.contents old.sink_faults new.sink_faults (stop_line stop))

-- the input is refused, by the line that says why
abbrev pub RefusedBy : (InputRefusal → List ℕ → Type 0) → Streams → Streams → Type 0
RefusedBy IsRefused old new =
    (refusal : InputRefusal) × IfSome old.remaining (IsRefused refusal) × Wrote old.contents new.contents old.sink_faults new.sink_faults (refusal_line refusal)

-- ---- What stands in the way of a whole report

-- Nothing does: all bytes that came of switches are messages, no packet that was released made its switch send as many messages as are too many,
-- and nothing failed that ends a run. Links may fail.
pub record NothingInTheWay {Own : Type 0} (old new : Streams) (was now : Seen Own) : Type 0 where
  pub messages : BringMessages now.history
  pub no_flood : NoneFloods now
  pub none_failed : NoneFailed (faults_at old was) (faults_at new now)

-- ---- Answers

-- The journal is a dialogue with each of these applications: each answer is to its next message, and a change that passed the host's tests had then
-- reached its switch. Since the frame given before, the change was sent there, a barrier behind it, the barrier's reply came, and no other change was
-- sent.
abbrev pub AreDialogues : {Own : Type 0} → ProgramValue → Seen Own → Type 0
AreDialogues program seen = (i : ℕ) → i < length program.apps → AtOnce i (journal seen.history)

-- so it is with those of the input, or nothing was done
abbrev pub AnswersMeanDone : {Own : Type 0} → (List ℕ → ProgramValue → Type 0) → Option (List ℕ) → Seen Own → Type 0
AnswersMeanDone Spells told seen = OfInput Spells told (λ program. AreDialogues program seen) ⊎ (journal seen.history ≡ [])

-- ---- The course

-- The run of the applications of the input takes its course, or nothing was called. It goes from part to part, as far as it goes, and what was
-- written is the lines of these parts. In a batch the messages that were kept while something else was awaited come first, oldest first; none of them
-- is lost but with its switch, where that leaves or is lost; an undo keeps a message only where there is room. A switch that joins is emptied
-- and configured, and an ECHO_REQUEST is answered. The oldest event is given first, with its number, in the order of the policy, to each application
-- that lives and listens to it, until one says stop. Where a turn is done, what it did stays; where it failed, the inverse was sent of each change
-- that it made on a switch that was not lost, and the application goes by its policy, with its kept checkpoint.
abbrev pub TakesItsCourse : {Own : Type 0} → (List ℕ → ProgramValue → Type 0) → ℕ → Seen Own → Seen Own → Streams → Streams → Type 0
TakesItsCourse Spells status was now old new = OfInput Spells old.remaining (λ program. CourseTo program.apps status was now old new) ⊎ (now.history ≡ was.history)

-- ---- `replay`

-- The run is that of the reference controller, which never sees a turn that failed. At status 0 all stimuli of the session happened, and it is so
-- over them, under the policy that the input spells, and over what its applications did: at every quiescent point the tables agree, each application
-- was given what it is given there, the packets that were released are those that it releases, the switches that were lost are those that it loses,
-- no event is left, and what was written is the whole report.
pub record ReplayLeavesNothing (spells : Spelling) (status : ℕ) (old new : Streams) (now : WorldData) : Type 0 where
  pub whole_run : status ≡ 0 → OfInput (SpellsSession spells) old.remaining (λ program. RunsWhole program (seen_of now) old.contents new.contents)
  -- at 10 the same with the lines of the events that were dispatched, and how many are left behind them
  pub events_left : status ≡ 10 → OfInput (SpellsSession spells) old.remaining (λ program. LeftAs program now old.contents new.contents old.sink_faults new.sink_faults)

-- That report is the one of the reference controller over the session that the input spells: over its switches and stimuli and what its lines say of
-- the applications, where it loses the same switches in the same places, with as many ready starts and plain turns behind the last line as one
-- likes, if they are enough.
abbrev pub ReportsSession : ProgramValue → SessionValue → Streams → Streams → WorldData → Type 0
ReportsSession program session old new now =
    (run : RunsWhole program (seen_of now) old.contents new.contents)
    × WithEnough (λ more. new.contents ≡ append_known old.contents (run_report (names program.apps) (reference_of_session program more run.alike.losses session)))

-- A stop has its cause. Where a fault ends the run, it is that of the reference controller up to the last quiescent point: what was written is what
-- this says so far, or a part of the lines of what was done last where the sink failed, and behind it stands the line that says why; and the whole
-- journal is a dialogue as above. Or nothing was done.
pub record ReplayStops (spells : Spelling) (status : ℕ) (old new : Streams) (was now : WorldData) : Type 0 where
  pub status_has_cause : HasCause (Unit {0}) (IsNoSession spells) status old new (seen_of was) (seen_of now)
  pub run_until_fault : Contains (5 ∷ 6 ∷ 8 ∷ 9 ∷ 12 ∷ []) status
      → OfInput (SpellsSession spells) old.remaining (λ program. CutShort program status now old.contents new.contents old.sink_faults new.sink_faults)
      ⊎ NotBegun status (seen_of now) old.contents new.contents old.sink_faults new.sink_faults

-- What else statuses say. At 3 the input is refused; a refused input never runs. Where the world runs, the input was read to its end and is a
-- session, which the world was given, and what the applications did is what the lines of the session say. A switch diverges only where bytes came
-- that are no message, and breaks only there or where a packet that was released made it send as many messages as are too many.
pub record ReplayStatuses (spells : Spelling) (status : ℕ) (old new : Streams) (now : WorldData) : Type 0 where
  pub input_refused : status ≡ 3 → RefusedBy (IsNoSession spells) old new
  pub refused_input_never_runs : (line : List ℕ) → IfSome old.remaining (λ input. spells input ≡ Err line → NeverRuns status (seen_of now))
  pub input_loaded : HasRun status → IsLoaded spells old.remaining new.remaining (seen_of now)
  pub application_keeps_script : HasRun status → KeepsLines now
  pub breaks_only_on_bad_bytes : NoneFloods (seen_of now) → status ≡ 8 → SomeRefused now
  pub diverges_only_on_bad_bytes : status ≡ 9 → SomeRefused now

-- The promise of `replay`.
pub record ReplayPromise (spells : Spelling) (status : ℕ) (old new : Streams) (was now : WorldData) : Type 0 where
  pub failed_turn_leaves_nothing_behind : ReplayLeavesNothing spells status old new now
  pub report_is_exact : (program : ProgramValue) (session : SessionValue) → IsSession spells old.remaining program session → status ≡ 0 → ReportsSession program session old new now
  pub answer_means_that_it_is_done : AnswersMeanDone (SpellsSession spells) old.remaining (seen_of now)
  pub stop_has_its_cause : ReplayStops spells status old new was now
  pub good_input_is_answered : (program : ProgramValue) (session : SessionValue) → IsSession spells old.remaining program session → NothingInTheWay old new (seen_of was) (seen_of now) → IsAnswered status
  pub statuses : ReplayStatuses spells status old new now
  -- from the world on to which the session was given, and on which no call was made
  pub takes_its_course : (begun : Seen Scripts) × (begun.history ≡ []) × TakesItsCourse (SpellsSession spells) status begun (seen_of now) old new

-- ---- `gen`

-- with which status the replay of the session ends, of which the summary is written
abbrev pub status_replayed : ℕ → ℕ
status_replayed status = if status == 5 then 0 else status

-- The promise of `gen START COUNT`: it is a `replay` of the session that is drawn, with the program of an empty policy. What that promises is so, of a
-- report that is not written. In place of it the line is written that sums it up, where the replay came to its end; where the sink failed, a part of
-- that line. At any other status the line of the stop is all that was written.
pub record GenPromise (start count status : ℕ) (old new : Streams) (was now : WorldData) : Type 0 where
  pub report : List ℕ
  pub replayed : ℕ
  pub wanting : ℕ
  pub is_replay : ReplayPromise (drawn start count) replayed (streams (Some []) (Some []) 0 0) (streams (Some []) (Some report) 0 wanting) was now
  pub ends_alike : (status ≡ 12) ⊎ (replayed ≡ status_replayed status)
  pub summary_is_exact : status ≡ 0 → new.contents ≡ append_known old.contents (summary_line start count report)
  pub summary_is_cut : status ≡ 5 → TookPart old.contents new.contents (summary_line start count report)
  pub stop_has_its_cause : (status ≡ 0) ⊎ Stopped (IsCause (Unit {0}) (IsNoSession (drawn start count)) (Some []) (faults_at old (seen_of was)) (faults_at new (seen_of now))) status
      (λ stop. (stop ≡ WriteFault) ⊎ Wrote old.contents new.contents old.sink_faults new.sink_faults (stop_line stop))
  pub good_session_is_answered : (program : ProgramValue) (session : SessionValue) → IsSession (drawn start count) (Some []) program session → NothingInTheWay old new (seen_of was) (seen_of now) → IsAnswered status

-- ---- `run`, over a world that may tell

-- At status 0 the first stimuli happened that the world was given, as many as there are rounds, or all; and the report is the one of the reference
-- controller over what the world told.
abbrev pub ReportsTold : {Own : Type 0} → ProgramValue → (rounds : ℕ) → Streams → Streams → Seen Own → Type 0
ReportsTold program rounds old new now =
    (run : ServesWhole program rounds now old.contents new.contents)
    × (new.contents ≡ append_known old.contents (run_report (names program.apps) (reference_of program.apps (allowed_by program.judge) (is_spent rounds now) run.alike.losses now)))

-- A stop has its cause, over any world. Where events are left, or a fault ends the run, the run is that of the reference controller as far as it
-- goes, and behind what was written stands the line that says why. A switch diverges only where bytes came that are no message, and breaks only
-- there or where a packet that was released made it send too many. Or nothing was done.
pub record RunStops {Own : Type 0} (Tells : Type 0) (rounds status : ℕ) (old new : Streams) (was now : Seen Own) : Type 0 where
  pub status_has_cause : HasCause Tells IsNoPolicy status old new was now
  pub run_until_stop : TellsInOrder Tells was now → Contains (5 ∷ 6 ∷ 8 ∷ 9 ∷ 10 ∷ 12 ∷ []) status
      → OfInput SpellsPolicy old.remaining (λ program. ServesCut program rounds status now old.contents new.contents old.sink_faults new.sink_faults)
      ⊎ NotBegun status now old.contents new.contents old.sink_faults new.sink_faults

-- What else statuses say. At 3 the input is refused; a refused one never runs. Where the world runs, the input was read to its end and is a policy
-- that `run` takes.
pub record RunStatuses (status : ℕ) (old new : Streams) (Stays : Type 0) : Type 0 where
  pub policy_refused : status ≡ 3 → RefusedBy IsNoPolicy old new
  pub refused_policy_never_runs : (line : List ℕ) → IfSome old.remaining (λ input. run_policy input ≡ Err line → Contains (2 ∷ 3 ∷ 4 ∷ 12 ∷ []) status × Stays)
  pub policy_taken : HasRun status → IsTaken old.remaining new.remaining

-- The promise of `run`, of which the sentences on the reference controller are over a world that tells in order, on which no call was made before.
--
-- Over any world that tells, whatever its switches send, and at every status, the run takes its course.
pub record RunPromise {Own : Type 0} (Tells : Type 0) (rounds status : ℕ) (old new : Streams) (was now : Seen Own) (Stays : Type 0) : Type 0 where
  pub failed_turn_leaves_nothing_behind : TellsInOrder Tells was now → status ≡ 0 → OfInput SpellsPolicy old.remaining (λ program. ServesWhole program rounds now old.contents new.contents)
  pub report_is_exact : TellsInOrder Tells was now → status ≡ 0 → OfInput SpellsPolicy old.remaining (λ program. ReportsTold program rounds old new now)
  pub answer_means_that_it_is_done : TellsInOrder Tells was now → AnswersMeanDone SpellsPolicy old.remaining now
  pub stop_has_its_cause : RunStops Tells rounds status old new was now
  pub good_input_is_answered : TellsInOrder Tells was now → (program : ProgramValue) → IsPolicy old.remaining program → NothingInTheWay old new was now → IsAnswered status
  pub statuses : RunStatuses status old new Stays
  pub takes_its_course : Tells → TakesItsCourse SpellsPolicy status was now old new

-- ---- `record PORT ROUNDS`

-- The promise of `record`: it is a `run`, of a report that is not written. In place of it the recording is written, where the run came to its end: the
-- policy as it was read, and the session of what was kept, which has of a world that tells its own switches and what happened to it; where the sink
-- failed, a part of that. At any other status the line of the stop is all that was written.
pub record RecordPromise {Own : Type 0} (Tells : Type 0) (rounds status : ℕ) (old new : Streams) (was now : Seen Own) (kept : Kept) (Stays : Type 0) : Type 0 where
  pub report : List ℕ
  pub served : ℕ
  pub wanting : ℕ
  pub is_run : RunPromise Tells rounds served (streams old.remaining (Some []) old.source_faults 0) (streams new.remaining (Some report) new.source_faults wanting) was now Stays
  pub ends_alike : (status ≡ 12) ⊎ (served ≡ status_replayed status)
  pub recording_is_whole : status ≡ 0 → (bytes : List ℕ) × Recording Tells old.remaining new.remaining now kept bytes × (new.contents ≡ append_known old.contents bytes)
  pub recording_is_cut : status ≡ 5 → (bytes : List ℕ) × Recording Tells old.remaining new.remaining now kept bytes × TookPart old.contents new.contents bytes
  pub stop_has_its_cause : (status ≡ 0) ⊎ Stopped (IsCause Tells IsNoPolicy old.remaining (faults_at old was) (faults_at new now)) status
      (λ stop. (stop ≡ WriteFault) ⊎ Wrote old.contents new.contents old.sink_faults new.sink_faults (stop_line stop))
  pub good_input_is_answered : TellsInOrder Tells was now → (program : ProgramValue) → IsPolicy old.remaining program → NothingInTheWay old new was now → IsAnswered status

-- Over a world whose switches can be parted with, whatever these do: no switch ends the run, since one that is at fault is parted with, and lost.
abbrev pub NoSwitchEnds : ℕ → Type 0
NoSwitchEnds status = Contains (8 ∷ 9 ∷ []) status → ⊥

-- ---- At every status, whatever the command

-- Of the simulated world: no more calls were stray ones than wanted memory, and none where none did. What was done was done with the session that
-- the input spells, if anything was, and a switch is lost only at a call of its link of which a `fault` line says that it fails; where there is no
-- such line, no switch is lost. Each application that was started is ended. The transaction ids of the controller's own messages ascend from 1 on, so that none is used twice, in a run of less than a thousand million
-- steps and declared switches.
pub record AtEveryStatus (spells : Spelling) (told left : Option (List ℕ)) (seen : Seen Scripts) : Type 0 where
  pub no_stray_call : seen.counts.strays ≤ seen.counts.shorts
  pub lost_at_fault_lines : (program : ProgramValue) (session : SessionValue) → IsSession spells told program session → LostAtFaults session.faults seen.history
  pub none_lost_without_fault : (program : ProgramValue) (session : SessionValue) → IsSession spells told program session → session.faults ≡ [] → lost_of seen ≡ []
  pub no_other_session : RunsNoOther spells told left seen
  pub every_application_ended : (state seen).running ≡ []
  pub own_ids_ascend : IsShortRun seen → OwnIdsAscend seen

-- Of another world, on which no call was made before: where it tells, each application that was started is ended; where it tells in order, no call was
-- a stray one, and these ids ascend.
pub record LiveAtEveryStatus {Own : Type 0} (Tells : Type 0) (was now : Seen Own) : Type 0 where
  pub every_application_ended : Tells → was.history ≡ [] → (state now).running ≡ []
  pub no_stray_call : TellsInOrder Tells was now → NoneStray now
  pub own_ids_ascend : TellsInOrder Tells was now → IsShortRun now → OwnIdsAscend now
