-- How a command ends, why, and what it wrote last: the words of both promises. All of this is our own choice.
use Rattle.std.specs.Prelude.{◌≡◌, ◌⊎◌, ◌<◌, ◌≤◌, ℕ, false, List, [], ◌∷◌, length, Option, Some, IfSome, Result, Ok, Err, IfErr, OnOk, Contains}
use Rattle.lego_io.specs.Count.{Rose, NeverFell}
use Rattle.lego_io.specs.Source.{ended}
use Rattle.outside.specs.declared.step.WorldStep.TheVariants.{NotOpened}
use Rattle.outside.specs.Seen.{Seen, journal}
use Rattle.outside.specs.InOrder.{BringMessages}
use Rattle.run_course.specs.Points.{IsLastPoint}
use Rattle.lego_model.specs.AtOnce.{AtOnce}
use Rattle.sim_world.specs.Told.{without_links}
use Rattle.sim_world.specs.Scripts.{Scripts, KeepsScripts}
use Rattle.sim_world.specs.World.{WorldData, seen_of}
use Rattle.run_course.specs.TurnsLeft.{TurnsBehind}
use Rattle.lego_model.specs.History.{stimuli_in, lost_of}
use Rattle.lego_model.specs.WholeRun.{EndsAs, EndsAlike, LeavesAs, LeavesAlike}
use Rattle.lego_model.specs.declared.fault.TxnFault.{TxnFault}
use Rattle.lego_model.specs.SwitchFaults.{FloodedByPacket, IsWhyTxn}
use Rattle.lego_model.specs.CutRun.{NothingDone}
use Rattle.lego_model.specs.SessionLines.{SessionValue}
use Rattle.session_text.specs.Loading.{given_by}
use Rattle.crash_policy.specs.Order.{policy_of}
use Rattle.command_words.specs.Commands.{command_in}
use Rattle.command_words.specs.declared.command.Command.TheVariants.{Replay, Run, Record, Gen}
use Rattle.legosdn.specs.declared.stop.InputRefusal.{InputRefusal}
use Rattle.legosdn.specs.Input.{ProgramValue, Spelling, program_in, run_policy}
use Rattle.legosdn.specs.Said.{allowed_by, reference_over, WithEnough, LinesRun, MemoryRun, WritingRun}
use Rattle.legosdn.specs.declared.stop.Stop.{Stop}
use Rattle.legosdn.specs.declared.stop.Stop.TheVariants.{Usage, Refused, ReadFault, WriteFault, Shut, NextFault, SwitchBroke, Diverged, EventsLeft, NoMemory}
use Rattle.legosdn.specs.Stops.{stop_status, stop_line, refusal_line, stop_of_switch}
pub use Rattle.legosdn.specs.Written.{Streams, streams, Wrote}
use Rattle.legosdn.specs.Course.{CourseOf}

-- the words are `replay`
abbrev pub IsReplay : List (List ℕ) → Type 0
IsReplay words = command_in words ≡ Some Replay

-- or `run`, with a port and a number of rounds
abbrev pub IsRun : List (List ℕ) → ℕ → ℕ → Type 0
IsRun words port rounds = command_in words ≡ Some (Run port rounds)

-- or `record`, with the same
abbrev pub IsRecord : List (List ℕ) → ℕ → ℕ → Type 0
IsRecord words port rounds = command_in words ≡ Some (Record port rounds)

-- or `gen`, with a start and a count
abbrev pub IsGen : List (List ℕ) → ℕ → ℕ → Type 0
IsGen words start count = command_in words ≡ Some (Gen start count)

-- why an input is refused: it spells no session to `replay`,
abbrev pub IsNoSession : Spelling → InputRefusal → List ℕ → Type 0
IsNoSession spells refusal input = spells input ≡ Err (refusal_line refusal)

-- and to `run` no policy that it takes
abbrev pub IsNoPolicy : InputRefusal → List ℕ → Type 0
IsNoPolicy refusal input = run_policy input ≡ Err (refusal_line refusal)

-- How often the source and the sink failed, and what is seen of the world, which counts how often it failed.
pub record Faults (Own : Type 0) : Type 0 where
  pub source : ℕ
  pub sink : ℕ
  pub world : Seen Own

abbrev pub faults_of : {Own : Type 0} → ℕ → ℕ → Seen Own → Faults Own
faults_of source sink world = record { source = source; sink = sink; world = world }

abbrev pub faults_at : {Own : Type 0} → Streams → Seen Own → Faults Own
faults_at at seen = faults_of at.source_faults at.sink_faults seen

-- a switch failed, which stops the run so; the history of the world has the cause, where it tells
abbrev pub IsSwitchCause : {Own : Type 0} → Type 0 → Seen Own → Seen Own → Stop → Type 0
IsSwitchCause Tells old new stop = (fault : TxnFault) × (stop ≡ stop_of_switch fault) × IsWhyTxn Tells old new fault

-- why an input is not read, or refused
abbrev pub IsReadCause : (InputRefusal → List ℕ → Type 0) → Option (List ℕ) → ℕ → ℕ → Stop → Type 0
IsReadCause IsRefused told old new (Refused refusal) = IfSome told (IsRefused refusal)
IsReadCause IsRefused told old new ReadFault = Rose old new
IsReadCause IsRefused told old new NoMemory = Unit {0}
IsReadCause IsRefused told old new other = ⊥

-- why a policy text gives no applications: it is refused, by that line, or memory was wanting
abbrev pub IsPolicyCause : List ℕ → Stop → Type 0
IsPolicyCause text (Refused refusal) = program_in (policy_of text) ≡ Err (refusal_line refusal)
IsPolicyCause text NoMemory = Unit {0}
IsPolicyCause text other = ⊥

-- why a run ends without its whole report
abbrev pub IsRunCause : {Own : Type 0} → Type 0 → ℕ → ℕ → Seen Own → Seen Own → Stop → Type 0
IsRunCause Tells sink_old sink_new old new WriteFault = Rose sink_old sink_new
IsRunCause Tells sink_old sink_new old new Shut = Rose old.counts.shuts new.counts.shuts
IsRunCause Tells sink_old sink_new old new NextFault = Rose old.counts.next_faults new.counts.next_faults
IsRunCause Tells sink_old sink_new old new (SwitchBroke d) = IsSwitchCause Tells old new (SwitchBroke d)
IsRunCause Tells sink_old sink_new old new (Diverged d) = IsSwitchCause Tells old new (Diverged d)
IsRunCause Tells sink_old sink_new old new (EventsLeft left) = 1 ≤ left
IsRunCause Tells sink_old sink_new old new NoMemory = Unit {0}
IsRunCause Tells sink_old sink_new old new other = ⊥

-- Why a command stops: all that the source told is refused; what failed is counted; or events are left. Want of memory may come at any time.
abbrev pub IsCause : {Own : Type 0} → Type 0 → (InputRefusal → List ℕ → Type 0) → Option (List ℕ) → Faults Own → Faults Own → Stop → Type 0
IsCause Tells IsRefused told old new (Refused refusal) = IfSome told (IsRefused refusal)
IsCause Tells IsRefused told old new ReadFault = Rose old.source new.source
IsCause Tells IsRefused told old new stop = IsRunCause Tells old.sink new.sink old.world new.world stop

-- Nothing failed that ends a run: no count rose of the source, of the sink, of the opening of the world and of what comes next. Links may fail.
pub record NoneFailed {Own : Type 0} (old new : Faults Own) : Type 0 where
  pub source : Rose old.source new.source → ⊥
  pub sink : Rose old.sink new.sink → ⊥
  pub shuts : Rose old.world.counts.shuts new.world.counts.shuts → ⊥
  pub next_faults : Rose old.world.counts.next_faults new.world.counts.next_faults → ⊥

-- the stops that come before anything runs
abbrev pub IsEarly : Stop → Type 0
IsEarly Usage = Unit {0}
IsEarly (Refused refusal) = Unit {0}
IsEarly ReadFault = Unit {0}
IsEarly other = ⊥

-- the stops that come once the world runs
abbrev pub IsLate : Stop → Type 0
IsLate WriteFault = Unit {0}
IsLate Shut = Unit {0}
IsLate NextFault = Unit {0}
IsLate (SwitchBroke d) = Unit {0}
IsLate (Diverged d) = Unit {0}
IsLate (EventsLeft left) = Unit {0}
IsLate other = ⊥

-- what an input spells to a command: its applications, with a session of it to `replay`
abbrev pub SpellsSession : Spelling → List ℕ → ProgramValue → Type 0
SpellsSession spells input program = (session : SessionValue) × (spells input ≡ Ok (program, session))

abbrev pub SpellsPolicy : List ℕ → ProgramValue → Type 0
SpellsPolicy input program = run_policy input ≡ Ok program

-- It is so of the applications that the input spells, of which this was told.
pub record OfInput (Spells : List ℕ → ProgramValue → Type 0) (told : Option (List ℕ)) (P : ProgramValue → Type 0) : Type 0 where
  pub program : ProgramValue
  pub spelled : IfSome told (λ input. Spells input program)
  pub holds : P program

-- The source was read to its end, what it told spells applications and a session, and the world was given that session.
pub record Loaded (spells : Spelling) (program : ProgramValue) (told left : Option (List ℕ)) (seen : Seen Scripts) : Type 0 where
  pub input : List ℕ
  pub session : SessionValue
  pub whole : IfSome told (λ bytes. input ≡ bytes)
  pub end : left ≡ ended told
  pub spelled : spells input ≡ Ok (program, session)
  pub given : seen.given ≡ given_by session

-- so it is for some applications
abbrev pub IsLoaded : Spelling → Option (List ℕ) → Option (List ℕ) → Seen Scripts → Type 0
IsLoaded spells told left seen = (program : ProgramValue) × Loaded spells program told left seen

-- Nothing was done in the world, or the world was given that session.
abbrev pub RunsNoOther : Spelling → Option (List ℕ) → Option (List ℕ) → Seen Scripts → Type 0
RunsNoOther spells told left seen = (seen.history ≡ []) ⊎ IsLoaded spells told left seen

-- So it is at each stop: nothing was done at those that come before anything runs; once the world runs, it was given that session; and memory
-- may have been wanting before or then.
abbrev pub LoadedAt : Spelling → Stop → Option (List ℕ) → Option (List ℕ) → Seen Scripts → Type 0
LoadedAt spells Usage told left seen = seen.history ≡ []
LoadedAt spells (Refused refusal) told left seen = seen.history ≡ []
LoadedAt spells ReadFault told left seen = seen.history ≡ []
LoadedAt spells NoMemory told left seen = RunsNoOther spells told left seen
LoadedAt spells other told left seen = IsLoaded spells told left seen

abbrev pub LoadedAs : {T : Type 0} → Spelling → Result T Stop → Option (List ℕ) → Option (List ℕ) → Seen Scripts → Type 0
LoadedAs spells (Ok x) told left seen = IsLoaded spells told left seen
LoadedAs spells (Err stop) told left seen = LoadedAt spells stop told left seen

-- A switch is lost only where a call of a link is to fail.
abbrev pub LosesByFaults : {Own : Type 0} → Seen Own → Type 0
LosesByFaults seen = seen.given.fails ≡ [] → lost_of seen ≡ []

-- a refused input: no such status comes once the world runs, and nothing was done in the world
abbrev pub NeverRuns : ℕ → Seen Scripts → Type 0
NeverRuns status seen = Contains (2 ∷ 3 ∷ 4 ∷ 12 ∷ []) status × (seen.history ≡ [])

-- ---- What a run is

-- All stimuli that the world was given were told, and the run is that of the reference controller over them: at every quiescent point the
-- tables agree, each application was given what it is given there, the packets that were released are those that it releases, the switches that
-- were lost are those that it loses, no event is left, and what was written is the whole report. The journal is a dialogue with each application, in which each change had reached its switch
-- at once when it was answered.
pub record RunsWhole (program : ProgramValue) (seen : Seen Scripts) (contents now_contents : Option (List ℕ)) : Type 0 where
  pub events : ℕ
  pub alike : EndsAlike program.apps (allowed_by program.judge) false seen contents now_contents events
  pub stimuli : stimuli_in seen ≡ seen.given.stimuli
  -- it is that over what the lines of the session say of the applications too
  pub as_said : without_links seen.given.fails ≡ [] → WithEnough (λ more. EndsAs program.apps seen contents now_contents events (reference_over program more alike.losses seen.given))

-- The same with this many events left, and with the lines of those that were dispatched.
pub record RunsPart (program : ProgramValue) (seen : Seen Scripts) (contents now_contents : Option (List ℕ)) (left : ℕ) : Type 0 where
  pub alike : LeavesAlike program.apps (allowed_by program.judge) false seen contents now_contents left
  pub stimuli : stimuli_in seen ≡ seen.given.stimuli
  pub as_said : without_links seen.given.fails ≡ [] → WithEnough (λ more. LeavesAs program.apps seen contents now_contents left (reference_over program more alike.losses seen.given))

-- Of the run as far as a point this is so: no point behind it is quiescent, so that what lies behind it is of one stimulus, of one event, or of
-- the end of the report; and all bytes that came of switches up to there are messages. The whole journal is a dialogue with each application,
-- in which each change had reached its switch at once when it was answered. Where an event was given behind that point, its turn was undone:
-- each switch has its entries again, or failed in the undo; or the turn was whole and its packets were being released, and each switch moved by
-- those that were sent to it alone. Only where memory was wanting may a turn have been whole of which no packet was being released. So it is with
-- the turns in place of an event, all together, behind the turn at it, which was undone.
pub record UpToPoint {Own : Type 0} (program : ProgramValue) (seen : Seen Own) (Short : Type 0) (Holds : Seen Own → Type 0) : Type 0 where
  pub last : Seen Own
  pub given : last.given ≡ seen.given
  pub last_point : IsLastPoint last seen
  pub messages : BringMessages last.history
  pub holds : Holds last
  pub tables : TurnsBehind program.apps Short last seen
  pub at_once : (i : ℕ) → i < length program.apps → AtOnce i (journal seen.history)

-- no packet that was released made its switch send as many messages as are too many
abbrev pub NoneFloods : {Own : Type 0} → Seen Own → Type 0
NoneFloods seen = (d : ℕ) → FloodedByPacket d (record seen { history = [] }) seen → ⊥

-- some bytes that came of a switch are no message
abbrev pub SomeRefused : WorldData → Type 0
SomeRefused sim = BringMessages sim.history → ⊥

-- How a run goes that ends so. Where events are left it is as above. Where a fault ends it, it is that of the reference controller up to the
-- last quiescent point, with the lines of all that was done up to there. None is missing, of the start and of all events before, where what
-- comes next failed, or a switch; where the sink failed it took a part of the lines of the last; where memory was wanting those of the start
-- are there, if a stimulus happened. Or nothing was done. Only where bytes come that are no message, a switch diverges, or breaks, unless a
-- packet that was released made it send as many messages as are too many.
abbrev pub StopsAs : ProgramValue → Stop → WorldData → Option (List ℕ) → Option (List ℕ) → Type 0
StopsAs program (EventsLeft left) sim contents now_contents = RunsPart program (seen_of sim) contents now_contents left
StopsAs program WriteFault sim contents now_contents = UpToPoint program (seen_of sim) ⊥ (λ last. WritingRun program last contents now_contents)
StopsAs program Shut sim contents now_contents = NothingDone (NotOpened ∷ []) (seen_of sim) contents now_contents
StopsAs program NextFault sim contents now_contents = UpToPoint program (seen_of sim) ⊥ (λ last. LinesRun program last contents now_contents)
StopsAs program (SwitchBroke d) sim contents now_contents = (NoneFloods (seen_of sim) → SomeRefused sim) × UpToPoint program (seen_of sim) ⊥ (λ last. LinesRun program last contents now_contents)
StopsAs program (Diverged d) sim contents now_contents = SomeRefused sim × UpToPoint program (seen_of sim) ⊥ (λ last. LinesRun program last contents now_contents)
StopsAs program NoMemory sim contents now_contents = UpToPoint program (seen_of sim) (Unit {0}) (λ last. MemoryRun program (seen_of sim) last contents now_contents) ⊎ NothingDone [] (seen_of sim) contents now_contents
StopsAs program other sim contents now_contents = Unit {0}

abbrev pub RunsAs : {T : Type 0} → ProgramValue → Result T Stop → WorldData → Option (List ℕ) → Option (List ℕ) → Type 0
RunsAs program (Ok x) sim contents now_contents = RunsWhole program (seen_of sim) contents now_contents
RunsAs program (Err stop) sim contents now_contents = StopsAs program stop sim contents now_contents

-- each start of an application, and all that it gave and was given, went as the lines of the session say
abbrev pub KeepsLines : WorldData → Type 0
KeepsLines sim = KeepsScripts sim.scripts (without_links sim.fails) sim.history

-- ---- What is written

-- the same behind what was written before
pub record WroteLast (new : Option (List ℕ)) (faults_old faults_new : ℕ) (bytes : List ℕ) : Type 0 where
  pub before : Option (List ℕ)
  pub faults : ℕ
  pub never_fell : NeverFell faults_old faults
  pub written : Wrote before new faults faults_new bytes

-- Events are left: their number is in the last line, behind the lines of the events that were dispatched.
pub record LeftAs (program : ProgramValue) (sim : WorldData) (contents now_contents : Option (List ℕ)) (faults_old faults_new : ℕ) : Type 0 where
  pub left : ℕ
  pub some : 1 ≤ left
  pub before : Option (List ℕ)
  pub faults : ℕ
  pub never_fell : NeverFell faults_old faults
  pub run : RunsPart program (seen_of sim) contents before left
  pub written : Wrote before now_contents faults faults_new (stop_line (EventsLeft left))

-- How the run went up to a stop of this status, whose line stands behind what was written up to there.
pub record CutShort (program : ProgramValue) (status : ℕ) (sim : WorldData) (contents now_contents : Option (List ℕ)) (faults_old faults_new : ℕ) : Type 0 where
  pub stop : Stop
  pub status_is : status ≡ stop_status stop
  pub before : Option (List ℕ)
  pub faults : ℕ
  pub never_fell : NeverFell faults_old faults
  pub run : StopsAs program stop sim contents before
  pub written : Wrote before now_contents faults faults_new (stop_line stop)

-- Or it did not begin: memory was wanting before, and nothing was done in the world.
pub record NotBegun {Own : Type 0} (status : ℕ) (seen : Seen Own) (contents now_contents : Option (List ℕ)) (faults_old faults_new : ℕ) : Type 0 where
  pub status_is : status ≡ stop_status NoMemory
  pub nothing : seen.history ≡ []
  pub written : Wrote contents now_contents faults_old faults_new (stop_line NoMemory)

-- a stop of this status, with its cause
pub record Stopped (Why : Stop → Type 0) (status : ℕ) (P : Stop → Type 0) : Type 0 where
  pub stop : Stop
  pub status_is : status ≡ stop_status stop
  pub cause : Why stop
  pub holds : P stop

-- ---- Before `replay` has its status: how it ends, which reads an input to its end and then runs

-- it stops before anything runs, or memory was wanting: nothing was done
abbrev pub StopsBefore : {Own T : Type 0} → Result T Stop → Seen Own → Option (List ℕ) → Option (List ℕ) → Type 0
StopsBefore (Ok x) seen contents now_contents = ⊥
StopsBefore (Err stop) seen contents now_contents = (IsEarly stop ⊎ (stop ≡ NoMemory)) × (seen.history ≡ []) × (now_contents ≡ contents)

-- how the run went of the applications that were loaded, if any were: they were, but where the stop comes before, or memory was wanting
abbrev pub RunsLoaded : {T : Type 0} → Spelling → Result T Stop → Option (List ℕ) → Option (List ℕ) → WorldData → Option (List ℕ) → Option (List ℕ) → Type 0
RunsLoaded spells result told left sim contents now_contents = ((program : ProgramValue) × Loaded spells program told left (seen_of sim) × RunsAs program result sim contents now_contents) ⊎ StopsBefore result (seen_of sim) contents now_contents

pub record Replays {T : Type 0} (spells : Spelling) (result : Result T Stop) (old new : Streams) (was now : WorldData) (Stays : Type 0) : Type 0 where
  pub loaded : LoadedAs spells result old.remaining new.remaining (seen_of now)
  pub runs : RunsLoaded spells result old.remaining new.remaining now old.contents new.contents
  pub course : (begun : Seen Scripts) × (begun.history ≡ []) × CourseOf (λ program. Loaded spells program old.remaining new.remaining (seen_of now)) result begun (seen_of now) old new
  pub lines : OnOk result (KeepsLines now)
  pub late_lines : IfErr result (λ stop. IsLate stop → KeepsLines now)
  pub why : IfErr result (IsCause (Unit {0}) (IsNoSession spells) old.remaining (faults_at old (seen_of was)) (faults_at new (seen_of now)))
  pub early : IfErr result (λ stop. IsEarly stop → Stays)
