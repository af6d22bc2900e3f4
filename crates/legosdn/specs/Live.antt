-- What `run` promises: how it takes its policy, and how a run over any world goes, where that world tells. All of this is our own choice.
use Rattle.std.specs.Prelude.{◌≡◌, ℕ, ◌⊎◌, List, [], ◌∷◌, Option, IfSome, Result, Ok, Err, IfErr}
use Rattle.lego_io.specs.Count.{NeverFell}
use Rattle.lego_io.specs.Source.{ended}
use Rattle.outside.specs.declared.step.WorldStep.TheVariants.{NotOpened}
use Rattle.outside.specs.Seen.{Seen}
use Rattle.outside.specs.State.{at_first}
use Rattle.outside.specs.InOrder.{BringMessages, InOrder}
use Rattle.sim_world.specs.Places.{AreExpected}
use Rattle.lego_model.specs.WholeRun.{TookFirst, is_spent, EndsAlike, LeavesAlike}
use Rattle.lego_model.specs.AllLines.{CutBehindLines, CutInLines, CutForMemory}
use Rattle.lego_model.specs.CutRun.{NothingDone}
use Rattle.legosdn.specs.declared.stop.Stop.{Stop}
use Rattle.legosdn.specs.declared.stop.Stop.TheVariants.{WriteFault, Shut, NextFault, SwitchBroke, Diverged, EventsLeft, NoMemory}
use Rattle.legosdn.specs.Input.{ProgramValue, run_policy}
use Rattle.legosdn.specs.Stops.{stop_status, stop_line}
use Rattle.legosdn.specs.Said.{allowed_by}
use Rattle.legosdn.specs.Course.{CourseOf}
use Rattle.legosdn.specs.Headline.{NoneFloods, Streams, faults_at, IsNoPolicy, IsCause, IsEarly, IsLate, UpToPoint, Wrote, StopsBefore}

-- ---- The policy

-- The source was read to its end, and what it told is a policy that is taken.
pub record Taken (program : ProgramValue) (told left : Option (List ℕ)) : Type 0 where
  pub input : List ℕ
  pub whole : IfSome told (λ bytes. input ≡ bytes)
  pub end : left ≡ ended told
  pub spelled : run_policy input ≡ Ok program

-- so it is for some applications
abbrev pub IsTaken : Option (List ℕ) → Option (List ℕ) → Type 0
IsTaken told left = (program : ProgramValue) × Taken program told left

-- ---- The world

-- Of a world on which no call was made before: it tells, in order, what its switches send, though that may be no messages.
pub record TellsInOrder {Own : Type 0} (Tells : Type 0) (old new : Seen Own) : Type 0 where
  pub told : Tells
  pub untouched : old.history ≡ []
  pub order : InOrder new

-- each call that failed, and each that found an application gone, was in place
abbrev pub NoneStray : {Own : Type 0} → Seen Own → Type 0
NoneStray seen = AreExpected seen.history (at_first seen.given)

-- ---- The run

-- The first stimuli that the world was given were told, as many as there are rounds, or all of them; and the run is that of the reference
-- controller over them, with no batch behind the last where they took all rounds: at every quiescent point the
-- tables agree, each application was given what it is given there, the packets that were released are those that it releases, the switches that
-- were lost are those that it loses, no event is left, and what was written is the whole report. The journal is a dialogue with each application, in which each change had reached its switch
-- at once when it was answered.
pub record ServesWhole {Own : Type 0} (program : ProgramValue) (rounds : ℕ) (seen : Seen Own) (contents now_contents : Option (List ℕ)) : Type 0 where
  pub events : ℕ
  pub alike : EndsAlike program.apps (allowed_by program.judge) (is_spent rounds seen) seen contents now_contents events
  pub stimuli : TookFirst rounds seen

-- it is no stop for what a switch did
abbrev pub IsOfNoSwitch : Stop → Type 0
IsOfNoSwitch (SwitchBroke d) = ⊥
IsOfNoSwitch (Diverged d) = ⊥
IsOfNoSwitch other = Unit {0}

-- The same with this many events left, and with the lines of those that were dispatched.
pub record ServesPart {Own : Type 0} (program : ProgramValue) (rounds : ℕ) (seen : Seen Own) (contents now_contents : Option (List ℕ)) (left : ℕ) : Type 0 where
  pub alike : LeavesAlike program.apps (allowed_by program.judge) (is_spent rounds seen) seen contents now_contents left
  pub stimuli : TookFirst rounds seen

-- How a run goes that ends so. Where events are left it is as above. Where a fault ends it, it is that of the reference controller up to the
-- last quiescent point, with the lines of all that was done up to there. None is missing, of the start and of all events before, where what
-- comes next failed, or a switch; where the sink failed it took a part of the lines of the last; where memory was wanting those of the start
-- are there, if a stimulus happened. Or nothing was done. Only where bytes come that are no message, a switch diverges, or breaks, unless a
-- packet that was released made it send as many messages as are too many.
abbrev pub ServesUntil : {Own : Type 0} → ProgramValue → (rounds : ℕ) → Stop → Seen Own → Option (List ℕ) → Option (List ℕ) → Type 0
ServesUntil program rounds (EventsLeft left) seen contents now_contents = ServesPart program rounds seen contents now_contents left
ServesUntil program rounds WriteFault seen contents now_contents = UpToPoint program seen ⊥ (λ last. CutInLines program.apps (allowed_by program.judge) last contents now_contents)
ServesUntil program rounds Shut seen contents now_contents = NothingDone (NotOpened ∷ []) seen contents now_contents
ServesUntil program rounds NextFault seen contents now_contents = UpToPoint program seen ⊥ (λ last. CutBehindLines program.apps (allowed_by program.judge) last contents now_contents)
ServesUntil program rounds (SwitchBroke d) seen contents now_contents = (NoneFloods seen → BringMessages seen.history → ⊥) × UpToPoint program seen ⊥ (λ last. CutBehindLines program.apps (allowed_by program.judge) last contents now_contents)
ServesUntil program rounds (Diverged d) seen contents now_contents = (BringMessages seen.history → ⊥) × UpToPoint program seen ⊥ (λ last. CutBehindLines program.apps (allowed_by program.judge) last contents now_contents)
ServesUntil program rounds NoMemory seen contents now_contents = UpToPoint program seen (Unit {0}) (λ last. CutForMemory program.apps (allowed_by program.judge) seen last contents now_contents) ⊎ NothingDone [] seen contents now_contents
ServesUntil program rounds other seen contents now_contents = Unit {0}

abbrev pub ServesAs : {Own T : Type 0} → ProgramValue → (rounds : ℕ) → Result T Stop → Seen Own → Option (List ℕ) → Option (List ℕ) → Type 0
ServesAs program rounds (Ok x) seen contents now_contents = ServesWhole program rounds seen contents now_contents
ServesAs program rounds (Err stop) seen contents now_contents = ServesUntil program rounds stop seen contents now_contents

-- How the run went up to a stop of this status, whose line stands behind what was written up to there.
pub record ServesCut {Own : Type 0} (program : ProgramValue) (rounds status : ℕ) (seen : Seen Own) (contents now_contents : Option (List ℕ)) (faults_old faults_new : ℕ) : Type 0 where
  pub stop : Stop
  pub status_is : status ≡ stop_status stop
  pub before : Option (List ℕ)
  pub faults : ℕ
  pub never_fell : NeverFell faults_old faults
  pub run : ServesUntil program rounds stop seen contents before
  pub written : Wrote before now_contents faults faults_new (stop_line stop)

-- ---- Before `run` has its status: how it ends, which reads a policy to its end and then runs

-- the policy was taken, wherever the world runs
abbrev pub TakenAs : {T : Type 0} → Result T Stop → Option (List ℕ) → Option (List ℕ) → Type 0
TakenAs (Ok x) told left = IsTaken told left
TakenAs (Err stop) told left = IsLate stop → IsTaken told left

-- how the run went of the applications that were taken, if any were: they were, but where the stop comes before, or memory was wanting
abbrev pub ServesTaken : {Own T : Type 0} → (rounds : ℕ) → Result T Stop → Option (List ℕ) → Option (List ℕ) → Seen Own → Option (List ℕ) → Option (List ℕ) → Type 0
ServesTaken rounds result told left seen contents now_contents = ((program : ProgramValue) × Taken program told left × ServesAs program rounds result seen contents now_contents) ⊎ StopsBefore result seen contents now_contents

pub record Serves {Own T : Type 0} (Tells : Type 0) (rounds : ℕ) (result : Result T Stop) (old new : Streams) (was now : Seen Own) (Stays : Type 0) : Type 0 where
  pub taken : TakenAs result old.remaining new.remaining
  pub no_other : IsTaken old.remaining new.remaining ⊎ Stays
  pub runs : TellsInOrder Tells was now → ServesTaken rounds result old.remaining new.remaining now old.contents new.contents
  pub course : Tells → CourseOf (λ program. Taken program old.remaining new.remaining) result was now old new
  pub why : IfErr result (IsCause Tells IsNoPolicy old.remaining (faults_at old was) (faults_at new now))
  pub early : IfErr result (λ stop. IsEarly stop → Stays)
