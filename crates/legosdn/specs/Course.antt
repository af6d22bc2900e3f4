-- The course of a run, over any world that tells, as the commands say it. All of this is our own choice.
use Rattle.std.specs.Prelude.{◌≡◌, ◌⊎◌, ℕ, List, [], length, Option, Result, Ok, Err}
use Rattle.std.specs.Io.KnownBytes.{append_known}
use Rattle.lego_io.specs.Count.{NeverFell}
use Rattle.crash_policy.specs.Policies.{AppValue}
use Rattle.outside.specs.Seen.{Seen}
use Rattle.run_course.specs.Parts.{Standing, WritesPart, TakesCourse}
use Rattle.legosdn.specs.declared.stop.Stop.{Stop}
use Rattle.legosdn.specs.declared.stop.Stop.TheVariants.{WriteFault, EventsLeft}
use Rattle.legosdn.specs.Input.{ProgramValue}
use Rattle.legosdn.specs.Stops.{stop_status, stop_line}
use Rattle.legosdn.specs.Written.{Streams, Wrote}

-- How it stands behind its last whole part. Where all was done no event waits, and the end of the report was written; or as many events are left as
-- are said to be. Where the sink failed it took a part of what was done last. Behind any other stop nothing more was written.
abbrev pub StandsAt : {Own T : Type 0} → Result T Stop → Option (List ℕ) → Standing Own → Type 0
StandsAt (Ok x) written last = (last.holding.queue ≡ []) × ((text : List ℕ) × (written ≡ append_known last.written text))
StandsAt (Err (EventsLeft left)) written last = (left ≡ length last.holding.queue) × (written ≡ last.written)
StandsAt (Err WriteFault) written last = WritesPart last written
StandsAt (Err stop) written last = written ≡ last.written

-- A stop of this status ended the run, and its line stands behind what was written up to there.
pub record StopsCourse {Own : Type 0} (rules : List AppValue) (status : ℕ) (was now : Seen Own) (old new : Streams) : Type 0 where
  pub stop : Stop
  pub status_is : status ≡ stop_status stop
  pub before : Option (List ℕ)
  pub faults : ℕ
  pub never_fell : NeverFell old.sink_faults faults
  pub course : TakesCourse rules was now old.contents (StandsAt {T = Unit {0}} (Err stop) before)
  pub written : Wrote before new.contents faults new.sink_faults (stop_line stop)

-- or all was done
abbrev pub CourseTo : {Own : Type 0} → List AppValue → ℕ → Seen Own → Seen Own → Streams → Streams → Type 0
CourseTo rules status was now old new = ((status ≡ 0) × TakesCourse rules was now old.contents (StandsAt {T = Unit {0}} (Ok tt) new.contents)) ⊎ StopsCourse rules status was now old new

-- ---- Before a command has its status

-- the course of the applications that were taken, or nothing was called
abbrev pub CourseOf : {Own T : Type 0} → (ProgramValue → Type 0) → Result T Stop → Seen Own → Seen Own → Streams → Streams → Type 0
CourseOf IsOne result was now old new = ((program : ProgramValue) × IsOne program × TakesCourse program.apps was now old.contents (StandsAt result new.contents)) ⊎ (now.history ≡ was.history)
