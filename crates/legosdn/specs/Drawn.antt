-- How `gen` ends, before it has its status: it replays the session that it draws, and writes the line that sums up the report in place of
-- the report. All of this is our own choice.
use Rattle.std.specs.Prelude.{◌≡◌, ℕ, List, [], Some, Result, Ok, Err, IfErr}
use Rattle.std.specs.Io.KnownBytes.{append_known}
use Rattle.lego_io.specs.Count.{Rose}
use Rattle.lego_io.specs.Sink.{TookPart}
use Rattle.sim_world.specs.World.{WorldData, seen_of}
use Rattle.session_gen.specs.Summary.{summary_line}
use Rattle.legosdn.specs.declared.stop.Stop.{Stop}
use Rattle.legosdn.specs.declared.stop.Stop.TheVariants.{WriteFault, NoMemory}
use Rattle.legosdn.specs.Input.{drawn}
use Rattle.legosdn.specs.Headline.{Streams, streams, faults_at, IsNoSession, IsCause, Replays}

-- nothing was written
abbrev pub Unwritten : Streams → Streams → Type 0
Unwritten old new = (new.contents ≡ old.contents) × (new.sink_faults ≡ old.sink_faults)

-- a line of which the sink took a part, as it failed; or memory was wanting for it
abbrev pub CutLine : Stop → List ℕ → Streams → Streams → Type 0
CutLine WriteFault line old new = Rose old.sink_faults new.sink_faults × TookPart old.contents new.contents line
CutLine NoMemory line old new = Unwritten old new
CutLine other line old new = ⊥

-- the replay stopped, and so does this; where its report was not written, memory was wanting for that
abbrev pub StopsSo : Stop → Stop → Type 0
StopsSo WriteFault stop = stop ≡ NoMemory
StopsSo ended stop = stop ≡ ended

-- the line is written where the replay came to its end
abbrev pub SumsUp : {T U : Type 0} → Result T Stop → Result U Stop → List ℕ → Streams → Streams → Type 0
SumsUp (Ok x) (Ok y) line old new = new.contents ≡ append_known old.contents line
SumsUp (Ok x) (Err stop) line old new = CutLine stop line old new
SumsUp (Err ended) (Ok y) line old new = ⊥
SumsUp (Err ended) (Err stop) line old new = StopsSo ended stop × Unwritten old new

-- The replay ended so, with this report, which was written to memory, whose sink failed so often.
pub record Generates {T : Type 0} (start count : ℕ) (result : Result T Stop) (old new : Streams) (was now : WorldData) : Type 0 where
  pub ended : Result (Unit {0}) Stop
  pub report : List ℕ
  pub faults : ℕ
  pub replays : Replays (drawn start count) ended (streams (Some []) (Some []) 0 0) (streams (Some []) (Some report) 0 faults) was now ((now ≡ was) × ((report ≡ []) × (faults ≡ 0)))
  pub summed : SumsUp ended result (summary_line start count report) old new
  pub why : IfErr result (IsCause (Unit {0}) (IsNoSession (drawn start count)) (Some []) (faults_at old (seen_of was)) (faults_at new (seen_of now)))
