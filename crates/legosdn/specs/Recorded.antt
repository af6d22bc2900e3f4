-- How `record` ends, before it has its status: it runs as `run` does, and writes in place of the report the policy, a line `---`, and the session that
-- does the run again. All of this is our own choice.
use Rattle.std.specs.Prelude.{◌≡◌, ◌==◌, ℕ, ◌-◌, Bool, true, List, [], ◌∷◌, ◌++◌, length, Option, Some, None, IfSome, Result, Ok, Err, IfErr, slice_get, if◌then◌else◌}
use Rattle.std.specs.Io.KnownBytes.{append_known}
use Rattle.crash_policy.specs.Policies.{AppValue}
use Rattle.outside.specs.Seen.{Seen, Shown}
use Rattle.lego_model.specs.Application.{names}
use Rattle.session_record.specs.Deeds.{Deed}
use Rattle.session_record.specs.Texts.{IsText}
use Rattle.session_record.specs.Remarks.{AreRemarks}
use Rattle.legosdn.specs.declared.stop.Stop.{Stop}
use Rattle.legosdn.specs.declared.stop.Stop.TheVariants.{WriteFault}
use Rattle.legosdn.specs.Input.{ProgramValue}
use Rattle.legosdn.specs.Headline.{Streams, streams, faults_at, IsNoPolicy, IsCause}
use Rattle.legosdn.specs.Live.{Taken, Serves}
use Rattle.legosdn.specs.Drawn.{Unwritten, CutLine, StopsSo}

-- ---- A recording

-- What is kept of a run beside its switches and what happened: what became of the calls for its applications, unless memory was refused for that;
-- and the calls of links at which switches were lost.
pub record Kept : Type 0 where
  pub deeds : Option (List Deed)
  pub losses : List (ℕ × ℕ)

-- there is no last byte, or it is LF (10)
abbrev pub ends_line : Option ℕ → Bool
ends_line None = true
ends_line (Some byte) = byte == 10

-- a text, with LF behind it where there is something that does not end so
unfoldable pub whole_lines : List ℕ → List ℕ
whole_lines text = if ends_line (slice_get text (length text - 1)) then text else text ++ 10 ∷ []

-- the policy, the line `---`, and the session, with comments in front
unfoldable pub recording_text : List ℕ → List ℕ → List ℕ → List ℕ
recording_text policy remarks session = ((whole_lines policy ++ 45 ∷ 45 ∷ 45 ∷ 10 ∷ []) ++ remarks) ++ session

-- These bytes are the recording of a run of such applications, under a policy of this text. Of a world that tells and shows what it is, the session has its switches, and
-- what happened to it.
pub record IsRecording {Own : Type 0} (Tells : Type 0) (seen : Seen Own) (apps : List AppValue) (policy : List ℕ) (kept : Kept) (bytes : List ℕ) : Type 0 where
  pub remarks : List ℕ
  pub are_remarks : AreRemarks remarks
  pub session : List ℕ
  pub is_text : IsText (Shown Tells seen) seen (names apps) kept.deeds kept.losses session
  pub spelled : bytes ≡ recording_text policy remarks session

-- the same of the applications that were taken, under the policy that the source told
pub record Recording {Own : Type 0} (Tells : Type 0) (told left : Option (List ℕ)) (seen : Seen Own) (kept : Kept) (bytes : List ℕ) : Type 0 where
  pub program : ProgramValue
  pub taken : Taken program told left
  pub policy : List ℕ
  pub whole : IfSome told (λ all. policy ≡ all)
  pub is_recording : IsRecording Tells seen program.apps policy kept bytes

-- ---- How it ends

-- the sink took a part of such bytes, as it failed; or memory was wanting for them
abbrev pub CutRecording : Stop → (List ℕ → Type 0) → Streams → Streams → Type 0
CutRecording stop Is old new = (bytes : List ℕ) × (stop ≡ WriteFault → Is bytes) × CutLine stop bytes old new

-- they are written where the run came to its end
abbrev pub WritesUp : {T U : Type 0} → Result T Stop → Result U Stop → (List ℕ → Type 0) → Streams → Streams → Type 0
WritesUp (Ok x) (Ok y) Is old new = (bytes : List ℕ) × Is bytes × (new.contents ≡ append_known old.contents bytes)
WritesUp (Ok x) (Err stop) Is old new = CutRecording stop Is old new
WritesUp (Err ended) (Ok y) Is old new = ⊥
WritesUp (Err ended) (Err stop) Is old new = StopsSo ended stop × Unwritten old new

-- The run ended so, with this report, which was written to memory, whose sink failed so often.
pub record Records {Own T : Type 0} (Tells : Type 0) (rounds : ℕ) (result : Result T Stop) (old new : Streams) (was now : Seen Own) (kept : Kept) (Stays : Type 0) : Type 0 where
  pub ended : Result (Unit {0}) Stop
  pub report : List ℕ
  pub faults : ℕ
  pub serves : Serves Tells rounds ended (streams old.remaining (Some []) old.source_faults 0) (streams new.remaining (Some report) new.source_faults faults) was now (Stays × ((report ≡ []) × (faults ≡ 0)))
  pub written : WritesUp ended result (Recording Tells old.remaining new.remaining now kept) old new
  pub why : IfErr result (IsCause Tells IsNoPolicy old.remaining (faults_at old was) (faults_at new now))
