-- What is seen of a source and a sink, and what is written. All of this is our own choice.
use Rattle.std.specs.Prelude.{◌≡◌, ◌⊎◌, ℕ, List, Option}
use Rattle.std.specs.Io.KnownBytes.{append_known}
use Rattle.lego_io.specs.Count.{Rose}
use Rattle.lego_io.specs.Sink.{TookPart}

-- What is seen of a source and a sink: what the source has still to tell, what the sink holds, and how often each failed.
pub record Streams : Type 0 where
  pub remaining : Option (List ℕ)
  pub contents : Option (List ℕ)
  pub source_faults : ℕ
  pub sink_faults : ℕ

abbrev pub streams : Option (List ℕ) → Option (List ℕ) → ℕ → ℕ → Streams
streams remaining contents source_faults sink_faults = record { remaining = remaining; contents = contents; source_faults = source_faults; sink_faults = sink_faults }

-- the bytes were written, or the sink failed and a part of them was
abbrev pub Wrote : Option (List ℕ) → Option (List ℕ) → ℕ → ℕ → List ℕ → Type 0
Wrote old new faults_old faults_new bytes = (new ≡ append_known old bytes) ⊎ (Rose faults_old faults_new × TookPart old new bytes)
