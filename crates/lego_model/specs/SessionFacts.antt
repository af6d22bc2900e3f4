-- What every session that was read keeps. This text form is our own.
use Rattle.std.specs.Prelude.{◌≡◌, ◌≢◌, ◌==◌, ℕ, ◌<◌, ◌≤◌, true, List, [], ◌∷◌, length, All}
use Rattle.std.specs.List.{AllPairs, list_any}
use Rattle.of_types.specs.Fields.{IsBytes}
use Rattle.of_types.specs.declared.journal.Stimulus.{Stimulus}
use Rattle.of_types.specs.declared.journal.Stimulus.TheVariants.{Frame, Advance, Port, Counts, Raw}
use Rattle.of_types.specs.declared.journal.WorldStim.{WorldStim}
use Rattle.of_types.specs.declared.journal.WorldStim.TheVariants.{Join, Leave, At, Of}
use Rattle.of_wire.specs.Reading.{reading_of}
use Rattle.lego_model.specs.SessionWords.{last_number}
use Rattle.outside.specs.Conforming.{may_be_raw}
use Rattle.lego_model.specs.SessionLines.{SessionValue}
use Rattle.flow_table.specs.Table.{last_moment}

-- ---- Switches

abbrev pub IsPort : ℕ → Type 0
IsPort port = (1 ≤ port) × (port ≤ 65280)

-- a declared switch: its number, how many entries it has room for, its ports
pub record IsSwitch (d : ℕ × ℕ × List ℕ) : Type 0 where
  pub numbered : (1 ≤ d.0) × (d.0 ≤ last_number)
  pub roomy : (1 ≤ d.1) × (d.1 ≤ 4096)
  pub ports : All IsPort d.2
  pub ascending : AllPairs (λ port later. port < later) d.2
  pub few_ports : length d.2 ≤ 64

-- one of these switches has this number
abbrev pub IsKnown : List (ℕ × ℕ × List ℕ) → ℕ → Type 0
IsKnown switches dpid = list_any (λ (d : ℕ × ℕ × List ℕ). d.0 == dpid) switches ≡ true

-- ---- Stimuli

-- so many bytes
abbrev pub IsSized : ℕ → ℕ → List ℕ → Type 0
IsSized least most bytes = (least ≤ length bytes) × (length bytes ≤ most) × IsBytes bytes

-- what may happen to a switch: a frame of 14 to 9,216 bytes, a change of a port, counts, bytes that it may send unasked
abbrev pub MayHappen : Stimulus → Type 0
MayHappen (Frame port bytes) = (port ≤ 65535) × IsSized 14 9216 bytes
MayHappen (Advance moment) = ⊥
MayHappen (Port port change) = IsPort port
MayHappen (Counts priority packets bytes) = (priority ≤ 65535) × (packets ≤ last_number) × (bytes ≤ last_number)
MayHappen (Raw bytes) = IsSized 1 65535 bytes × (may_be_raw (reading_of bytes) ≡ true)

-- it names a switch that is declared, and keeps the limits
abbrev pub IsStimulus : List (ℕ × ℕ × List ℕ) → WorldStim → Type 0
IsStimulus switches (Join dpid) = IsKnown switches dpid
IsStimulus switches (Leave dpid) = IsKnown switches dpid
IsStimulus switches (At moment) = moment ≤ last_moment
IsStimulus switches (Of dpid what) = IsKnown switches dpid × MayHappen what

-- the moments that are named, in order
abbrev pub moments : List WorldStim → List ℕ
moments [] = []
moments (Join dpid ∷ more) = moments more
moments (Leave dpid ∷ more) = moments more
moments (At moment ∷ more) = moment ∷ moments more
moments (Of dpid what ∷ more) = moments more

-- ---- Calls that fail

abbrev pub IsFault : List (ℕ × ℕ × List ℕ) → ℕ × ℕ → Type 0
IsFault switches fault = IsKnown switches fault.0 × (1 ≤ fault.1) × (fault.1 ≤ last_number)

-- ---- The session

pub record IsSession (s : SessionValue) : Type 0 where
  pub switches : All IsSwitch s.switches
  pub few_switches : length s.switches ≤ 64
  pub different : AllPairs (λ d later. d.0 ≢ later.0) s.switches
  pub faults : All (IsFault s.switches) s.faults
  pub replies : All (λ r. 1 ≤ length r.1) s.replies
  pub stimuli : All (IsStimulus s.switches) s.stimuli
  pub few_stimuli : length s.stimuli ≤ 1000000
  pub moments_rise : AllPairs (λ moment later. moment ≤ later) (moments s.stimuli)

-- each application is one of so many
pub record IsOf (count : ℕ) (s : SessionValue) : Type 0 where
  pub starts : All (λ x. x.0 < count) s.starts
  pub replies : All (λ x. x.0 < count) s.replies
