-- Stimuli as records: the numbers with their highest byte first, and the bytes of a frame or a message behind them. All of this is our
-- own choice.
use Rattle.std.specs.Prelude.{ℕ, ◌≤◌, List, length, drop, map, All}
use Rattle.of_types.specs.Fields.{number_at}
use Rattle.of_types.specs.declared.journal.Stimulus.TheVariants as of
use Rattle.of_types.specs.declared.journal.WorldStim.{WorldStim}
use Rattle.of_types.specs.declared.journal.WorldStim.TheVariants as world
use Rattle.session_lists.specs.declared.kinds.StimulusKind.{StimulusKind}
use Rattle.session_lists.specs.declared.kinds.StimulusKind.TheVariants.{Join, Leave, At, LateAt, Frame, Advance, Port, Counts, Raw}

-- how many bytes the numbers take
abbrev pub size_of : StimulusKind → ℕ
size_of Join = 8
size_of Leave = 8
size_of At = 4
size_of LateAt = 8
size_of Frame = 10
size_of Advance = 16
size_of (Port change) = 10
size_of Counts = 26
size_of Raw = 8

-- the stimulus that a record spells
unfoldable pub stimulus_in : StimulusKind → List ℕ → WorldStim
stimulus_in Join bytes = world.Join (number_at 8 0 bytes)
stimulus_in Leave bytes = world.Leave (number_at 8 0 bytes)
stimulus_in At bytes = world.At (number_at 4 0 bytes)
stimulus_in LateAt bytes = world.At (number_at 8 0 bytes)
stimulus_in Frame bytes = world.Of (number_at 8 0 bytes) (of.Frame (number_at 2 8 bytes) (drop 10 bytes))
stimulus_in Advance bytes = world.Of (number_at 8 0 bytes) (of.Advance (number_at 8 8 bytes))
stimulus_in (Port change) bytes = world.Of (number_at 8 0 bytes) (of.Port (number_at 2 8 bytes) change)
stimulus_in Counts bytes = world.Of (number_at 8 0 bytes) (of.Counts (number_at 2 8 bytes) (number_at 8 10 bytes) (number_at 8 18 bytes))
stimulus_in Raw bytes = world.Of (number_at 8 0 bytes) (of.Raw (drop 8 bytes))

abbrev pub stimuli_in : List (StimulusKind × List ℕ) → List WorldStim
stimuli_in records = map (λ entry. stimulus_in entry.0 entry.1) records

-- each record holds its numbers
abbrev pub AreWhole : List (StimulusKind × List ℕ) → Type 0
AreWhole records = All (λ entry. size_of entry.0 ≤ length entry.1) records
