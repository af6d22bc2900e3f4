-- The stimuli that a journal tells. All of this is our own choice.
use Rattle.std.specs.Prelude.{List, Option, Some, None}
use Rattle.std.specs.List.{filter_map}
use Rattle.of_types.specs.declared.journal.Act.{Act}
use Rattle.of_types.specs.declared.journal.Act.TheVariants.{Stim}
use Rattle.of_types.specs.declared.journal.WorldStim.{WorldStim}

-- the stimulus that an act begins
abbrev pub stimulus_in : Act → Option WorldStim
stimulus_in (Stim stimulus) = Some stimulus
stimulus_in other = None

-- those that were begun, in order
unfoldable pub stimuli : List Act → List WorldStim
stimuli journal = filter_map stimulus_in journal
