-- The stimuli that can happen to a switch: moments do not fall and end at 4,294,967,295, and frames have 14 to 9,216 bytes. The limits
-- are our own choice.
use Rattle.std.specs.Prelude.{◌≤◌, length}
use Rattle.of_types.specs.declared.journal.Stimulus.{Stimulus}
use Rattle.of_types.specs.declared.journal.Stimulus.TheVariants.{Frame, Advance}
use Rattle.flow_table.specs.Table.{last_moment}
use Rattle.flow_table.specs.Switch.{SwitchState}

abbrev pub IsPossible : Stimulus → SwitchState → Type 0
IsPossible (Frame port bytes) s = (14 ≤ length bytes) × (length bytes ≤ 9216)
IsPossible (Advance moment) s = (s.moment ≤ moment) × (moment ≤ last_moment)
IsPossible other s = Unit {0}
