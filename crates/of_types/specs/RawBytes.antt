-- Bytes that a switch sends of its own need not be a message.
use Rattle.of_types.specs.declared.journal.Stimulus.{Stimulus}
use Rattle.of_types.specs.declared.journal.Stimulus.TheVariants.{Raw}

abbrev pub IsNotRaw : Stimulus → Type 0
IsNotRaw (Raw bytes) = ⊥
IsNotRaw other = Unit {0}
