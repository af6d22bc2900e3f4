-- Which items tell that an entry was deleted (OpenFlow 1.0.0, 5.4.2 Flow Removed Message). All of this is our own.
use Rattle.std.specs.Prelude.{◌≡◌, ◌==◌, Bool, false, Result, Ok, Err}
use Rattle.of_wire.specs.declared.message.Message.{Message}
use Rattle.of_wire.specs.declared.message.Message.TheVariants.{FlowRemoved}
use Rattle.of_wire.specs.declared.message.Envelope.{Envelope}
use Rattle.of_wire.specs.declared.fault.WireFault.{WireFault}
use Rattle.of_wire.specs.Reading.{reading_of}
use Rattle.outside.specs.declared.step.WorldStep.{WorldStep}
use Rattle.outside.specs.declared.step.WorldStep.TheVariants.{From}

-- the reason is DELETE (2)
abbrev pub is_deletion : Message → Bool
is_deletion (FlowRemoved f) = f.reason == 2
is_deletion other = false

abbrev pub IsNoDeletion : Result Envelope WireFault → Type 0
IsNoDeletion (Ok e) = is_deletion e.message ≡ false
IsNoDeletion (Err fault) = Unit {0}

abbrev pub TellsNoDeletion : WorldStep → Type 0
TellsNoDeletion (From d bytes) = IsNoDeletion (reading_of bytes)
TellsNoDeletion other = Unit {0}
