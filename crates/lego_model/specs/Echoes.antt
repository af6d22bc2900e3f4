-- ECHO_REQUESTs (OpenFlow 1.0.0, 5.5.2 Echo Request).
use Rattle.std.specs.Prelude.{Result, Ok, Err}
use Rattle.of_wire.specs.declared.message.Message.{Message}
use Rattle.of_wire.specs.declared.message.Message.TheVariants.{EchoRequest}
use Rattle.of_wire.specs.declared.message.Envelope.{Envelope}
use Rattle.of_wire.specs.declared.fault.WireFault.{WireFault}

abbrev pub IsEcho : Message → Type 0
IsEcho (EchoRequest payload) = Unit {0}
IsEcho other = ⊥

-- bytes that were read are one
abbrev pub IsEchoRead : Result Envelope WireFault → Type 0
IsEchoRead (Ok e) = IsEcho e.message
IsEchoRead (Err fault) = ⊥
