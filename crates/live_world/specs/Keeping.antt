-- What of the messages of its switches a live world keeps, so that a run can be done again. All of this is our own choice but for the
-- messages of OpenFlow 1.0.0.
use Rattle.std.specs.Prelude.{ℕ, ◌==◌, ◌&&◌, List, Option, Some, None, Result, Ok, Err, bit_and, if◌then◌else◌, nat_le}
use Rattle.of_types.specs.declared.journal.PortChange.{PortChange}
use Rattle.of_types.specs.declared.journal.PortChange.TheVariants.{Up, Down, Add, Delete}
use Rattle.of_types.specs.declared.journal.Stimulus.{Stimulus}
use Rattle.of_types.specs.declared.journal.Stimulus.TheVariants.{Port, Raw}
use Rattle.of_wire.specs.declared.bodies.PortStatus.{PortStatus as Status}
use Rattle.of_wire.specs.declared.fault.WireFault.{WireFault}
use Rattle.of_wire.specs.declared.message.Envelope.{Envelope}
use Rattle.of_wire.specs.declared.message.Message.{Message}
use Rattle.of_wire.specs.declared.message.Message.TheVariants.{PortStatus}
use Rattle.of_wire.specs.Reading.{reading_of}
use Rattle.of_wire.specs.Spelling.{kind_of}
use Rattle.outside.specs.Conforming.{is_unasked}

-- the port was added (reason 0), deleted (1), or modified (2) with or without a link (bit 0 of its state; 5.4.3 Port Status Message,
-- 5.2.1 Port Structures)
abbrev pub change_of : ℕ → ℕ → Option PortChange
change_of reason state =
    if reason == 0 then Some Add else if reason == 1 then Some Delete else
    if reason == 2 then (if bit_and state 1 == 0 then Some Up else Some Down) else None

abbrev pub port_changed : ℕ → Option PortChange → Option Stimulus
port_changed port None = None
port_changed port (Some change) = Some (Port port change)

-- a port that is none of the physical ones is no port of a session
abbrev pub port_kept : Status → Option Stimulus
port_kept status =
    if nat_le 1 status.port.port_no && nat_le status.port.port_no 65280 then port_changed status.port.port_no (change_of status.reason status.port.state)
    else None

-- what a switch says of its own is kept as its bytes
abbrev pub other_kept : List ℕ → Message → Option Stimulus
other_kept bytes message = if is_unasked (kind_of message) then Some (Raw bytes) else None

abbrev pub message_kept : List ℕ → Message → Option Stimulus
message_kept bytes (PortStatus status) = port_kept status
message_kept bytes message = other_kept bytes message

abbrev pub reading_kept : List ℕ → Result Envelope WireFault → Option Stimulus
reading_kept bytes (Ok envelope) = message_kept bytes envelope.message
reading_kept bytes (Err fault) = None

-- the stimulus that a message is kept as, if it is kept
abbrev pub kept_of : List ℕ → Option Stimulus
kept_of bytes = reading_kept bytes (reading_of bytes)
