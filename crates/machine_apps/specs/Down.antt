-- When a port is of no use any more (OpenFlow 1.0.0, 5.4.3 Port Status Message, 5.2.1 Port Structures).
use Rattle.std.specs.Prelude.{◌==◌, Bool, not, ◌||◌, ◌&&◌, bit_and}
use Rattle.of_wire.specs.declared.bodies.PortStatus.{PortStatus}

-- the port was deleted (reason 1), or was modified (2) and has no link (bit 0 of its state)
abbrev pub is_down : PortStatus → Bool
is_down status = (status.reason == 1) || ((status.reason == 2) && not (bit_and status.port.state 1 == 0))
