-- What a message and a stimulus make of a simulated switch, and what it sends then (OpenFlow 1.0.0, 4.6 Flow Table Modification
-- Messages and 5.3 to 5.5). Messages that the switch sends of its own have xid 0. Stimuli, and that a PORT_MOD sends no PORT_STATUS,
-- are our own choice.
use Rattle.std.specs.Prelude.{◌==◌, ℕ, ◌-◌, Bool, true, false, not, ◌&&◌, nat_lt, List, [], ◌∷◌, length, take, map, filter, bit_and, bit_or, Option, Some, None, is_none, if◌then◌else◌}
use Rattle.of_types.specs.declared.errors.OfError.{OfError}
use Rattle.of_types.specs.declared.journal.PortChange.{PortChange}
use Rattle.of_types.specs.declared.journal.PortChange.TheVariants as changes
use Rattle.of_types.specs.declared.journal.Stimulus.{Stimulus}
use Rattle.of_types.specs.declared.journal.Stimulus.TheVariants.{Frame, Advance, Port, Counts, Raw}
use Rattle.of_wire.specs.declared.bodies.FlowRemoved.{FlowRemoved as RemovedFlow}
use Rattle.of_wire.specs.declared.bodies.PortMod.{PortMod as PortModBody}
use Rattle.of_wire.specs.declared.message.Message.{Message}
use Rattle.of_wire.specs.declared.message.Message.TheVariants.{Error, EchoRequest, EchoReply, FeaturesRequest, GetConfigRequest, GetConfigReply, SetConfig, FlowRemoved, PortStatus, PacketOut, FlowMod, PortMod, StatsRequest, BarrierRequest, BarrierReply}
use Rattle.of_wire.specs.Spelling.{message_bytes}
use Rattle.flow_table.specs.declared.notice.Notice.{Notice}
use Rattle.flow_table.specs.Change.{unless_refused, changed, notices_of}
use Rattle.flow_table.specs.Hit.{with_counts}
use Rattle.flow_table.specs.Expiry.{expire, expiry_notices}
use Rattle.flow_table.specs.Switch.{PortState, SwitchState, most_ports, new_port, port_at, with_port, insert_port, with_number, port_desc, features_reply}
use Rattle.flow_table.specs.Refusals.{message_refusal}
use Rattle.flow_table.specs.Frames.{after_packet_out, sent_by_packet_out, after_frame, sent_by_frame}
use Rattle.flow_table.specs.Statistics.{statistics_replies}

-- ---- FLOW_REMOVED (5.4.2 Flow Removed Message), in whole seconds

abbrev pub flow_removed : Notice → RemovedFlow
flow_removed n = record {
  matching = n.removed.key.matching;
  cookie = n.removed.cookie;
  priority = n.removed.key.priority;
  reason = n.reason;
  duration_sec = n.duration;
  duration_nsec = 0;
  idle_timeout = n.removed.idle;
  packet_count = n.removed.packets;
  byte_count = n.removed.bytes;
}

unfoldable pub flow_removed_bytes : Notice → List ℕ
flow_removed_bytes n = message_bytes 0 (FlowRemoved (flow_removed n))

-- ---- PORT_MOD (5.3.3 Modify State Messages): of the bits in the mask the switch keeps PORT_DOWN, NO_RECV, NO_FLOOD, NO_FWD and
-- NO_PACKET_IN.

abbrev pub kept_bits : ℕ
kept_bits = 0x75

-- a config whose bits in the mask are those of another one
unfoldable pub with_bits : ℕ → ℕ → ℕ → ℕ
with_bits mask wanted config = bit_or (bit_and config (0xffffffff - mask)) (bit_and wanted mask)

unfoldable pub with_config : PortModBody → PortState → PortState
with_config m p = record p { config = with_bits (bit_and m.mask kept_bits) m.config p.config }

-- ---- A message

-- the state after a message that is not refused
unfoldable pub after_taken : Message → SwitchState → SwitchState
after_taken (FlowMod m) s = record s { table = changed s.moment m s.table }
after_taken (PacketOut m) s = after_packet_out m s
after_taken (PortMod m) s = record s { ports = with_port m.port_no (with_config m) s.ports }
after_taken (SetConfig c) s = record s { config = c }
after_taken other s = s

-- what the switch sends then: replies have the request's xid
unfoldable pub sent_by_taken : ℕ → Message → SwitchState → List (List ℕ)
sent_by_taken xid (FlowMod m) s = map flow_removed_bytes (notices_of s.moment m s.table.entries)
sent_by_taken xid (PacketOut m) s = sent_by_packet_out m s
sent_by_taken xid (StatsRequest m) s = statistics_replies xid m s
sent_by_taken xid BarrierRequest s = message_bytes xid BarrierReply ∷ []
sent_by_taken xid (EchoRequest payload) s = message_bytes xid (EchoReply payload) ∷ []
sent_by_taken xid FeaturesRequest s = features_reply xid s ∷ []
sent_by_taken xid GetConfigRequest s = message_bytes xid (GetConfigReply s.config) ∷ []
sent_by_taken xid other s = []

-- An ERROR has the xid of the message that is refused, and its first 64 bytes (5.4.4 Error Message).
unfoldable pub error_bytes : ℕ → Message → OfError → List ℕ
error_bytes xid m e = message_bytes xid (Error e.kind e.code (take 64 (message_bytes xid m)))

abbrev pub answered : ℕ → Message → SwitchState → Option OfError → List (List ℕ)
answered xid m s None = sent_by_taken xid m s
answered xid m s (Some e) = error_bytes xid m e ∷ []

unfoldable pub after_message : Message → SwitchState → SwitchState
after_message m s = unless_refused (message_refusal s m) s (after_taken m s)

unfoldable pub sent_by_message : ℕ → Message → SwitchState → List (List ℕ)
sent_by_message xid m s = answered xid m s (message_refusal s m)

-- ---- PORT_STATUS (5.4.3 Port Status Message): ADD 0, DELETE 1, MODIFY 2

unfoldable pub port_status : ℕ → ℕ → PortState → List ℕ
port_status reason dpid p = message_bytes 0 (PortStatus (record { reason = reason; port = port_desc dpid p }))

-- ---- What happens to a port. A change that changes nothing has no effect.

abbrev pub set_link : Bool → PortState → PortState
set_link up p = record p { link = up }

abbrev pub same_bool : Bool → Bool → Bool
same_bool true b = b
same_bool false b = not b

-- a link that comes or goes
abbrev pub ports_after_link : Bool → ℕ → List PortState → List PortState
ports_after_link up number ports = with_port number (set_link up) ports

abbrev pub sent_by_link : Bool → ℕ → Option PortState → List (List ℕ)
sent_by_link up dpid None = []
sent_by_link up dpid (Some p) = if same_bool p.link up then [] else port_status 2 dpid (set_link up p) ∷ []

-- a port that comes, where there is room and none of its number
abbrev pub can_add : ℕ → List PortState → Bool
can_add number ports = is_none (port_at number ports) && nat_lt (length ports) most_ports

-- a port that goes
abbrev pub without_port : ℕ → List PortState → List PortState
without_port number ports = filter (λ p. not (p.number == number)) ports

abbrev pub sent_by_deletion : ℕ → Option PortState → List (List ℕ)
sent_by_deletion dpid None = []
sent_by_deletion dpid (Some p) = port_status 1 dpid p ∷ []

unfoldable pub after_port_change : ℕ → PortChange → SwitchState → SwitchState
after_port_change number changes.Up s = record s { ports = ports_after_link true number s.ports }
after_port_change number changes.Down s = record s { ports = ports_after_link false number s.ports }
after_port_change number changes.Add s =
    if can_add number s.ports then record s { ports = insert_port (new_port number) s.ports; had = with_number number s.had } else s
after_port_change number changes.Delete s = record s { ports = without_port number s.ports }

unfoldable pub sent_by_port_change : ℕ → PortChange → SwitchState → List (List ℕ)
sent_by_port_change number changes.Up s = sent_by_link true s.declared.dpid (port_at number s.ports)
sent_by_port_change number changes.Down s = sent_by_link false s.declared.dpid (port_at number s.ports)
sent_by_port_change number changes.Add s =
    if can_add number s.ports then port_status 0 s.declared.dpid (new_port number) ∷ [] else []
sent_by_port_change number changes.Delete s = sent_by_deletion s.declared.dpid (port_at number s.ports)

-- ---- A stimulus

unfoldable pub after_stimulus : Stimulus → SwitchState → SwitchState
after_stimulus (Frame port bytes) s = after_frame port bytes s
after_stimulus (Advance moment) s = record s { moment = moment; table = expire moment s.table }
after_stimulus (Port port change) s = after_port_change port change s
after_stimulus (Counts priority packets bytes) s =
    record s { table = record s.table { entries = with_counts priority packets bytes s.table.entries } }
after_stimulus (Raw bytes) s = s

unfoldable pub sent_by_stimulus : Stimulus → SwitchState → List (List ℕ)
sent_by_stimulus (Frame port bytes) s = sent_by_frame port bytes s
sent_by_stimulus (Advance moment) s = map flow_removed_bytes (expiry_notices moment s.table.entries)
sent_by_stimulus (Port port change) s = sent_by_port_change port change s
sent_by_stimulus (Counts priority packets bytes) s = []
sent_by_stimulus (Raw bytes) s = bytes ∷ []
