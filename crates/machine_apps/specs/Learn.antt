-- A learning switch: what it learns, and what it gives for an event. Which packets it looks at, how much it learns, and the numbers in
-- its messages are our own choice; the messages are those of OpenFlow 1.0.0 (5.3.3 Modify State Messages, 5.3.6 Send Packet Message,
-- 5.4.1 Packet-In Message).
use Rattle.std.specs.Prelude.{ℕ, ◌==◌, Bool, ◌&&◌, ◌||◌, List, [], ◌∷◌, ◌++◌, length, Option, Some, None, is_some, Result, Ok, Err, nat_lt, nat_le, if◌then◌else◌}
use Rattle.std.specs.Ordering.{nat_cmp}
use Rattle.std.specs.Cmp.Lexicographic.{slice_cmp}
use Rattle.std.specs.BTreeMap.{insert_entry, is_at}
use Rattle.std.specs.Map.{lookup}
use Rattle.of_types.specs.Fields.{number_bytes, piece}
use Rattle.of_match.specs.Fields.{bytes_of, any_fields}
use Rattle.of_match.specs.Match.{match_of}
use Rattle.of_action.specs.declared.action.Action.{Action}
use Rattle.of_action.specs.declared.action.Action.TheVariants.{Output}
use Rattle.of_wire.specs.declared.bodies.PacketIn.{PacketIn}
use Rattle.of_wire.specs.declared.message.Message.{Message}
use Rattle.of_wire.specs.declared.message.Message.TheVariants as messages
use Rattle.of_wire.specs.declared.message.Envelope.{Envelope}
use Rattle.of_wire.specs.declared.fault.WireFault.{WireFault}
use Rattle.of_wire.specs.Reading.{reading_of}
use Rattle.of_wire.specs.Spelling.{message_bytes}
use Rattle.app_frames.specs.declared.frame.AppFrame.{AppFrame}
use Rattle.app_frames.specs.declared.frame.AppFrame.TheVariants as frames
use Rattle.app_frames.specs.declared.frame.Event.{Event}
use Rattle.app_frames.specs.declared.frame.EventKind.{EventKind}
use Rattle.app_frames.specs.declared.frame.EventKind.TheVariants as kinds

-- ---- What was learned

-- by which port each station is reached, in the order of the stations' bytes; a station is the number of a switch and an address
abbrev pub Rows : Type 0
Rows = List (List ℕ × ℕ)

-- what was learned, and the idle timeout of the flows
pub record Learned : Type 0 where
  pub idle : ℕ
  pub rows : Rows

abbrev pub station : ℕ → List ℕ → List ℕ
station d address = number_bytes 8 d ++ address

abbrev pub port_at : List ℕ → Rows → Option ℕ
port_at s rows = lookup (is_at (slice_cmp nat_cmp s)) rows

-- the rows, with this one; a further station is learned while there are fewer than 65,536
unfoldable pub with_row : List ℕ → ℕ → Rows → Rows
with_row s port rows =
    if nat_lt (length rows) 65536 || is_some (port_at s rows) then insert_entry (slice_cmp nat_cmp) rows s port else rows

-- ---- Packets

-- A packet that is looked at: it is there as a whole, with an Ethernet header, and fits a PACKET_OUT.
unfoldable pub is_taken : PacketIn → Bool
is_taken p = nat_le p.total_len (length p.payload) && (nat_le 14 (length p.payload) && nat_le (length p.payload) 65511)

abbrev pub source : ℕ → PacketIn → List ℕ
source d p = station d (piece 6 6 p.payload)

abbrev pub destination : ℕ → PacketIn → List ℕ
destination d p = station d (piece 6 0 p.payload)

unfoldable pub rows_after_packet : ℕ → PacketIn → Rows → Rows
rows_after_packet d p rows = if is_taken p then with_row (source d p) p.in_port rows else rows

-- ---- Messages

abbrev pub output : ℕ → List Action
output port = Output port 0 ∷ []

-- the flow to an address: priority 1,000, an idle timeout in seconds, command ADD 0
unfoldable pub flow_to : ℕ → List ℕ → ℕ → Message
flow_to idle address port = messages.FlowMod (record {
  matching = match_of (bytes_of (record any_fields { dl_dst = Some address }));
  cookie = 0;
  command = 0;
  idle = idle;
  hard = 0;
  priority = 1000;
  buffer_id = 0xffffffff;
  out_port = 0xffff;
  flags = 0;
  actions = output port;
})

unfoldable pub packet_to : PacketIn → ℕ → Message
packet_to p port = messages.PacketOut (record { buffer_id = 0xffffffff; in_port = p.in_port; actions = output port; payload = p.payload })

abbrev pub told : ℕ → Message → AppFrame
told d m = frames.Message d (message_bytes 0 m)

-- by the known port, where that is another one than the packet came by; else by all (FLOOD 0xfffb)
abbrev pub sent_on : ℕ → ℕ → PacketIn → Option ℕ → List AppFrame
sent_on idle d p None = told d (packet_to p 0xfffb) ∷ []
sent_on idle d p (Some port) =
    if port == p.in_port then told d (packet_to p 0xfffb) ∷ []
    else told d (flow_to idle (piece 6 0 p.payload) port) ∷ told d (packet_to p port) ∷ []

unfoldable pub frames_for_packet : ℕ → ℕ → PacketIn → Rows → List AppFrame
frames_for_packet idle d p rows = if is_taken p then sent_on idle d p (port_at (destination d p) (rows_after_packet d p rows)) else []

-- ---- Events

abbrev pub packet_in : Message → Option PacketIn
packet_in (messages.PacketIn p) = Some p
packet_in other = None

abbrev pub packet_read : Result Envelope WireFault → Option PacketIn
packet_read (Ok envelope) = packet_in envelope.message
packet_read (Err fault) = None

-- the packet of an event, where it has one
abbrev pub packet_if : EventKind → List ℕ → Option PacketIn
packet_if kinds.PacketIn body = packet_read (reading_of body)
packet_if other body = None

abbrev pub packet_of : Event → Option PacketIn
packet_of event = packet_if event.kind event.body

abbrev pub rows_by : ℕ → Option PacketIn → Rows → Rows
rows_by d None rows = rows
rows_by d (Some p) rows = rows_after_packet d p rows

abbrev pub frames_by : ℕ → ℕ → Option PacketIn → Rows → List AppFrame
frames_by idle d None rows = []
frames_by idle d (Some p) rows = frames_for_packet idle d p rows

-- what was learned after an event, and the frames for it, before Done
abbrev pub rows_after : Event → Rows → Rows
rows_after event rows = rows_by event.dpid (packet_of event) rows

abbrev pub frames_for : ℕ → Event → Rows → List AppFrame
frames_for idle event rows = frames_by idle event.dpid (packet_of event) rows
