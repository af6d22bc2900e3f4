-- Frames in a simulated switch: those that are put out, those that are looked up in the table, those that a PACKET_OUT carries, and
-- those that arrive (OpenFlow 1.0.0, 3.3 Actions, 3.4 Matching, 5.3.6 Send Packet Message and 5.4.1 Packet-In Message). What a frame
-- does to the state and what the switch sends to the controller are functions of their own. Counters are modulo 2^64, and CONTROLLER
-- is sent the whole frame whatever its max_len is; both are our own choice.
use Rattle.std.specs.Prelude.{◌==◌, ℕ, ◌+◌, ◌%◌, ◌^◌, Bool, true, false, not, ◌&&◌, List, [], ◌∷◌, ◌++◌, length, map, Option, Some, None, if◌then◌else◌}
use Rattle.std.specs.List.{flat_map}
use Rattle.of_wire.specs.declared.bodies.PacketOut.{PacketOut as PacketOutBody}
use Rattle.of_wire.specs.declared.message.Message.TheVariants.{PacketIn}
use Rattle.of_wire.specs.Spelling.{message_bytes}
use Rattle.eth_key.specs.PacketFields.{key_of}
use Rattle.frame_edit.specs.Edits.{outputs}
use Rattle.flow_table.specs.declared.entry.Entry.{Entry}
use Rattle.flow_table.specs.Hit.{best, hit}
use Rattle.flow_table.specs.Switch.{PortState, SwitchState, in_port_number, table_number, flood_number, all_number, controller_number, is_down, has_no_recv, has_no_flood, has_no_fwd, has_no_packet_in, port_at, with_port}
use Rattle.flow_table.specs.Refusals.{no_buffer}

-- so many more, modulo 2^64
abbrev pub plus : ℕ → ℕ → ℕ
plus count more = (count + more) % 2 ^ 64

-- ---- PACKET_IN (5.4.1): the whole frame, in no buffer; NO_MATCH is 0 and ACTION is 1.

unfoldable pub packet_in : ℕ → ℕ → List ℕ → List ℕ
packet_in reason in_port frame = message_bytes 0 (PacketIn (record {
  buffer_id = no_buffer;
  total_len = length frame;
  in_port = in_port;
  reason = reason;
  payload = frame;
}))

-- ---- An output (3.3 Actions, 5.2.4 Flow Action Structures): of a frame that came in by one port, to a number

-- Whether an output goes out by a port: IN_PORT by the one that the frame came in by, ALL by all others, FLOOD by those of them
-- without NO_FLOOD, and a port's number by that port, unless the frame came in there. A port that is missing takes nothing.
unfoldable pub goes_out_by : ℕ → ℕ → PortState → Bool
goes_out_by in_port to p =
    if to == in_port_number then p.number == in_port
    else if p.number == in_port then false
    else if to == all_number then true
    else if to == flood_number then not (has_no_flood p)
    else p.number == to

-- a frame of so many bytes is sent, or dropped where the port has no link, is down, or has NO_FWD
unfoldable pub after_frame_out : ℕ → PortState → PortState
after_frame_out len p =
    if p.link && not (is_down p) && not (has_no_fwd p)
    then record p { tx_packets = plus p.tx_packets 1; tx_bytes = plus p.tx_bytes len }
    else record p { tx_dropped = plus p.tx_dropped 1 }

-- the ports after an output
unfoldable pub ports_after_output : ℕ → ℕ → ℕ → List PortState → List PortState
ports_after_output in_port to len ports = map (λ p. if goes_out_by in_port to p then after_frame_out len p else p) ports

-- an output is a number and a frame
abbrev pub after_output : ℕ → ℕ × List ℕ → SwitchState → SwitchState
after_output in_port output s = record s { ports = ports_after_output in_port output.0 (length output.1) s.ports }

-- CONTROLLER sends the frame to the controller.
unfoldable pub sent_by_output : ℕ → ℕ × List ℕ → List (List ℕ)
sent_by_output in_port output = if output.0 == controller_number then packet_in 1 in_port output.1 ∷ [] else []

-- outputs, one after the other
unfoldable pub after_outputs : ℕ → List (ℕ × List ℕ) → SwitchState → SwitchState
after_outputs in_port [] s = s
after_outputs in_port (output ∷ more) s = after_outputs in_port more (after_output in_port output s)

unfoldable pub sent_by_outputs : ℕ → List (ℕ × List ℕ) → List (List ℕ)
sent_by_outputs in_port more = flat_map (sent_by_output in_port) more

-- ---- The table (3.4 Matching): a lookup counts, a hit counts at the table and at the entry, whose actions are then done.

-- the outputs of the entry that was hit
abbrev pub hit_outputs : Option Entry → List ℕ → List (ℕ × List ℕ)
hit_outputs None frame = []
hit_outputs (Some e) frame = outputs e.actions frame

abbrev pub hit_count : Option Entry → ℕ
hit_count None = 0
hit_count (Some e) = 1

-- the entry that a frame hits which came in by a port
abbrev pub entry_hit : ℕ → List ℕ → SwitchState → Option Entry
entry_hit in_port frame s = best (key_of in_port frame) s.table.entries

-- the counts after a lookup, before any action
unfoldable pub after_counts : ℕ → List ℕ → SwitchState → SwitchState
after_counts in_port frame s = record s {
  table = record s.table { entries = hit (key_of in_port frame) (length frame) s.moment s.table.entries };
  lookups = plus s.lookups 1;
  matched = plus s.matched (hit_count (entry_hit in_port frame s));
}

unfoldable pub after_lookup : ℕ → List ℕ → SwitchState → SwitchState
after_lookup in_port frame s = after_outputs in_port (hit_outputs (entry_hit in_port frame s) frame) (after_counts in_port frame s)

-- Whether a miss is kept from the controller: by NO_PACKET_IN of the port that the frame came in by, where that port is there.
abbrev pub is_silent : Option PortState → Bool
is_silent None = false
is_silent (Some p) = has_no_packet_in p

unfoldable pub sent_by_miss : ℕ → List ℕ → List PortState → List (List ℕ)
sent_by_miss in_port frame ports = if is_silent (port_at in_port ports) then [] else packet_in 0 in_port frame ∷ []

abbrev pub sent_by_hit : ℕ → List ℕ → List PortState → Option Entry → List (List ℕ)
sent_by_hit in_port frame ports None = sent_by_miss in_port frame ports
sent_by_hit in_port frame ports (Some e) = sent_by_outputs in_port (outputs e.actions frame)

unfoldable pub sent_by_lookup : ℕ → List ℕ → SwitchState → List (List ℕ)
sent_by_lookup in_port frame s = sent_by_hit in_port frame s.ports (entry_hit in_port frame s)

-- ---- PACKET_OUT (5.3.6): its outputs in order; TABLE looks the frame up as it is edited so far.

unfoldable pub after_packet_output : ℕ → ℕ × List ℕ → SwitchState → SwitchState
after_packet_output in_port output s =
    if output.0 == table_number then after_lookup in_port output.1 s else after_output in_port output s

unfoldable pub sent_by_packet_output : ℕ → ℕ × List ℕ → SwitchState → List (List ℕ)
sent_by_packet_output in_port output s =
    if output.0 == table_number then sent_by_lookup in_port output.1 s else sent_by_output in_port output

unfoldable pub after_packet_outputs : ℕ → List (ℕ × List ℕ) → SwitchState → SwitchState
after_packet_outputs in_port [] s = s
after_packet_outputs in_port (output ∷ more) s = after_packet_outputs in_port more (after_packet_output in_port output s)

unfoldable pub sent_by_packet_outputs : ℕ → List (ℕ × List ℕ) → SwitchState → List (List ℕ)
sent_by_packet_outputs in_port [] s = []
sent_by_packet_outputs in_port (output ∷ more) s =
    sent_by_packet_output in_port output s ++ sent_by_packet_outputs in_port more (after_packet_output in_port output s)

abbrev pub after_packet_out : PacketOutBody → SwitchState → SwitchState
after_packet_out m s = after_packet_outputs m.in_port (outputs m.actions m.payload) s

abbrev pub sent_by_packet_out : PacketOutBody → SwitchState → List (List ℕ)
sent_by_packet_out m s = sent_by_packet_outputs m.in_port (outputs m.actions m.payload) s

-- ---- A frame that arrives (5.2.1 Port Structures): it is dropped where its port is missing, has no link, is down, or has NO_RECV.

unfoldable pub takes : Option PortState → Bool
takes None = false
takes (Some p) = p.link && not (is_down p) && not (has_no_recv p)

abbrev pub after_frame_in : ℕ → PortState → PortState
after_frame_in len p = record p { rx_packets = plus p.rx_packets 1; rx_bytes = plus p.rx_bytes len }

-- the switch after its port has counted the frame
abbrev pub after_arrival : ℕ → List ℕ → SwitchState → SwitchState
after_arrival in_port frame s = record s { ports = with_port in_port (after_frame_in (length frame)) s.ports }

unfoldable pub after_frame : ℕ → List ℕ → SwitchState → SwitchState
after_frame in_port frame s =
    if takes (port_at in_port s.ports) then after_lookup in_port frame (after_arrival in_port frame s) else s

unfoldable pub sent_by_frame : ℕ → List ℕ → SwitchState → List (List ℕ)
sent_by_frame in_port frame s = if takes (port_at in_port s.ports) then sent_by_lookup in_port frame s else []
