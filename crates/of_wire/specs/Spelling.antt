-- The one spelling of each message: a header, for some a match, fields, and what follows to the end (OpenFlow 1.0.0, 5).
use Rattle.std.specs.Prelude.{ℕ, ◌+◌, ◌*◌, List, [], ◌∷◌, ◌++◌, length, Option, Some, None}
use Rattle.std.specs.List.{flat_map}
use Rattle.of_types.specs.Layout.{Field, number, raw, pad, spelled, width}
use Rattle.of_types.specs.declared.port_desc.PortDesc.{PortDesc}
use Rattle.of_match.specs.declared.flow_match.Match.{Match}
use Rattle.of_match.specs.Fields.{bytes_of}
use Rattle.of_match.specs.Match.{fields_in}
use Rattle.of_action.specs.Spelling.{list_bytes, list_size}
use Rattle.of_wire.specs.declared.kind.MessageKind.{MessageKind}
use Rattle.of_wire.specs.declared.kind.MessageKind.TheVariants as kinds
use Rattle.of_wire.specs.declared.message.Message.{Message}
use Rattle.of_wire.specs.declared.message.Message.TheVariants.{Hello, Error, EchoRequest, EchoReply, Vendor, FeaturesRequest, FeaturesReply, GetConfigRequest, GetConfigReply, SetConfig, PacketIn, FlowRemoved, PortStatus, PacketOut, FlowMod, PortMod, StatsRequest, StatsReply, BarrierRequest, BarrierReply, QueueGetConfigRequest, QueueGetConfigReply}
use Rattle.of_wire.specs.Kinds.{number_of_kind}

abbrev pub kind_of : Message → MessageKind
kind_of (Hello payload) = kinds.Hello
kind_of (Error kind code payload) = kinds.Error
kind_of (EchoRequest payload) = kinds.EchoRequest
kind_of (EchoReply payload) = kinds.EchoReply
kind_of (Vendor payload) = kinds.Vendor
kind_of FeaturesRequest = kinds.FeaturesRequest
kind_of (FeaturesReply features) = kinds.FeaturesReply
kind_of GetConfigRequest = kinds.GetConfigRequest
kind_of (GetConfigReply config) = kinds.GetConfigReply
kind_of (SetConfig config) = kinds.SetConfig
kind_of (PacketIn packet) = kinds.PacketIn
kind_of (FlowRemoved flow) = kinds.FlowRemoved
kind_of (PortStatus status) = kinds.PortStatus
kind_of (PacketOut packet) = kinds.PacketOut
kind_of (FlowMod flow) = kinds.FlowMod
kind_of (PortMod port) = kinds.PortMod
kind_of (StatsRequest stats) = kinds.StatsRequest
kind_of (StatsReply stats) = kinds.StatsReply
kind_of BarrierRequest = kinds.BarrierRequest
kind_of BarrierReply = kinds.BarrierReply
kind_of (QueueGetConfigRequest payload) = kinds.QueueGetConfigRequest
kind_of (QueueGetConfigReply payload) = kinds.QueueGetConfigReply

-- ---- the header (5.1 OpenFlow Header)

abbrev pub header_fields : MessageKind → ℕ → ℕ → List Field
header_fields kind size xid = number 1 1 ∷ number 1 (number_of_kind kind) ∷ number 2 size ∷ number 4 xid ∷ []

-- ---- the match, right behind the header where there is one (5.2.3 Flow Match Structures)

abbrev pub matching_in : Message → Option Match
matching_in (FlowRemoved flow) = Some flow.matching
matching_in (FlowMod flow) = Some flow.matching
matching_in other = None

abbrev pub match_bytes : Option Match → List ℕ
match_bytes None = []
match_bytes (Some matching) = bytes_of (fields_in matching)

abbrev pub match_size : Option Match → ℕ
match_size None = 0
match_size (Some matching) = 40

-- ---- the other fields

-- a port of 48 bytes (5.2.1 Port Structures)
abbrev pub port_fields : PortDesc → List Field
port_fields port =
    number 2 port.port_no ∷ raw 6 port.hw_addr ∷ raw 16 port.name ∷ number 4 port.config ∷ number 4 port.state
    ∷ number 4 port.curr ∷ number 4 port.advertised ∷ number 4 port.supported ∷ number 4 port.peer ∷ []

abbrev pub body_fields : Message → List Field
body_fields (Error kind code payload) = number 2 kind ∷ number 2 code ∷ []
body_fields (FeaturesReply features) =
    number 8 features.dpid ∷ number 4 features.n_buffers ∷ number 1 features.n_tables ∷ pad 3
    ∷ number 4 features.capabilities ∷ number 4 features.actions ∷ []
body_fields (GetConfigReply config) = number 2 config.flags ∷ number 2 config.miss_send_len ∷ []
body_fields (SetConfig config) = number 2 config.flags ∷ number 2 config.miss_send_len ∷ []
body_fields (PacketIn packet) =
    number 4 packet.buffer_id ∷ number 2 packet.total_len ∷ number 2 packet.in_port ∷ number 1 packet.reason ∷ pad 1 ∷ []
body_fields (FlowRemoved flow) =
    number 8 flow.cookie ∷ number 2 flow.priority ∷ number 1 flow.reason ∷ pad 1
    ∷ number 4 flow.duration_sec ∷ number 4 flow.duration_nsec ∷ number 2 flow.idle_timeout ∷ pad 2
    ∷ number 8 flow.packet_count ∷ number 8 flow.byte_count ∷ []
body_fields (PortStatus status) = number 1 status.reason ∷ pad 7 ∷ port_fields status.port
body_fields (PacketOut packet) = number 4 packet.buffer_id ∷ number 2 packet.in_port ∷ number 2 (list_size packet.actions) ∷ []
body_fields (FlowMod flow) =
    number 8 flow.cookie ∷ number 2 flow.command ∷ number 2 flow.idle ∷ number 2 flow.hard ∷ number 2 flow.priority
    ∷ number 4 flow.buffer_id ∷ number 2 flow.out_port ∷ number 2 flow.flags ∷ []
body_fields (PortMod port) =
    number 2 port.port_no ∷ raw 6 port.hw_addr ∷ number 4 port.config ∷ number 4 port.mask ∷ number 4 port.advertise ∷ pad 4 ∷ []
body_fields (StatsRequest stats) = number 2 stats.kind ∷ number 2 stats.flags ∷ []
body_fields (StatsReply stats) = number 2 stats.kind ∷ number 2 stats.flags ∷ []
body_fields other = []

-- ---- what follows to the end

abbrev pub ports_bytes : List PortDesc → List ℕ
ports_bytes ports = flat_map (λ port. spelled (port_fields port)) ports

abbrev pub tail_bytes : Message → List ℕ
tail_bytes (Hello payload) = payload
tail_bytes (Error kind code payload) = payload
tail_bytes (EchoRequest payload) = payload
tail_bytes (EchoReply payload) = payload
tail_bytes (Vendor payload) = payload
tail_bytes (FeaturesReply features) = ports_bytes features.ports
tail_bytes (PacketIn packet) = packet.payload
tail_bytes (PacketOut packet) = list_bytes packet.actions ++ packet.payload
tail_bytes (FlowMod flow) = list_bytes flow.actions
tail_bytes (StatsRequest stats) = stats.body
tail_bytes (StatsReply stats) = stats.body
tail_bytes (QueueGetConfigRequest payload) = payload
tail_bytes (QueueGetConfigReply payload) = payload
tail_bytes other = []

abbrev pub tail_size : Message → ℕ
tail_size (Hello payload) = length payload
tail_size (Error kind code payload) = length payload
tail_size (EchoRequest payload) = length payload
tail_size (EchoReply payload) = length payload
tail_size (Vendor payload) = length payload
tail_size (FeaturesReply features) = 48 * length features.ports
tail_size (PacketIn packet) = length packet.payload
tail_size (PacketOut packet) = list_size packet.actions + length packet.payload
tail_size (FlowMod flow) = list_size flow.actions
tail_size (StatsRequest stats) = length stats.body
tail_size (StatsReply stats) = length stats.body
tail_size (QueueGetConfigRequest payload) = length payload
tail_size (QueueGetConfigReply payload) = length payload
tail_size other = 0

-- ---- the message

-- how many bytes a message takes
unfoldable pub message_size : Message → ℕ
message_size message = (8 + match_size (matching_in message)) + width (body_fields message) + tail_size message

-- all but the header
unfoldable pub body_bytes : Message → List ℕ
body_bytes message = match_bytes (matching_in message) ++ (spelled (body_fields message) ++ tail_bytes message)

unfoldable pub message_bytes : ℕ → Message → List ℕ
message_bytes xid message = spelled (header_fields (kind_of message) (message_size message) xid) ++ body_bytes message
