-- Reading a message: its value, or the first fault (OpenFlow 1.0.0, 5).
use Rattle.std.specs.Prelude.{◌≡◌, ℕ, zero, suc, ◌+◌, ◌-◌, ◌/◌, ◌%◌, ◌==◌, ◌&&◌, Bool, true, false, nat_lt, nat_le, if◌then◌else◌, List, [], ◌∷◌, length, drop, Option, Some, None, Result, Ok, Err}
use Rattle.of_types.specs.Fields.{number_at, piece}
use Rattle.of_types.specs.declared.port_desc.PortDesc.{PortDesc}
use Rattle.of_match.specs.Match.{match_of}
use Rattle.of_action.specs.declared.fault.ActionFault.{ActionFault}
use Rattle.of_action.specs.Reading.{◌>>=◌, actions_of}
use Rattle.of_wire.specs.declared.kind.MessageKind.{MessageKind}
use Rattle.of_wire.specs.declared.kind.MessageKind.TheVariants as kinds
use Rattle.of_wire.specs.declared.message.Message.{Message}
use Rattle.of_wire.specs.declared.message.Message.TheVariants.{Hello, Error, EchoRequest, EchoReply, Vendor, FeaturesRequest, FeaturesReply, GetConfigRequest, GetConfigReply, SetConfig, PacketIn, FlowRemoved, PortStatus, PacketOut, FlowMod, PortMod, StatsRequest, StatsReply, BarrierRequest, BarrierReply, QueueGetConfigRequest, QueueGetConfigReply}
use Rattle.of_wire.specs.declared.bodies.SwitchConfig.{SwitchConfig as Config}
use Rattle.of_wire.specs.declared.bodies.FlowRemoved.{FlowRemoved as RemovedFlow}
use Rattle.of_wire.specs.declared.bodies.PortStatus.{PortStatus as PortNews}
use Rattle.of_wire.specs.declared.bodies.PortMod.{PortMod as PortChange}
use Rattle.of_wire.specs.declared.bodies.Stats.{Stats as Statistics}
use Rattle.of_wire.specs.declared.message.Envelope.{Envelope}
use Rattle.of_wire.specs.declared.fault.WireFault.{WireFault}
use Rattle.of_wire.specs.declared.fault.WireFault.TheVariants.{BadVersion, BadType, BadLength, BadAction, NoMemory}
use Rattle.of_wire.specs.Faults.{wire_fault}
use Rattle.of_wire.specs.Kinds.{kind_of_number}

-- What a call gave is what reading gives; where memory ran out, nothing is said.
abbrev pub Fails : {Y : Type 0} → WireFault → Result Y WireFault → Type 0
Fails NoMemory read = Unit {0}
Fails BadVersion read = read ≡ Err BadVersion
Fails BadType read = read ≡ Err BadType
Fails BadLength read = read ≡ Err BadLength
Fails (BadAction place kind) read = read ≡ Err (BadAction place kind)

abbrev pub Gives : {Y : Type 0} → Result Y WireFault → Result Y WireFault → Type 0
Gives (Ok x) read = read ≡ Ok x
Gives (Err fault) read = Fails fault read

-- A test that makes no value answers as reading does: Ok where it is, and the same fault.
abbrev pub Tells : {X Y : Type 0} → Result X WireFault → Result Y WireFault → Type 0
Tells (Ok x) (Ok y) = Unit {0}
Tells (Err fault) read = read ≡ Err fault
Tells (Ok x) (Err fault) = ⊥

-- ---- the front: header, type and length

-- the lengths that the table has for a type
abbrev pub has_length : MessageKind → ℕ → Bool
has_length kinds.Hello len = nat_le 8 len
has_length kinds.Error len = nat_le 12 len
has_length kinds.EchoRequest len = nat_le 8 len
has_length kinds.EchoReply len = nat_le 8 len
has_length kinds.Vendor len = nat_le 12 len
has_length kinds.FeaturesRequest len = len == 8
has_length kinds.FeaturesReply len = nat_le 32 len && (len - 32) % 48 == 0
has_length kinds.GetConfigRequest len = len == 8
has_length kinds.GetConfigReply len = len == 12
has_length kinds.SetConfig len = len == 12
has_length kinds.PacketIn len = nat_le 18 len
has_length kinds.FlowRemoved len = len == 88
has_length kinds.PortStatus len = len == 64
has_length kinds.PacketOut len = nat_le 16 len
has_length kinds.FlowMod len = nat_le 72 len
has_length kinds.PortMod len = len == 32
has_length kinds.StatsRequest len = nat_le 12 len
has_length kinds.StatsReply len = nat_le 12 len
has_length kinds.BarrierRequest len = len == 8
has_length kinds.BarrierReply len = len == 8
has_length kinds.QueueGetConfigRequest len = len == 12
has_length kinds.QueueGetConfigReply len = nat_le 16 len

abbrev pub if_sized : List ℕ → Option MessageKind → Result MessageKind WireFault
if_sized bytes None = Err BadType
if_sized bytes (Some kind) =
    if number_at 2 2 bytes == length bytes then (if has_length kind (length bytes) then Ok kind else Err BadLength) else Err BadLength

-- First fewer bytes than a header, then the version, then the type, then the length.
unfoldable pub front_of : List ℕ → Result MessageKind WireFault
front_of bytes =
    if nat_lt (length bytes) 8 then Err BadLength
    else (if number_at 1 0 bytes == 1 then if_sized bytes (kind_of_number (number_at 1 1 bytes)) else Err BadVersion)

-- ---- the body, by its type

-- a port at the front (5.2.1 Port Structures)
abbrev pub port_of : List ℕ → PortDesc
port_of bytes = record {
  port_no = number_at 2 0 bytes;
  hw_addr = piece 6 2 bytes;
  name = piece 16 8 bytes;
  config = number_at 4 24 bytes;
  state = number_at 4 28 bytes;
  curr = number_at 4 32 bytes;
  advertised = number_at 4 36 bytes;
  supported = number_at 4 40 bytes;
  peer = number_at 4 44 bytes;
}

abbrev pub ports_of : ℕ → List ℕ → List PortDesc
ports_of zero bytes = []
ports_of (suc count) bytes = port_of bytes ∷ ports_of count (drop 48 bytes)

abbrev pub config_of : List ℕ → Config
config_of bytes = record { flags = number_at 2 8 bytes; miss_send_len = number_at 2 10 bytes }

abbrev pub flow_removed_of : List ℕ → RemovedFlow
flow_removed_of bytes = record {
  matching = match_of (piece 40 8 bytes);
  cookie = number_at 8 48 bytes;
  priority = number_at 2 56 bytes;
  reason = number_at 1 58 bytes;
  duration_sec = number_at 4 60 bytes;
  duration_nsec = number_at 4 64 bytes;
  idle_timeout = number_at 2 68 bytes;
  packet_count = number_at 8 72 bytes;
  byte_count = number_at 8 80 bytes;
}

abbrev pub port_mod_of : List ℕ → PortChange
port_mod_of bytes = record {
  port_no = number_at 2 8 bytes;
  hw_addr = piece 6 10 bytes;
  config = number_at 4 16 bytes;
  mask = number_at 4 20 bytes;
  advertise = number_at 4 24 bytes;
}

abbrev pub port_status_of : List ℕ → PortNews
port_status_of bytes = record { reason = number_at 1 8 bytes; port = port_of (drop 16 bytes) }

abbrev pub stats_of : List ℕ → Statistics
stats_of bytes = record { kind = number_at 2 8 bytes; flags = number_at 2 10 bytes; body = drop 12 bytes }

abbrev pub of_actions : {X : Type 0} → Result X ActionFault → Result X WireFault
of_actions (Ok x) = Ok x
of_actions (Err fault) = Err (wire_fault fault)

-- The actions of a PACKET_OUT end within it.
unfoldable pub packet_out_of : List ℕ → Result Message WireFault
packet_out_of bytes =
    let len = number_at 2 14 bytes in
    if nat_lt (length bytes) (16 + len) then Err BadLength
    else (of_actions (actions_of (piece len 16 bytes)) >>= λ actions. Ok (PacketOut (record {
      buffer_id = number_at 4 8 bytes;
      in_port = number_at 2 12 bytes;
      actions = actions;
      payload = drop (16 + len) bytes;
    })))

unfoldable pub flow_mod_of : List ℕ → Result Message WireFault
flow_mod_of bytes = of_actions (actions_of (drop 72 bytes)) >>= λ actions. Ok (FlowMod (record {
  matching = match_of (piece 40 8 bytes);
  cookie = number_at 8 48 bytes;
  command = number_at 2 56 bytes;
  idle = number_at 2 58 bytes;
  hard = number_at 2 60 bytes;
  priority = number_at 2 62 bytes;
  buffer_id = number_at 4 64 bytes;
  out_port = number_at 2 68 bytes;
  flags = number_at 2 70 bytes;
  actions = actions;
}))

-- the types that are bytes alone behind the header
abbrev pub has_payload_alone : MessageKind → Bool
has_payload_alone kinds.Hello = true
has_payload_alone kinds.EchoRequest = true
has_payload_alone kinds.EchoReply = true
has_payload_alone kinds.Vendor = true
has_payload_alone kinds.QueueGetConfigRequest = true
has_payload_alone kinds.QueueGetConfigReply = true
has_payload_alone other = false

unfoldable pub body_of : MessageKind → List ℕ → Result Message WireFault
body_of kinds.Hello bytes = Ok (Hello (drop 8 bytes))
body_of kinds.Error bytes = Ok (Error (number_at 2 8 bytes) (number_at 2 10 bytes) (drop 12 bytes))
body_of kinds.EchoRequest bytes = Ok (EchoRequest (drop 8 bytes))
body_of kinds.EchoReply bytes = Ok (EchoReply (drop 8 bytes))
body_of kinds.Vendor bytes = Ok (Vendor (drop 8 bytes))
body_of kinds.FeaturesRequest bytes = Ok FeaturesRequest
body_of kinds.FeaturesReply bytes = Ok (FeaturesReply (record {
  dpid = number_at 8 8 bytes;
  n_buffers = number_at 4 16 bytes;
  n_tables = number_at 1 20 bytes;
  capabilities = number_at 4 24 bytes;
  actions = number_at 4 28 bytes;
  ports = ports_of ((length bytes - 32) / 48) (drop 32 bytes);
}))
body_of kinds.GetConfigRequest bytes = Ok GetConfigRequest
body_of kinds.GetConfigReply bytes = Ok (GetConfigReply (config_of bytes))
body_of kinds.SetConfig bytes = Ok (SetConfig (config_of bytes))
body_of kinds.PacketIn bytes = Ok (PacketIn (record {
  buffer_id = number_at 4 8 bytes;
  total_len = number_at 2 12 bytes;
  in_port = number_at 2 14 bytes;
  reason = number_at 1 16 bytes;
  payload = drop 18 bytes;
}))
body_of kinds.FlowRemoved bytes = Ok (FlowRemoved (flow_removed_of bytes))
body_of kinds.PortStatus bytes = Ok (PortStatus (port_status_of bytes))
body_of kinds.PacketOut bytes = packet_out_of bytes
body_of kinds.FlowMod bytes = flow_mod_of bytes
body_of kinds.PortMod bytes = Ok (PortMod (port_mod_of bytes))
body_of kinds.StatsRequest bytes = Ok (StatsRequest (stats_of bytes))
body_of kinds.StatsReply bytes = Ok (StatsReply (stats_of bytes))
body_of kinds.BarrierRequest bytes = Ok BarrierRequest
body_of kinds.BarrierReply bytes = Ok BarrierReply
body_of kinds.QueueGetConfigRequest bytes = Ok (QueueGetConfigRequest (drop 8 bytes))
body_of kinds.QueueGetConfigReply bytes = Ok (QueueGetConfigReply (drop 8 bytes))

-- ---- the message

unfoldable pub reading_of : List ℕ → Result Envelope WireFault
reading_of bytes = do
  kind ← front_of bytes
  message ← body_of kind bytes
  Ok (record { xid = number_at 4 4 bytes; message = message })
