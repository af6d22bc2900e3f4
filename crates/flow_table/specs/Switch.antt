-- The state of a simulated switch, and how it describes itself (OpenFlow 1.0.0, 2 Switch Components, 5.2.1 Port Structures and
-- 5.3.1 Handshake). The texts and numbers of the descriptions, and that a switch joins with an empty table and zero counts, are
-- our own choice. Whether a switch is joined is said one level above: where it is not, there is no state.
use Rattle.std.specs.Prelude.{◌==◌, ℕ, ◌-◌, ◌%◌, ◌^◌, Bool, true, not, List, [], ◌∷◌, ◌++◌, length, map, replicate, codes, bit_and, Option, Some, None, nat_lt, if◌then◌else◌}
use Rattle.std.specs.Fmt.{decimal}
use Rattle.of_types.specs.Fields.{number_bytes}
use Rattle.of_types.specs.declared.port_desc.PortDesc.{PortDesc}
use Rattle.of_wire.specs.declared.bodies.FeaturesReply.{FeaturesReply as Features}
use Rattle.of_wire.specs.declared.bodies.SwitchConfig.{SwitchConfig}
use Rattle.of_wire.specs.declared.message.Message.TheVariants.{FeaturesReply}
use Rattle.of_wire.specs.Spelling.{message_bytes}
use Rattle.flow_table.specs.Table.{TableState, empty_table}
use Rattle.of_types.specs.Membership.{is_among}

-- ---- The state

-- what a switch is declared to be: its number, how many entries its table takes, and the ports with which it joins, ascending
pub record Declared : Type 0 where
  pub dpid : ℕ
  pub cap : ℕ
  pub ports : List ℕ

-- a port: whether it has a link, its config, and what it counts
pub record PortState : Type 0 where
  pub number : ℕ
  pub link : Bool
  pub config : ℕ
  pub rx_packets : ℕ
  pub rx_bytes : ℕ
  pub tx_packets : ℕ
  pub tx_bytes : ℕ
  pub tx_dropped : ℕ

-- A switch that is joined: its ports ascend, `had` are the numbers that were ports at any time since it joined, and of the packets
-- that were looked up in the table some hit an entry.
pub record SwitchState : Type 0 where
  pub declared : Declared
  pub moment : ℕ
  pub table : TableState
  pub ports : List PortState
  pub had : List ℕ
  pub config : SwitchConfig
  pub lookups : ℕ
  pub matched : ℕ

-- ---- Numbers of ports that are none, and how many ports there may be (the last is our own choice)

abbrev pub in_port_number : ℕ
in_port_number = 0xfff8

abbrev pub table_number : ℕ
table_number = 0xfff9

abbrev pub flood_number : ℕ
flood_number = 0xfffb

abbrev pub all_number : ℕ
all_number = 0xfffc

abbrev pub controller_number : ℕ
controller_number = 0xfffd

abbrev pub none_number : ℕ
none_number = 0xffff

abbrev pub most_ports : ℕ
most_ports = 64

-- ---- Bits of a config (5.2.1): PORT_DOWN 0x01, NO_RECV 0x04, NO_FLOOD 0x10, NO_FWD 0x20, NO_PACKET_IN 0x40

unfoldable pub has_bit : ℕ → ℕ → Bool
has_bit bit config = not (bit_and config bit == 0)

abbrev pub is_down : PortState → Bool
is_down p = has_bit 0x01 p.config

abbrev pub has_no_recv : PortState → Bool
has_no_recv p = has_bit 0x04 p.config

abbrev pub has_no_flood : PortState → Bool
has_no_flood p = has_bit 0x10 p.config

abbrev pub has_no_fwd : PortState → Bool
has_no_fwd p = has_bit 0x20 p.config

abbrev pub has_no_packet_in : PortState → Bool
has_no_packet_in p = has_bit 0x40 p.config

-- ---- The switch as it joins

abbrev pub new_port : ℕ → PortState
new_port number = record {
  number = number;
  link = true;
  config = 0;
  rx_packets = 0;
  rx_bytes = 0;
  tx_packets = 0;
  tx_bytes = 0;
  tx_dropped = 0;
}

-- the configuration at first: no flags, and 128 bytes of a packet that is missed (5.3.2 Switch Configuration)
abbrev pub first_config : SwitchConfig
first_config = record { flags = 0; miss_send_len = 128 }

-- a declared switch that joins at a moment
abbrev pub joined_at : ℕ → Declared → SwitchState
joined_at moment d = record {
  declared = d;
  moment = moment;
  table = empty_table;
  ports = map new_port d.ports;
  had = d.ports;
  config = first_config;
  lookups = 0;
  matched = 0;
}

-- ---- Ports by their numbers

abbrev pub port_at : ℕ → List PortState → Option PortState
port_at number [] = None
port_at number (p ∷ ps) = if p.number == number then Some p else port_at number ps

-- the ports, the one of a number changed
abbrev pub with_port : ℕ → (PortState → PortState) → List PortState → List PortState
with_port number change ps = map (λ p. if p.number == number then change p else p) ps

-- a port among others in the order of their numbers
abbrev pub insert_port : PortState → List PortState → List PortState
insert_port p [] = p ∷ []
insert_port p (q ∷ qs) = if nat_lt p.number q.number then p ∷ q ∷ qs else q ∷ insert_port p qs

-- the numbers that were a port at some time since the switch joined, with one more
abbrev pub with_number : ℕ → List ℕ → List ℕ
with_number number had = if is_among number had then had else had ++ number ∷ []

-- ---- Descriptions

abbrev pub padded : ℕ → List ℕ → List ℕ
padded size text = text ++ replicate (size - length text) 0

-- 02 and 00, the low 16 bits of the switch's number, and the port's
unfoldable pub hw_addr : ℕ → ℕ → List ℕ
hw_addr dpid number = 2 ∷ 0 ∷ number_bytes 2 (dpid % 2 ^ 16) ++ number_bytes 2 number

-- `p` and the number
unfoldable pub port_name : ℕ → List ℕ
port_name number = padded 16 (codes "p" ++ decimal number)

-- a port as its switch describes it; LINK_DOWN is bit 0 of the state
abbrev pub port_desc : ℕ → PortState → PortDesc
port_desc dpid p = record {
  port_no = p.number;
  hw_addr = hw_addr dpid p.number;
  name = port_name p.number;
  config = p.config;
  state = if p.link then 0 else 1;
  curr = 0;
  advertised = 0;
  supported = 0;
  peer = 0;
}

-- No buffers, one table; flow, table and port statistics, and addresses of ARP are matched; all actions but ENQUEUE and VENDOR
-- (5.3.1 Handshake: ofp_capabilities, and a bit for each action).
abbrev pub features_of : SwitchState → Features
features_of s = record {
  dpid = s.declared.dpid;
  n_buffers = 0;
  n_tables = 1;
  capabilities = 0x87;
  actions = 0x7ff;
  ports = map (port_desc s.declared.dpid) s.ports;
}

abbrev pub features_reply : ℕ → SwitchState → List ℕ
features_reply xid s = message_bytes xid (FeaturesReply (features_of s))
