-- The fields of a frame that matches are held against (OpenFlow 1.0.0, 3.4 Matching), layer by layer.
-- A field of a layer that the frame does not have is 0, but for dl_vlan, which is 0xffff.
use Rattle.std.specs.Prelude.{◌==◌, ℕ, ◌+◌, ◌*◌, ◌/◌, List, length, replicate, Option, Some, None, nat_le, if◌then◌else◌}
use Rattle.of_types.specs.Fields.{number_at, piece}
use Rattle.of_match.specs.declared.packet_key.PacketKey.{PacketKey}
use Rattle.eth_key.specs.declared.ethernet.Payload.{Payload}
use Rattle.eth_key.specs.declared.ipv4.Ipv4Header.{Ipv4Header}
use Rattle.eth_key.specs.declared.network.Ports.{Ports}
use Rattle.eth_key.specs.declared.network.Network.{Network}
use Rattle.eth_key.specs.Ethernet.{vlan_of, priority_of, payload_of}
use Rattle.eth_key.specs.Ipv4.{header_at, protocol, has_ports, has_icmp}

-- ---- Transport: the ports of TCP and UDP, or ICMP's type and code.

unfoldable pub ports_of : Ipv4Header → List ℕ → Ports
ports_of header frame =
    if has_ports header frame then record { tp_src = number_at 2 header.end frame; tp_dst = number_at 2 (header.end + 2) frame }
    else (if has_icmp header frame then record { tp_src = number_at 1 header.end frame; tp_dst = number_at 1 (header.end + 1) frame }
    else record { tp_src = 0; tp_dst = 0 })

-- ---- Network: IPv4 (RFC 791, 3.1), whose type of service counts without its low 2 bits, or ARP (RFC 826, Packet format).

abbrev pub no_network : Network
no_network = record { nw_tos = 0; nw_proto = 0; nw_src = 0; nw_dst = 0; ports = record { tp_src = 0; tp_dst = 0 } }

unfoldable pub ipv4_fields : Ipv4Header → List ℕ → Network
ipv4_fields header frame = record {
  nw_tos = number_at 1 (header.start + 1) frame / 4 * 4;
  nw_proto = protocol header frame;
  nw_src = number_at 4 (header.start + 12) frame;
  nw_dst = number_at 4 (header.start + 16) frame;
  ports = ports_of header frame;
}

abbrev pub ipv4_network : Option Ipv4Header → List ℕ → Network
ipv4_network None frame = no_network
ipv4_network (Some header) frame = ipv4_fields header frame

-- the low byte of the operation, and the protocol addresses of the sender and the target
unfoldable pub arp_network : ℕ → List ℕ → Network
arp_network start frame =
    if nat_le (start + 28) (length frame)
    then record {
      nw_tos = 0;
      nw_proto = number_at 1 (start + 7) frame;
      nw_src = number_at 4 (start + 14) frame;
      nw_dst = number_at 4 (start + 24) frame;
      ports = record { tp_src = 0; tp_dst = 0 };
    }
    else no_network

unfoldable pub network_in : Payload → List ℕ → Network
network_in payload frame =
    if payload.dl_type == 0x0800 then ipv4_network (header_at payload.start frame) frame
    else (if payload.dl_type == 0x0806 then arp_network payload.start frame else no_network)

-- ---- The whole.

unfoldable pub key_from : ℕ → List ℕ → Payload → Network → PacketKey
key_from port frame payload network = record {
  in_port = port;
  dl_src = piece 6 6 frame;
  dl_dst = piece 6 0 frame;
  dl_vlan = vlan_of frame;
  dl_vlan_pcp = priority_of frame;
  dl_type = payload.dl_type;
  nw_tos = network.nw_tos;
  nw_proto = network.nw_proto;
  nw_src = network.nw_src;
  nw_dst = network.nw_dst;
  tp_src = network.ports.tp_src;
  tp_dst = network.ports.tp_dst;
}

unfoldable pub key_without_header : ℕ → PacketKey
key_without_header port = record {
  in_port = port;
  dl_src = replicate 6 0;
  dl_dst = replicate 6 0;
  dl_vlan = 0xffff;
  dl_vlan_pcp = 0;
  dl_type = 0;
  nw_tos = 0;
  nw_proto = 0;
  nw_src = 0;
  nw_dst = 0;
  tp_src = 0;
  tp_dst = 0;
}

abbrev pub key_in : ℕ → List ℕ → Option Payload → PacketKey
key_in port frame None = key_without_header port
key_in port frame (Some payload) = key_from port frame payload (network_in payload frame)

-- The key of a frame that came in by a port.
abbrev pub key_of : ℕ → List ℕ → PacketKey
key_of port frame = key_in port frame (payload_of frame)
