-- The twelve fields of a packet that matches are held against.
-- OpenFlow 1.0.0, 3.4 Matching.
use Rattle.std.specs.Prelude.{◌^◌, ◌<◌}
use Rattle.of_match.specs.declared.packet_key.PacketKey.{PacketKey}
use Rattle.of_match.specs.Fields.{IsAddress}

-- Each field is within its width on the wire. What is said of every packet key is said of these.
pub record IsPacketKey (k : PacketKey) : Type 0 where
  pub in_port : k.in_port < 2 ^ 16
  pub dl_src : IsAddress k.dl_src
  pub dl_dst : IsAddress k.dl_dst
  pub dl_vlan : k.dl_vlan < 2 ^ 16
  pub dl_vlan_pcp : k.dl_vlan_pcp < 2 ^ 8
  pub dl_type : k.dl_type < 2 ^ 16
  pub nw_tos : k.nw_tos < 2 ^ 8
  pub nw_proto : k.nw_proto < 2 ^ 8
  pub nw_src : k.nw_src < 2 ^ 32
  pub nw_dst : k.nw_dst < 2 ^ 32
  pub tp_src : k.tp_src < 2 ^ 16
  pub tp_dst : k.tp_dst < 2 ^ 16
