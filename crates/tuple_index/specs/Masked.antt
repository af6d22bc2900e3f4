-- Of the matches of one group at most one covers a packet: the one that has the packet's values wherever the group's wildcards leave a
-- field (OpenFlow 1.0.0, 3.4 Matching).
use Rattle.std.specs.Prelude.{ℕ, Option}
use Rattle.std.specs.Option.{option_map}
use Rattle.of_match.specs.declared.fields.Fields.{Fields}
use Rattle.of_match.specs.declared.packet_key.PacketKey.{PacketKey}

-- the value of a packet, where the field is not any
abbrev pub filled : {A : Type 0} → Option A → A → Option A
filled field value = option_map (λ _. value) field

-- the address of a packet with the length of the prefix, where the field is not any
abbrev pub filled_prefix : Option (ℕ × ℕ) → ℕ → Option (ℕ × ℕ)
filled_prefix field address = option_map (λ p. (address, p.1)) field

-- the values of a packet in the fields that are not any
unfoldable pub masked : Fields → PacketKey → Fields
masked f k = record {
  in_port = filled f.in_port k.in_port;
  dl_src = filled f.dl_src k.dl_src;
  dl_dst = filled f.dl_dst k.dl_dst;
  dl_vlan = filled f.dl_vlan k.dl_vlan;
  dl_vlan_pcp = filled f.dl_vlan_pcp k.dl_vlan_pcp;
  dl_type = filled f.dl_type k.dl_type;
  nw_tos = filled f.nw_tos k.nw_tos;
  nw_proto = filled f.nw_proto k.nw_proto;
  nw_src = filled_prefix f.nw_src k.nw_src;
  nw_dst = filled_prefix f.nw_dst k.nw_dst;
  tp_src = filled f.tp_src k.tp_src;
  tp_dst = filled f.tp_dst k.tp_dst;
}
