-- Which packet keys a match covers: those with which each field that is not any agrees, an address on its prefix.
-- OpenFlow 1.0.0, 3.4 Matching and 5.2.3 Flow Match Structures.
use Rattle.std.specs.Prelude.{◌≡◌, ◌==◌, ℕ, ◌-◌, ◌/◌, ◌^◌, Bool, true, ◌&&◌, List, Option, Some, None, IfSome}
use Rattle.std.specs.Str.{bytes_eq}
use Rattle.of_match.specs.declared.fields.Fields.{Fields}
use Rattle.of_match.specs.declared.flow_match.Match.{Match}
use Rattle.of_match.specs.declared.packet_key.PacketKey.{PacketKey}
use Rattle.of_match.specs.Match.{fields_in}

abbrev pub Agrees : {A : Type 0} → Option A → A → Type 0
Agrees field value = IfSome field (λ wanted. value ≡ wanted)

-- the address without the low bits that the prefix ignores
abbrev pub AgreesOnPrefix : Option (ℕ × ℕ) → ℕ → Type 0
AgreesOnPrefix field address = IfSome field (λ network. address / 2 ^ (32 - network.1) ≡ network.0 / 2 ^ (32 - network.1))

pub record LinkCovers (f : Fields) (k : PacketKey) : Type 0 where
  pub in_port : Agrees f.in_port k.in_port
  pub dl_src : Agrees f.dl_src k.dl_src
  pub dl_dst : Agrees f.dl_dst k.dl_dst
  pub dl_vlan : Agrees f.dl_vlan k.dl_vlan

pub record FrameCovers (f : Fields) (k : PacketKey) : Type 0 where
  pub dl_vlan_pcp : Agrees f.dl_vlan_pcp k.dl_vlan_pcp
  pub dl_type : Agrees f.dl_type k.dl_type
  pub nw_tos : Agrees f.nw_tos k.nw_tos
  pub nw_proto : Agrees f.nw_proto k.nw_proto

pub record NetworkCovers (f : Fields) (k : PacketKey) : Type 0 where
  pub nw_src : AgreesOnPrefix f.nw_src k.nw_src
  pub nw_dst : AgreesOnPrefix f.nw_dst k.nw_dst
  pub tp_src : Agrees f.tp_src k.tp_src
  pub tp_dst : Agrees f.tp_dst k.tp_dst

pub record FieldsCover (f : Fields) (k : PacketKey) : Type 0 where
  pub link : LinkCovers f k
  pub frame : FrameCovers f k
  pub network : NetworkCovers f k

abbrev pub Covers : Match → PacketKey → Type 0
Covers m k = FieldsCover (fields_in m) k

-- ---- The same as a test, for filters and searches.

abbrev pub agrees : Option ℕ → ℕ → Bool
agrees None value = true
agrees (Some wanted) value = value == wanted

abbrev pub address_agrees : Option (List ℕ) → List ℕ → Bool
address_agrees None value = true
address_agrees (Some wanted) value = bytes_eq value wanted

abbrev pub agrees_on_prefix : Option (ℕ × ℕ) → ℕ → Bool
agrees_on_prefix None address = true
agrees_on_prefix (Some network) address = address / 2 ^ (32 - network.1) == network.0 / 2 ^ (32 - network.1)

abbrev pub link_agrees : Fields → PacketKey → Bool
link_agrees f k = agrees f.in_port k.in_port && address_agrees f.dl_src k.dl_src && address_agrees f.dl_dst k.dl_dst && agrees f.dl_vlan k.dl_vlan

abbrev pub frame_agrees : Fields → PacketKey → Bool
frame_agrees f k = agrees f.dl_vlan_pcp k.dl_vlan_pcp && agrees f.dl_type k.dl_type && agrees f.nw_tos k.nw_tos && agrees f.nw_proto k.nw_proto

abbrev pub network_agrees : Fields → PacketKey → Bool
network_agrees f k = agrees_on_prefix f.nw_src k.nw_src && agrees_on_prefix f.nw_dst k.nw_dst && agrees f.tp_src k.tp_src && agrees f.tp_dst k.tp_dst

unfoldable pub fields_agree : Fields → PacketKey → Bool
fields_agree f k = link_agrees f k && frame_agrees f k && network_agrees f k

abbrev pub is_covering : Match → PacketKey → Bool
is_covering m k = fields_agree (fields_in m) k
