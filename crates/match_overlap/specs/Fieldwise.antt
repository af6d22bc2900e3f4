-- The relations of matches, field by field.
-- OpenFlow 1.0.0, 3.4 Matching and 4.6 Flow Table Modification Messages.
use Rattle.std.specs.Prelude.{◌==◌, ℕ, ◌-◌, ◌/◌, ◌^◌, min, nat_le, Bool, true, false, ◌&&◌, Option, Some, None, if◌then◌else◌}
use Rattle.std.specs.Str.{bytes_eq}
use Rattle.of_match.specs.declared.fields.Fields.{Fields}

-- ---- A field that is any or a value; `same` compares values.

-- each value that the second takes the first takes
abbrev pub value_subsumes : {A : Type 0} → (A → A → Bool) → Option A → Option A → Bool
value_subsumes same None second = true
value_subsumes same (Some x) None = false
value_subsumes same (Some x) (Some y) = same x y

-- some value is taken by both
abbrev pub value_overlaps : {A : Type 0} → (A → A → Bool) → Option A → Option A → Bool
value_overlaps same None second = true
value_overlaps same (Some x) None = true
value_overlaps same (Some x) (Some y) = same x y

-- what both take, where they overlap
abbrev pub value_meet : {A : Type 0} → Option A → Option A → Option A
value_meet None second = second
value_meet (Some x) second = Some x

-- ---- A field that is any, or an address and the length of its prefix.

-- the first bits of an address
abbrev pub first_bits : ℕ → ℕ → ℕ
first_bits len address = address / 2 ^ (32 - len)

abbrev pub prefix_subsumes : Option (ℕ × ℕ) → Option (ℕ × ℕ) → Bool
prefix_subsumes None second = true
prefix_subsumes (Some p) None = false
prefix_subsumes (Some p) (Some q) = nat_le p.1 q.1 && (first_bits p.1 p.0 == first_bits p.1 q.0)

abbrev pub prefix_overlaps : Option (ℕ × ℕ) → Option (ℕ × ℕ) → Bool
prefix_overlaps None second = true
prefix_overlaps (Some p) None = true
prefix_overlaps (Some p) (Some q) = first_bits (min p.1 q.1) p.0 == first_bits (min p.1 q.1) q.0

-- the longer prefix
abbrev pub prefix_meet : Option (ℕ × ℕ) → Option (ℕ × ℕ) → Option (ℕ × ℕ)
prefix_meet None second = second
prefix_meet (Some p) None = Some p
prefix_meet (Some p) (Some q) = if nat_le q.1 p.1 then Some p else Some q

-- ---- All twelve fields.

abbrev pub link_subsumes : Fields → Fields → Bool
link_subsumes f g = value_subsumes ◌==◌ f.in_port g.in_port && value_subsumes bytes_eq f.dl_src g.dl_src && value_subsumes bytes_eq f.dl_dst g.dl_dst && value_subsumes ◌==◌ f.dl_vlan g.dl_vlan

abbrev pub frame_subsumes : Fields → Fields → Bool
frame_subsumes f g = value_subsumes ◌==◌ f.dl_vlan_pcp g.dl_vlan_pcp && value_subsumes ◌==◌ f.dl_type g.dl_type && value_subsumes ◌==◌ f.nw_tos g.nw_tos && value_subsumes ◌==◌ f.nw_proto g.nw_proto

abbrev pub network_subsumes : Fields → Fields → Bool
network_subsumes f g = prefix_subsumes f.nw_src g.nw_src && prefix_subsumes f.nw_dst g.nw_dst && value_subsumes ◌==◌ f.tp_src g.tp_src && value_subsumes ◌==◌ f.tp_dst g.tp_dst

unfoldable pub fields_subsume : Fields → Fields → Bool
fields_subsume f g = link_subsumes f g && frame_subsumes f g && network_subsumes f g

abbrev pub link_overlaps : Fields → Fields → Bool
link_overlaps f g = value_overlaps ◌==◌ f.in_port g.in_port && value_overlaps bytes_eq f.dl_src g.dl_src && value_overlaps bytes_eq f.dl_dst g.dl_dst && value_overlaps ◌==◌ f.dl_vlan g.dl_vlan

abbrev pub frame_overlaps : Fields → Fields → Bool
frame_overlaps f g = value_overlaps ◌==◌ f.dl_vlan_pcp g.dl_vlan_pcp && value_overlaps ◌==◌ f.dl_type g.dl_type && value_overlaps ◌==◌ f.nw_tos g.nw_tos && value_overlaps ◌==◌ f.nw_proto g.nw_proto

abbrev pub network_overlaps : Fields → Fields → Bool
network_overlaps f g = prefix_overlaps f.nw_src g.nw_src && prefix_overlaps f.nw_dst g.nw_dst && value_overlaps ◌==◌ f.tp_src g.tp_src && value_overlaps ◌==◌ f.tp_dst g.tp_dst

unfoldable pub fields_overlap : Fields → Fields → Bool
fields_overlap f g = link_overlaps f g && frame_overlaps f g && network_overlaps f g

unfoldable pub fields_meet : Fields → Fields → Fields
fields_meet f g = record {
  in_port = value_meet f.in_port g.in_port;
  dl_src = value_meet f.dl_src g.dl_src;
  dl_dst = value_meet f.dl_dst g.dl_dst;
  dl_vlan = value_meet f.dl_vlan g.dl_vlan;
  dl_vlan_pcp = value_meet f.dl_vlan_pcp g.dl_vlan_pcp;
  dl_type = value_meet f.dl_type g.dl_type;
  nw_tos = value_meet f.nw_tos g.nw_tos;
  nw_proto = value_meet f.nw_proto g.nw_proto;
  nw_src = prefix_meet f.nw_src g.nw_src;
  nw_dst = prefix_meet f.nw_dst g.nw_dst;
  tp_src = value_meet f.tp_src g.tp_src;
  tp_dst = value_meet f.tp_dst g.tp_dst;
}
