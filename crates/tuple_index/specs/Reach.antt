-- Which groups a description with wildcards can meet (OpenFlow 1.0.0, 4.6 Flow Table Modification Messages): where it gives a field a
-- value, the matches of the group have one too, and where it gives a prefix, they have one as long. Such groups it reaches.
use Rattle.std.specs.Prelude.{◌==◌, ℕ, nat_le, Bool, true, false, not, ◌&&◌, Option, Some, None}
use Rattle.of_match.specs.declared.fields.Fields.{Fields}
use Rattle.of_match.specs.declared.key.Key.{Key}
use Rattle.of_match.specs.Key.{key_number}
use Rattle.match_overlap.specs.Relations.{is_overlapping}

abbrev pub value_reaches : {A : Type 0} → Option A → Option A → Bool
value_reaches None second = true
value_reaches (Some x) None = false
value_reaches (Some x) (Some y) = true

abbrev pub prefix_reaches : Option (ℕ × ℕ) → Option (ℕ × ℕ) → Bool
prefix_reaches None second = true
prefix_reaches (Some p) None = false
prefix_reaches (Some p) (Some q) = nat_le p.1 q.1

abbrev pub link_reaches : Fields → Fields → Bool
link_reaches f g = value_reaches f.in_port g.in_port && value_reaches f.dl_src g.dl_src && value_reaches f.dl_dst g.dl_dst && value_reaches f.dl_vlan g.dl_vlan

abbrev pub frame_reaches : Fields → Fields → Bool
frame_reaches f g = value_reaches f.dl_vlan_pcp g.dl_vlan_pcp && value_reaches f.dl_type g.dl_type && value_reaches f.nw_tos g.nw_tos && value_reaches f.nw_proto g.nw_proto

abbrev pub network_reaches : Fields → Fields → Bool
network_reaches f g = prefix_reaches f.nw_src g.nw_src && prefix_reaches f.nw_dst g.nw_dst && value_reaches f.tp_src g.tp_src && value_reaches f.tp_dst g.tp_dst

unfoldable pub fields_reach : Fields → Fields → Bool
fields_reach f g = link_reaches f g && frame_reaches f g && network_reaches f g

-- the second key has the priority of the first, another match, and some packet in common with it
abbrev pub key_clashes : Key → Key → Bool
key_clashes k l = l.priority == k.priority && (not (key_number l == key_number k) && is_overlapping l.matching k.matching)
