-- Which rows of a table a packet may take that comes in at a port (OpenFlow 1.0.0, 3.4 Matching), as far as the port and one guarded
-- field decide: the Ethernet destination, or the IPv4 destination. All of this but matching itself is our own.
use Rattle.std.specs.Prelude.{ℕ, Bool, true, false, not, ◌&&◌, List, [], ◌∷◌, ◌++◌, filter, Option, Some, None, if◌then◌else◌}
use Rattle.std.specs.Option.{option_map, is_none}
use Rattle.guard_rule.specs.declared.GuardField.{GuardField}
use Rattle.guard_rule.specs.declared.GuardField.TheVariants.{DlDst, NwDst}
use Rattle.of_match.specs.Covers.{agrees, agrees_on_prefix}
use Rattle.of_match.specs.Fields.{is_exact}
use Rattle.of_match.specs.Key.{number}
use Rattle.of_match.specs.Match.{fields_in}
use Rattle.of_match.specs.declared.fields.Fields.{Fields}
use Rattle.flow_table.specs.declared.view.ViewRow.{ViewRow}
use Rattle.net_guard.specs.declared.scope.Scope.{Scope}
use Rattle.net_guard.specs.declared.scope.Scope.TheVariants.{Every, Value}

abbrev pub fields_of_row : ViewRow → Fields
fields_of_row r = fields_in r.key.matching

-- no field is any: such a row comes before each that has one
abbrev pub is_whole : ViewRow → Bool
is_whole r = is_exact (fields_of_row r)

-- Whether fields take a value of the guarded field; None is a value that no row names. An IPv4 destination is one of IPv4 packets.
unfoldable pub takes_value : GuardField → Option ℕ → Fields → Bool
takes_value DlDst None f = is_none f.dl_dst
takes_value DlDst (Some a) f = agrees (option_map number f.dl_dst) a
takes_value NwDst None f = is_none f.nw_dst && agrees f.dl_type 2048
takes_value NwDst (Some a) f = agrees_on_prefix f.nw_dst a && agrees f.dl_type 2048

-- a packet that comes in at a port may take the row
unfoldable pub may_take : GuardField → Scope → ℕ → Fields → Bool
may_take field Every port f = true
may_take field (Value v) port f = agrees f.in_port port && takes_value field v f

-- the fields beside the port, the guarded one and, for an IPv4 destination, the frame's type
abbrev pub has_no_link_field : Fields → Bool
has_no_link_field f = is_none f.dl_src && is_none f.dl_vlan && is_none f.dl_vlan_pcp

abbrev pub has_no_network_field : Fields → Bool
has_no_network_field f = is_none f.nw_tos && is_none f.nw_proto && is_none f.nw_src && is_none f.tp_src && is_none f.tp_dst

abbrev pub has_no_unguarded : GuardField → Fields → Bool
has_no_unguarded DlDst f = is_none f.dl_type && is_none f.nw_dst
has_no_unguarded NwDst f = is_none f.dl_dst

unfoldable pub has_no_other : GuardField → Fields → Bool
has_no_other field f = has_no_link_field f && has_no_network_field f && has_no_unguarded field f

-- a packet that comes in at a port takes the row, if none before it
unfoldable pub surely_takes : GuardField → Scope → ℕ → Fields → Bool
surely_takes field Every port f = false
surely_takes field (Value v) port f = may_take field (Value v) port f && has_no_other field f

-- rows that stand in key order, in the order in which a packet is held against them
abbrev pub by_rank : List ViewRow → List ViewRow
by_rank rows = filter is_whole rows ++ filter (λ r. not (is_whole r)) rows

-- up to and with the first that passes
abbrev pub up_to : {A : Type 0} → (A → Bool) → List A → List A
up_to stops [] = []
up_to stops (x ∷ xs) = x ∷ (if stops x then [] else up_to stops xs)

-- the rows that a packet may take, up to and with the first that it surely takes
unfoldable pub considered : GuardField → Scope → ℕ → List ViewRow → List ViewRow
considered field scope port rows =
    up_to (λ r. surely_takes field scope port (fields_of_row r)) (filter (λ r. may_take field scope port (fields_of_row r)) (by_rank rows))
