-- Where a packet goes that each switch forwards by its best row (OpenFlow 1.0.0, 3.3 Actions and 3.4 Matching).
use Rattle.std.specs.Prelude.{◌≡◌, ◌==◌, ℕ, Bool, true, false, ◌&&◌, List, find, Contains, Option, Some, None}
use Rattle.std.specs.List.{list_any, flat_map}
use Rattle.guard_rule.specs.declared.GuardField.{GuardField}
use Rattle.guard_rule.specs.declared.GuardField.TheVariants.{DlDst, NwDst}
use Rattle.of_match.specs.Covers.{is_covering}
use Rattle.of_match.specs.PacketKey.{IsPacketKey}
use Rattle.of_match.specs.declared.packet_key.PacketKey.{PacketKey}
use Rattle.flow_table.specs.declared.view.ViewRow.{ViewRow}
use Rattle.flow_table.specs.View.{TableView}
use Rattle.net_guard.specs.declared.hop.Hop.{Hop}
use Rattle.net_guard.specs.Links.{Place, Guarded, is_same}
use Rattle.net_guard.specs.Taking.{by_rank, fields_of_row, has_no_other}
use Rattle.net_guard.specs.Leading.{row_over, is_viewed}
use Rattle.net_guard.specs.Walks.{IsWalk}

-- the packet as it comes in at a port
abbrev pub at_port : ℕ → PacketKey → PacketKey
at_port port k = record k { in_port = port }

-- the row that it takes: the first that covers it
unfoldable pub row_taken : PacketKey → List ViewRow → Option ViewRow
row_taken k rows = find (λ r. is_covering r.key.matching k) (by_rank rows)

abbrev pub taken_over : Place → Hop → Option ViewRow → Bool
taken_over p h None = false
taken_over p h (Some r) = row_over p h r

abbrev pub table_carries : PacketKey → Place → Hop → TableView → Bool
table_carries k p h t = (t.dpid == p.0) && taken_over p h (row_taken (at_port p.1 k) t.rows)

-- the switch of a place sends it over a hop, to a switch that has a table
unfoldable pub carries_over : List TableView → PacketKey → Place → Hop → Bool
carries_over tables k p h = list_any (table_carries k p h) tables && is_viewed h.to.0 tables

-- from one place to another one
unfoldable pub carries : List Hop → List TableView → PacketKey → Place → Place → Bool
carries hops tables k p q = list_any (λ h. is_same h.to q && carries_over tables k p h) hops

-- the packets that a guard is about: with an IPv4 destination those of IPv4
abbrev pub IsGuarded : GuardField → PacketKey → Type 0
IsGuarded DlDst k = IsPacketKey k
IsGuarded NwDst k = IsPacketKey k × (k.dl_type ≡ 2048)

-- No such packet comes back to a place where it was.
abbrev pub ComesBackNowhere : Guarded → List TableView → Type 0
ComesBackNowhere g tables = (k : PacketKey) → IsGuarded g.field k → (p : Place) (between : List Place) → IsWalk (carries g.hops tables k) p between p → ⊥

-- ---- The other way round

-- all rows, of all switches
abbrev pub rows_of_all : List TableView → List ViewRow
rows_of_all tables = flat_map (λ t. t.rows) tables

-- No row has a field beside the port, the guarded one and, for an IPv4 destination, the frame's type.
abbrev pub NameNoOther : GuardField → List TableView → Type 0
NameNoOther field tables = (r : ViewRow) → Contains (rows_of_all tables) r → has_no_other field (fields_of_row r) ≡ true

-- Some packet that the guard is about comes back to a place.
abbrev pub ComesBackTo : Guarded → List TableView → Place → Type 0
ComesBackTo g tables p = (k : PacketKey) × IsGuarded g.field k × ((between : List Place) × IsWalk (carries g.hops tables k) p between p)
