-- The statistics of a simulated switch as functions of its state (OpenFlow 1.0.0, 5.3.5 Read State Messages). The order of rows, the
-- texts of the description, and that an unknown table or port has no row are our own choice.
use Rattle.std.specs.Prelude.{◌==◌, ℕ, ◌+◌, ◌-◌, ◌%◌, ◌^◌, Bool, ◌||◌, List, [], ◌∷◌, ◌++◌, length, map, filter, codes, nat_le, if◌then◌else◌}
use Rattle.std.specs.List.{sum_by}
use Rattle.of_types.specs.Fields.{number_at, piece}
use Rattle.of_types.specs.Layout.{spelled}
use Rattle.of_match.specs.Match.{match_of}
use Rattle.of_wire.specs.declared.bodies.Stats.{Stats as StatsBody}
use Rattle.of_wire.specs.declared.message.Message.TheVariants.{StatsReply}
use Rattle.of_wire.specs.Spelling.{message_bytes}
use Rattle.of_wire.specs.Stats.{DescStats, desc_stats_fields}
use Rattle.of_stats.specs.declared.flow_row.FlowRow.{FlowRow}
use Rattle.of_stats.specs.declared.sum.Sum.{Sum}
use Rattle.of_stats.specs.declared.table_row.TableRow.{TableRow}
use Rattle.of_stats.specs.declared.port_row.PortRow.{PortRow}
use Rattle.of_stats.specs.Flows.{row_bytes}
use Rattle.of_stats.specs.Layouts.{sum_fields, table_fields, port_fields}
use Rattle.of_stats.specs.Parts.{Part, room}
use Rattle.flow_table.specs.declared.entry.Entry.{Entry}
use Rattle.flow_table.specs.Rows.{selected}
use Rattle.flow_table.specs.Switch.{PortState, SwitchState, none_number, padded}

-- ---- DESC: what the switch is

abbrev pub description : DescStats
description = record {
  manufacturer = padded 256 (codes "lego");
  hardware = padded 256 (codes "sim");
  software = padded 256 (codes "1");
  serial = padded 32 (codes "0");
  datapath = padded 256 (codes "sim");
}

unfoldable pub description_bytes : List ℕ
description_bytes = spelled (desc_stats_fields description)

-- ---- FLOW and AGGREGATE: the entries that a request selects, as DELETE selects them. The one table has the number 0; 0xff means
-- all tables.

abbrev pub sees_table : ℕ → Bool
sees_table table_id = table_id == 0 || table_id == 0xff

-- the request: a match in the first 40 bytes, the number of a table behind it, then a pad, then out_port
unfoldable pub selected_by : List ℕ → SwitchState → List Entry
selected_by query s =
    if sees_table (number_at 1 40 query) then selected (match_of (piece 40 0 query)) (number_at 2 42 query) s.table.entries else []

abbrev pub flow_row : ℕ → Entry → FlowRow
flow_row moment e = record {
  key = e.key;
  duration_sec = moment - e.installed;
  idle = e.idle;
  hard = e.hard;
  cookie = e.cookie;
  packets = e.packets;
  bytes = e.bytes;
  actions = e.actions;
}

unfoldable pub flow_rows : List ℕ → SwitchState → List (List ℕ)
flow_rows query s = map (λ e. row_bytes (flow_row s.moment e)) (selected_by query s)

-- the sums are modulo 2^64
unfoldable pub sum_of : List Entry → Sum
sum_of es = record {
  packets = sum_by (λ e. e.packets) es % 2 ^ 64;
  bytes = sum_by (λ e. e.bytes) es % 2 ^ 64;
  flows = length es;
}

unfoldable pub sum_bytes : List ℕ → SwitchState → List ℕ
sum_bytes query s = spelled (sum_fields (sum_of (selected_by query s)))

-- ---- TABLE: the one table

abbrev pub table_row : SwitchState → TableRow
table_row s = record {
  table_id = 0;
  name = padded 32 (codes "table0");
  wildcards = 0x3fffff;
  max_entries = s.declared.cap;
  active_count = length s.table.entries;
  lookup_count = s.lookups;
  matched_count = s.matched;
}

unfoldable pub table_bytes : SwitchState → List ℕ
table_bytes s = spelled (table_fields (table_row s))

-- ---- PORT: the port that the request names, or all where it names NONE

abbrev pub port_row : PortState → PortRow
port_row p = record {
  port_no = p.number;
  rx_packets = p.rx_packets;
  tx_packets = p.tx_packets;
  rx_bytes = p.rx_bytes;
  tx_bytes = p.tx_bytes;
  rx_dropped = 0;
  tx_dropped = p.tx_dropped;
  rx_errors = 0;
  tx_errors = 0;
  rx_frame_err = 0;
  rx_over_err = 0;
  rx_crc_err = 0;
  collisions = 0;
}

unfoldable pub port_bytes : PortState → List ℕ
port_bytes p = spelled (port_fields (port_row p))

abbrev pub is_asked : ℕ → PortState → Bool
is_asked number p = number == none_number || p.number == number

unfoldable pub port_rows : List ℕ → SwitchState → List (List ℕ)
port_rows query s = map port_bytes (filter (is_asked (number_at 2 0 query)) s.ports)

-- ---- The reply: its rows in parts, in each as many as fit; more follow all parts but the last.

-- the rows of a reply, by the request's type; DESC, AGGREGATE and TABLE have one
unfoldable pub reply_rows : StatsBody → SwitchState → List (List ℕ)
reply_rows m s =
    if m.kind == 0 then description_bytes ∷ []
    else if m.kind == 1 then flow_rows m.body s
    else if m.kind == 2 then sum_bytes m.body s ∷ []
    else if m.kind == 3 then table_bytes s ∷ []
    else port_rows m.body s

-- the parts of a reply of which a part is begun
abbrev pub parts_behind : ℕ → List ℕ → List (List ℕ) → List Part
parts_behind kind begun [] = (kind, 0, begun) ∷ []
parts_behind kind begun (row ∷ rows) =
    if nat_le (length begun + length row) room then parts_behind kind (begun ++ row) rows
    else (kind, 1, begun) ∷ parts_behind kind row rows

unfoldable pub parts_of : ℕ → List (List ℕ) → List Part
parts_of kind rows = parts_behind kind [] rows

abbrev pub part_bytes : ℕ → Part → List ℕ
part_bytes xid part = message_bytes xid (StatsReply (record { kind = part.0; flags = part.1; body = part.2 }))

unfoldable pub statistics_replies : ℕ → StatsBody → SwitchState → List (List ℕ)
statistics_replies xid m s = map (part_bytes xid) (parts_of m.kind (reply_rows m s))
