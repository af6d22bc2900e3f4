-- The layouts of sums and of rows that have one length (OpenFlow 1.0.0, 5.3.5 Read State Messages).
use Rattle.std.specs.Prelude.{List, [], ◌∷◌}
use Rattle.of_types.specs.Layout.{Field, number, raw, pad}
use Rattle.of_stats.specs.declared.sum.Sum.{Sum}
use Rattle.of_stats.specs.declared.table_row.TableRow.{TableRow}
use Rattle.of_stats.specs.declared.port_row.PortRow.{PortRow}

-- Aggregate Flow Statistics, 24 bytes
abbrev pub sum_fields : Sum → List Field
sum_fields s = number 8 s.packets ∷ number 8 s.bytes ∷ number 4 s.flows ∷ pad 4 ∷ []

-- Table Statistics, 64 bytes
abbrev pub table_fields : TableRow → List Field
table_fields row =
    number 1 row.table_id ∷ pad 3 ∷ raw 32 row.name ∷ number 4 row.wildcards ∷ number 4 row.max_entries
    ∷ number 4 row.active_count ∷ number 8 row.lookup_count ∷ number 8 row.matched_count ∷ []

-- Port Statistics, 104 bytes
abbrev pub port_fields : PortRow → List Field
port_fields row =
    number 2 row.port_no ∷ pad 6 ∷ number 8 row.rx_packets ∷ number 8 row.tx_packets ∷ number 8 row.rx_bytes
    ∷ number 8 row.tx_bytes ∷ number 8 row.rx_dropped ∷ number 8 row.tx_dropped ∷ number 8 row.rx_errors
    ∷ number 8 row.tx_errors ∷ number 8 row.rx_frame_err ∷ number 8 row.rx_over_err ∷ number 8 row.rx_crc_err
    ∷ number 8 row.collisions ∷ []
