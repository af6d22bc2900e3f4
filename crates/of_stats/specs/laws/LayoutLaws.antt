-- What was written of a sum, or of a row that has one length, is read again.
use Rattle.std.proofs.Common.{◌≡◌, ℕ, List, [], refl, sym, subst, ◌∙◌}
use Rattle.std.proofs.lemmas.List.{append-nil}
use Rattle.of_types.specs.Layout.{Field, spelled, AreFields, IsLaidOut}
use Rattle.of_types.specs.laws.LayoutLaws.{IsLaidOut-spelled}
use Rattle.of_stats.specs.declared.sum.Sum.{Sum}
use Rattle.of_stats.specs.declared.table_row.TableRow.{TableRow}
use Rattle.of_stats.specs.declared.port_row.PortRow.{PortRow}
use Rattle.of_stats.specs.Layouts.{sum_fields, table_fields, port_fields}

laid_out : (fields : List Field) → AreFields fields → IsLaidOut 0 fields [] (spelled fields)
laid_out fields fit = subst (λ (b : List ℕ). IsLaidOut 0 fields [] b) (append-nil (spelled fields)) (IsLaidOut-spelled 0 fields [] [] refl fit)

pub sum_again : (sum read : Sum) → AreFields (sum_fields sum) → IsLaidOut 0 (sum_fields read) [] (spelled (sum_fields sum)) → read ≡ sum
sum_again sum read fit h =
    let w = laid_out (sum_fields sum) fit in
    let packets : read.packets ≡ sum.packets = sym h.0 ∙ w.0 in
    let bytes : read.bytes ≡ sum.bytes = sym h.1.0 ∙ w.1.0 in
    let flows : read.flows ≡ sum.flows = sym h.1.1.0 ∙ w.1.1.0 in
    λ i. record { packets = packets i; bytes = bytes i; flows = flows i }

pub table_again : (row read : TableRow) → AreFields (table_fields row) → IsLaidOut 0 (table_fields read) [] (spelled (table_fields row)) → read ≡ row
table_again row read fit h =
    let w = laid_out (table_fields row) fit in
    let table_id : read.table_id ≡ row.table_id = sym h.0 ∙ w.0 in
    let name : read.name ≡ row.name = sym h.1.0 ∙ w.1.0 in
    let wildcards : read.wildcards ≡ row.wildcards = sym h.1.1.0 ∙ w.1.1.0 in
    let max_entries : read.max_entries ≡ row.max_entries = sym h.1.1.1.0 ∙ w.1.1.1.0 in
    let active_count : read.active_count ≡ row.active_count = sym h.1.1.1.1.0 ∙ w.1.1.1.1.0 in
    let lookup_count : read.lookup_count ≡ row.lookup_count = sym h.1.1.1.1.1.0 ∙ w.1.1.1.1.1.0 in
    let matched_count : read.matched_count ≡ row.matched_count = sym h.1.1.1.1.1.1.0 ∙ w.1.1.1.1.1.1.0 in
    λ i. record {
      table_id = table_id i;
      name = name i;
      wildcards = wildcards i;
      max_entries = max_entries i;
      active_count = active_count i;
      lookup_count = lookup_count i;
      matched_count = matched_count i;
    }

pub port_again : (row read : PortRow) → AreFields (port_fields row) → IsLaidOut 0 (port_fields read) [] (spelled (port_fields row)) → read ≡ row
port_again row read fit h =
    let w = laid_out (port_fields row) fit in
    let port_no : read.port_no ≡ row.port_no = sym h.0 ∙ w.0 in
    let rx_packets : read.rx_packets ≡ row.rx_packets = sym h.1.0 ∙ w.1.0 in
    let tx_packets : read.tx_packets ≡ row.tx_packets = sym h.1.1.0 ∙ w.1.1.0 in
    let rx_bytes : read.rx_bytes ≡ row.rx_bytes = sym h.1.1.1.0 ∙ w.1.1.1.0 in
    let tx_bytes : read.tx_bytes ≡ row.tx_bytes = sym h.1.1.1.1.0 ∙ w.1.1.1.1.0 in
    let rx_dropped : read.rx_dropped ≡ row.rx_dropped = sym h.1.1.1.1.1.0 ∙ w.1.1.1.1.1.0 in
    let tx_dropped : read.tx_dropped ≡ row.tx_dropped = sym h.1.1.1.1.1.1.0 ∙ w.1.1.1.1.1.1.0 in
    let rx_errors : read.rx_errors ≡ row.rx_errors = sym h.1.1.1.1.1.1.1.0 ∙ w.1.1.1.1.1.1.1.0 in
    let tx_errors : read.tx_errors ≡ row.tx_errors = sym h.1.1.1.1.1.1.1.1.0 ∙ w.1.1.1.1.1.1.1.1.0 in
    let rx_frame_err : read.rx_frame_err ≡ row.rx_frame_err = sym h.1.1.1.1.1.1.1.1.1.0 ∙ w.1.1.1.1.1.1.1.1.1.0 in
    let rx_over_err : read.rx_over_err ≡ row.rx_over_err = sym h.1.1.1.1.1.1.1.1.1.1.0 ∙ w.1.1.1.1.1.1.1.1.1.1.0 in
    let rx_crc_err : read.rx_crc_err ≡ row.rx_crc_err = sym h.1.1.1.1.1.1.1.1.1.1.1.0 ∙ w.1.1.1.1.1.1.1.1.1.1.1.0 in
    let collisions : read.collisions ≡ row.collisions = sym h.1.1.1.1.1.1.1.1.1.1.1.1.0 ∙ w.1.1.1.1.1.1.1.1.1.1.1.1.0 in
    λ i. record {
      port_no = port_no i;
      rx_packets = rx_packets i;
      tx_packets = tx_packets i;
      rx_bytes = rx_bytes i;
      tx_bytes = tx_bytes i;
      rx_dropped = rx_dropped i;
      tx_dropped = tx_dropped i;
      rx_errors = rx_errors i;
      tx_errors = tx_errors i;
      rx_frame_err = rx_frame_err i;
      rx_over_err = rx_over_err i;
      rx_crc_err = rx_crc_err i;
      collisions = collisions i;
    }
