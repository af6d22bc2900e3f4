-- What follows about the lengths of rows.
use Rattle.std.proofs.Common.{◌≡◌, ℕ, ◌≤◌, List, ◌++◌, length, Result, Ok, Err, IfOk, arith}
use Rattle.std.proofs.lemmas.List.{length-append}
use Rattle.of_types.specs.Layout.{spelled}
use Rattle.of_types.specs.laws.FieldLaws.{length-number_bytes}
use Rattle.of_match.specs.Fields.{bytes_of}
use Rattle.of_match.specs.Match.{fields_in}
use Rattle.of_action.specs.Spelling.{list_bytes, list_size}
use Rattle.of_stats.specs.declared.flow_row.FlowRow.{FlowRow}
use Rattle.of_stats.specs.Flows.{row_size, row_bytes, front_fields, count_fields}
use Rattle.of_stats.specs.Parts.{room}
use Rattle.of_match.specs.laws.FieldsLaws.{bytes_of-length}

length-front : (row : FlowRow) → length (spelled (front_fields row)) ≡ 4
length-front row = simp (length-append, length-number_bytes)

length-counts : (row : FlowRow) → length (spelled (count_fields row)) ≡ 44
length-counts row = simp (length-append, length-number_bytes)

pub length-row_bytes : (row : FlowRow) → length (list_bytes row.actions) ≡ list_size row.actions → length (row_bytes row) ≡ row_size row
unfolding row_bytes
length-row_bytes row actions =
    let front = spelled (front_fields row) in
    let matching = bytes_of (fields_in row.key.matching) in
    let counts = spelled (count_fields row) in
    omega (arith, length-append front (matching ++ (counts ++ list_bytes row.actions)), length-append matching (counts ++ list_bytes row.actions), length-append counts (list_bytes row.actions), length-front row, length-counts row, bytes_of-length (fields_in row.key.matching), actions)

pub row_fits : {E : Type 0} (written : Result (List ℕ) E) (row : FlowRow) → length (list_bytes row.actions) ≡ list_size row.actions → list_size row.actions ≤ 65432
    → IfOk written (λ bytes. bytes ≡ row_bytes row) → IfOk written (λ bytes. length bytes ≤ room)
row_fits (Ok bytes) row actions few is = rw is (omega (arith, length-row_bytes row actions, few))
row_fits (Err e) row actions few is = tt
