-- What follows about the statistics of a switch whose entries are shown with their owners' flags, where nothing was lost (OpenFlow 1.0.0, 5.3.5
-- Read State Messages): they are the switch's own, since no statistics tell flags.
use Rattle.std.proofs.Common.{◌≡◌, ℕ, ◌+◌, Bool, true, false, if◌then◌else◌, List, [], ◌∷◌, map, Option, Some, None, refl, ap, ap₂, ◌∙◌, inl, inr}
use Rattle.std.specs.Prelude.{fold}
use Rattle.std.specs.List.{sum_by}
use Rattle.std.proofs.lemmas.Bool.{cases_Bool}
use Rattle.std.proofs.lemmas.List.{length-map}
use Rattle.of_types.specs.declared.errors.OfError.{OfError}
use Rattle.of_types.specs.Fields.{number_at, piece}
use Rattle.of_types.specs.Layout.{spelled}
use Rattle.of_match.specs.declared.flow_match.Match.{Match}
use Rattle.of_match.specs.Match.{match_of}
use Rattle.of_stats.specs.Flows.{row_bytes}
use Rattle.of_stats.specs.Layouts.{sum_fields, table_fields}
use Rattle.of_stats.specs.declared.sum.Sum.{Sum}
use Rattle.of_wire.specs.declared.bodies.Stats.{Stats as StatsBody}
use Rattle.of_wire.specs.declared.message.Message.TheVariants.{StatsRequest}
use Rattle.flow_table.specs.declared.entry.Entry.{Entry}
use Rattle.flow_table.specs.declared.view.ViewRow.{ViewRow}
use Rattle.flow_table.specs.Corrected.{shown_entry}
use Rattle.flow_table.specs.Refusals.{stats_refusal, message_refusal}
use Rattle.flow_table.specs.Rows.{is_selected, selected}
use Rattle.flow_table.specs.Statistics.{sees_table, selected_by, flow_row, flow_rows, sum_of, sum_bytes, table_row, table_bytes, port_rows, reply_rows, part_bytes, parts_of, statistics_replies}
use Rattle.flow_table.specs.Step.{sent_by_taken, answered, sent_by_message}
use Rattle.flow_table.specs.Switch.{SwitchState}
use Rattle.undo_laws.specs.CorrectedSwitch.{corrected_switch}

module _ (rows : List ViewRow) where
  -- ---- One entry

  row-owned : (now : ℕ) (e : Entry) → flow_row now (shown_entry rows [] e) ≡ flow_row now e
  unfolding shown_entry
  row-owned now e = refl

  selected-owned : (m : Match) (out_port : ℕ) (e : Entry) → is_selected m out_port (shown_entry rows [] e) ≡ is_selected m out_port e
  unfolding shown_entry is_selected
  selected-owned m out_port e = refl

  -- ---- Those that a request selects

  filter-owned : (m : Match) (out_port : ℕ) (es : List Entry) → selected m out_port (map (shown_entry rows []) es) ≡ map (shown_entry rows []) (selected m out_port es)
  filter-owned m out_port [] = refl
  filter-owned m out_port (e ∷ es) =
      elim (cases_Bool (is_selected m out_port e)) [
        | inl is ↦ rw (selected-owned m out_port e ∙ is, is) (ap (λ (fs : List Entry). shown_entry rows [] e ∷ fs) (filter-owned m out_port es))
        | inr other ↦ rw (selected-owned m out_port e ∙ other, other) (filter-owned m out_port es)
      ]

  found-owned : (query : List ℕ) (s : SwitchState) → selected_by query (corrected_switch (shown_entry rows []) s) ≡ map (shown_entry rows []) (selected_by query s)
  unfolding selected_by
  found-owned query s = by (sees_table (number_at 1 40 query))
    where
      by : (sees : Bool) → (if sees then selected (match_of (piece 40 0 query)) (number_at 2 42 query) (map (shown_entry rows []) s.table.entries) else [])
          ≡ map (shown_entry rows []) (if sees then selected (match_of (piece 40 0 query)) (number_at 2 42 query) s.table.entries else [])
      by true = filter-owned (match_of (piece 40 0 query)) (number_at 2 42 query) s.table.entries
      by false = refl

  -- ---- What a reply tells

  told-owned : (now : ℕ) (es : List Entry) → map (λ e. row_bytes (flow_row now e)) (map (shown_entry rows []) es) ≡ map (λ e. row_bytes (flow_row now e)) es
  told-owned now [] = refl
  told-owned now (e ∷ es) = ap₂ (λ (b : List ℕ) (bs : List (List ℕ)). b ∷ bs) (ap row_bytes (row-owned now e)) (told-owned now es)

  flows-owned : (query : List ℕ) (s : SwitchState) → flow_rows query (corrected_switch (shown_entry rows []) s) ≡ flow_rows query s
  unfolding flow_rows
  flows-owned query s = ap (map (λ e. row_bytes (flow_row s.moment e))) (found-owned query s) ∙ told-owned s.moment (selected_by query s)

  folded_packets : (n : ℕ) (es : List Entry) → fold (λ m e. m + e.packets) n (map (shown_entry rows []) es) ≡ fold (λ m e. m + e.packets) n es
  unfolding shown_entry
  folded_packets n [] = refl
  folded_packets n (e ∷ es) = folded_packets (n + e.packets) es

  folded_bytes : (n : ℕ) (es : List Entry) → fold (λ m e. m + e.bytes) n (map (shown_entry rows []) es) ≡ fold (λ m e. m + e.bytes) n es
  unfolding shown_entry
  folded_bytes n [] = refl
  folded_bytes n (e ∷ es) = folded_bytes (n + e.bytes) es

  all_packets : (es : List Entry) → sum_by (λ e. e.packets) (map (shown_entry rows []) es) ≡ sum_by (λ e. e.packets) es
  all_packets es = folded_packets 0 es

  all_bytes : (es : List Entry) → sum_by (λ e. e.bytes) (map (shown_entry rows []) es) ≡ sum_by (λ e. e.bytes) es
  all_bytes es = folded_bytes 0 es

  summed-owned : (es : List Entry) → sum_of (map (shown_entry rows []) es) ≡ sum_of es
  unfolding sum_of
  summed-owned es = rw (all_packets es, all_bytes es, length-map es (shown_entry rows [])) refl

  sum-owned : (query : List ℕ) (s : SwitchState) → sum_bytes query (corrected_switch (shown_entry rows []) s) ≡ sum_bytes query s
  unfolding sum_bytes
  sum-owned query s = ap (λ (sum : Sum). spelled (sum_fields sum)) (ap sum_of (found-owned query s) ∙ summed-owned (selected_by query s))

  table-owned : (s : SwitchState) → table_bytes (corrected_switch (shown_entry rows []) s) ≡ table_bytes s
  unfolding table_bytes
  table-owned s = ap (λ (n : ℕ). spelled (table_fields (record (table_row s) { active_count = n }))) (length-map s.table.entries (shown_entry rows []))

  ports-owned : (query : List ℕ) (s : SwitchState) → port_rows query (corrected_switch (shown_entry rows []) s) ≡ port_rows query s
  unfolding port_rows
  ports-owned query s = refl

  -- The rows of a reply are those of the switch itself.
  pub reply-owned : (m : StatsBody) (s : SwitchState) → reply_rows m (corrected_switch (shown_entry rows []) s) ≡ reply_rows m s
  unfolding reply_rows
  reply-owned m s = rw (flows-owned m.body s, sum-owned m.body s, table-owned s, ports-owned m.body s) refl

  told-by : (o : Option OfError) (xid : ℕ) (m : StatsBody) (s : SwitchState) → answered xid (StatsRequest m) (corrected_switch (shown_entry rows []) s) o ≡ answered xid (StatsRequest m) s o
  unfolding sent_by_taken statistics_replies
  told-by None xid m s = ap (λ (found : List (List ℕ)). map (part_bytes xid) (parts_of m.kind found)) (reply-owned m s)
  told-by (Some e) xid m s = refl

  -- So is all that it sends.
  pub statistics-owned : (xid : ℕ) (m : StatsBody) (s : SwitchState) → sent_by_message xid (StatsRequest m) (corrected_switch (shown_entry rows []) s) ≡ sent_by_message xid (StatsRequest m) s
  unfolding sent_by_message message_refusal
  statistics-owned xid m s = told-by (stats_refusal m) xid m s
