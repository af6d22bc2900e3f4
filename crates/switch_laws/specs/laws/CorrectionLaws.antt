-- What follows about entries as their owners see them, by what the host keeps: all that laws above need of it.
use Rattle.std.proofs.Common.{◌≡◌, ◌==◌, ℕ, List, [], ◌∷◌, map, filter, refl, sym, ap, ap₂, ◌∙◌, inl, inr}
use Rattle.std.proofs.lemmas.Bool.{cases_Bool}
use Rattle.std.specs.List.{AllByRecursion}
use Rattle.of_match.specs.declared.key.Key.{Key}
use Rattle.of_match.specs.Key.{key_number}
use Rattle.of_wire.specs.declared.bodies.FlowMod.{FlowMod as Change}
use Rattle.flow_table.specs.declared.entry.Entry.{Entry}
use Rattle.flow_table.specs.declared.view.ViewRow.{ViewRow}
use Rattle.flow_table.specs.Change.{key_in, asks_notice, new_entry}
use Rattle.flow_table.specs.Corrected.{shown_entry}
use Rattle.flow_table.specs.Expiry.{expiry_notices}
use Rattle.flow_table.specs.Step.{flow_removed}
use Rattle.flow_table.specs.Statistics.{flow_row}
use Rattle.undo_laws.specs.Corrected.{AgreeBut}
use Rattle.undo_laws.specs.CorrectedSwitch.{GoesAlong, GoTogether, AskAll, owner_flags, is_asked_for}
use Rattle.undo_laws.specs.laws.LookupLaws.{filter-same}
use Rattle.undo_laws.specs.laws.ShownEntryLaws.{shown_entry-goes_along, shown_entry-together, rest-of_none, expiry-owned}
use Rattle.lego_model.specs.ViewRows.{row_in}
use Rattle.flow_table.specs.Sorted.{with_row}
use Rattle.net_txn.specs.laws.RowLaws.{sent}
use Rattle.switch_laws.specs.Shown.{flags_in, correction_in}
use Rattle.switch_laws.specs.laws.FlagLaws.{flags_in-added, flags_in-kept}

-- what happens to an entry happens to it as its owner sees it
pub goes_along : (rows : List ViewRow) → GoesAlong (correction_in rows)
goes_along rows = shown_entry-goes_along rows []

-- and they go together
pub go_together : (rows : List ViewRow) (es : List Entry) → GoTogether (correction_in rows) es
go_together rows es = shown_entry-together rows [] es (rest-of_none rows es)

-- the owner's flags are those of the row
owner_flags-in : (k : Key) (rows : List ViewRow) → owner_flags rows k ≡ flags_in rows k
owner_flags-in k [] = refl
owner_flags-in k (r ∷ rs) =
    elim (cases_Bool (key_number r.key == key_number k)) [
      | inl here ↦ rw here refl
      | inr other ↦ rw other (owner_flags-in k rs)
    ]

shown_as : (rows : List ViewRow) (e : Entry) → correction_in rows e ≡ record e { flags = flags_in rows e.key }
unfolding shown_entry
shown_as rows e = ap (λ (n : ℕ). record e { flags = n }) (owner_flags-in e.key rows)

pub flags-shown : (rows : List ViewRow) (e : Entry) → (correction_in rows e).flags ≡ flags_in rows e.key
flags-shown rows e = ap (λ (x : Entry). x.flags) (shown_as rows e)

-- a row changes only how entries of its key are shown
pub shown-but : (m : Change) (rows : List ViewRow) → AgreeBut (key_in m) (correction_in rows) (correction_in (with_row (row_in m) rows))
shown-but m rows e other =
    shown_as (with_row (row_in m) rows) e
    ∙ ap (λ (n : ℕ). record e { flags = n }) (flags_in-kept (row_in m) rows e.key (λ same. other (sym same)))
    ∙ sym (shown_as rows e)

-- and a new entry is shown as it was asked for
pub new-shown : (now serial : ℕ) (m : Change) (rows : List ViewRow) → correction_in (with_row (row_in m) rows) (new_entry now serial (sent m)) ≡ new_entry now serial m
unfolding new_entry
new-shown now serial m rows =
    shown_as (with_row (row_in m) rows) (new_entry now serial (sent m))
    ∙ ap (λ (n : ℕ). record { key = key_in m; actions = m.actions; cookie = m.cookie; idle = m.idle; hard = m.hard; flags = n; installed = now; used = now; packets = 0; bytes = 0; serial = serial })
    (flags_in-added (row_in m) rows (key_in m) refl)

-- rows that have the same flags for some entries show them alike
pub shown-alike : (rows rows_then : List ViewRow) (es : List Entry) → AllByRecursion (λ e. flags_in rows_then e.key ≡ flags_in rows e.key) es → map (correction_in rows_then) es ≡ map (correction_in rows) es
shown-alike rows rows_then [] h = refl
shown-alike rows rows_then (e ∷ es) h =
    ap₂ (λ (x : Entry) (xs : List Entry). x ∷ xs)
    (shown_as rows_then e ∙ ap (λ (n : ℕ). record e { flags = n }) h.0 ∙ sym (shown_as rows e)) (shown-alike rows rows_then es h.1)

-- of the notices of expiry owners see those that they asked for
pub notices-shown : (rows : List ViewRow) (now : ℕ) (es : List Entry) → AskAll es → map flow_removed (expiry_notices now (map (correction_in rows) es)) ≡ map flow_removed (filter (is_asked_for (flags_in rows)) (expiry_notices now es))
notices-shown rows now es all =
    expiry-owned rows now es all
    ∙ ap (map flow_removed)
    (filter-same (is_asked_for (owner_flags rows)) (is_asked_for (flags_in rows)) (λ n. ap asks_notice (owner_flags-in n.removed.key rows)) (expiry_notices now es))

-- a row of statistics is that of the switch
pub row-shown : (rows : List ViewRow) (moment : ℕ) (e : Entry) → flow_row moment (correction_in rows e) ≡ flow_row moment e
unfolding shown_entry
row-shown rows moment e = refl
