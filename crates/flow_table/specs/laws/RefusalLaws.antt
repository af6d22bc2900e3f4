-- What follows about messages that are refused, and about those that are not: the answer to a refused one, and the room for an addition.
use Rattle.std.proofs.Common.{◌≡◌, ℕ, ◌≤◌, Bool, true, false, cond, not, nat_lt, nat_le, List, [], ◌∷◌, length, map, filter, Option, Some, None, if◌then◌else◌, refl, sym, ap, ◌∙◌, inl, inr, arith}
use Rattle.std.proofs.lemmas.Bool.{cond_both, cond-false, leb-false, and_cases, not-false}
use Rattle.std.proofs.lemmas.List.{length-map}
use Rattle.std.specs.List.{list_any}
use Rattle.of_types.specs.declared.errors.OfError.{OfError}
use Rattle.of_wire.specs.declared.bodies.FlowMod.{FlowMod}
use Rattle.of_wire.specs.declared.message.Message.{Message}
use Rattle.flow_table.specs.declared.entry.Entry.{Entry}
use Rattle.flow_table.specs.Table.{IsTable, has_key, with_entry}
use Rattle.flow_table.specs.laws.TableLaws.{length-with_entry-le, length-with_entry-there, length-filter-le}
use Rattle.flow_table.specs.Change.{is_modify, key_in, adds, clashes, is_full, deletes, modified, new_entry, refusal, entries_after}
use Rattle.flow_table.specs.Errors.{bad_command, overlap, all_tables_full}
use Rattle.flow_table.specs.Refusals.{or_else, message_refusal}
use Rattle.flow_table.specs.Switch.{SwitchState}
use Rattle.flow_table.specs.Step.{error_bytes, answered, sent_by_message}

-- ---- Where there is no refusal

pub first_none : (a b : Option OfError) → or_else a b ≡ None → (a ≡ None) × (b ≡ None)
first_none None b none = (refl, none)
first_none (Some e) b none = absurd cc

pub later_none : (b : Bool) (e : OfError) (o : Option OfError) → cond b (Some e) o ≡ None → (b ≡ false) × (o ≡ None)
later_none true e o none = absurd cc
later_none false e o none = (refl, none)

-- ---- An addition that is not refused has room.

pub not_full : (cap : ℕ) (m : FlowMod) (es : List Entry) → adds m es ≡ true → refusal cap m es ≡ None → is_full cap m es ≡ false
unfolding refusal
not_full cap m es puts none =
    let full : Option OfError = if is_full cap m es then Some all_tables_full else None in
    let rest : Option OfError = if clashes m es then Some overlap else full in
    let known = later_none (nat_lt 4 m.command) bad_command (if not (adds m es) then None else rest) none in
    let adding = sym (cond-false (not (adds m es)) None rest (ap not puts)) ∙ known.1 in
    (later_none (is_full cap m es) all_tables_full None (later_none (clashes m es) overlap full adding).1).0

length-put : (cap serial moment : ℕ) (m : FlowMod) (es : List Entry) → IsTable es → length es ≤ cap → is_full cap m es ≡ false → length (with_entry (new_entry moment serial m) es) ≤ cap
unfolding is_full new_entry
length-put cap serial moment m es is few room =
    elim (and_cases (not (list_any (has_key (key_in m)) es)) (nat_le cap (length es)) room) [
      | inl there ↦ omega (arith, few, length-with_entry-there (new_entry moment serial m) es is (not-false (list_any (has_key (key_in m)) es) there))
      | inr some ↦ omega (arith, leb-false cap (length es) some, length-with_entry-le es (new_entry moment serial m))
    ]

-- a change that is not refused leaves no more entries than the table takes
pub length-entries_after : (cap moment serial : ℕ) (m : FlowMod) (es : List Entry) → IsTable es → length es ≤ cap → refusal cap m es ≡ None → length (entries_after moment serial m es) ≤ cap
unfolding entries_after
length-entries_after cap moment serial m es is few none =
    cond_both (adds m es) (with_entry (new_entry moment serial m) es) (if is_modify m then map (modified m) es else filter (λ e. not (deletes m e)) es) (λ (xs : List Entry). length xs ≤ cap)
    (λ puts. length-put cap serial moment m es is few (not_full cap m es puts none))
    (λ _. cond_both (is_modify m) (map (modified m) es) (filter (λ e. not (deletes m e)) es) (λ (xs : List Entry). length xs ≤ cap)
    (λ _. omega (arith, few, length-map es (modified m)))
    (λ _. omega (arith, few, length-filter-le (λ e. not (deletes m e)) es)))

-- ---- A refused message is answered by the error alone.

pub refused_sent : (xid : ℕ) (m : Message) (s : SwitchState) (e : OfError) → message_refusal s m ≡ Some e → sent_by_message xid m s ≡ error_bytes xid m e ∷ []
unfolding sent_by_message
refused_sent xid m s e is = ap (answered xid m s) is
