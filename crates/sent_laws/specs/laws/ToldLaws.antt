-- What follows about notices of time-outs, corrected by what entries have lost: they are those of the entries as these are shown.
use Rattle.std.proofs.Common.{◌≡◌, ℕ, ◌≤◌, Bool, true, false, List, [], ◌∷◌, map, filter, Option, Some, None, refl, sym, ap, ap₂, ◌∙◌, arith, inl, inr}
use Rattle.std.proofs.lemmas.Bool.{cases_Bool, leb-true}
use Rattle.std.specs.Prelude.{nat_le}
use Rattle.std.specs.List.{AllByRecursion}
use Rattle.of_match.specs.declared.key.Key.{Key}
use Rattle.flow_timeouts.specs.declared.timeouts.Reason.{Reason}
use Rattle.flow_table.specs.declared.entry.Entry.{Entry}
use Rattle.flow_table.specs.declared.lost.Lost.{Lost}
use Rattle.flow_table.specs.declared.view.ViewRow.{ViewRow}
use Rattle.flow_table.specs.Change.{asks_notice}
use Rattle.flow_table.specs.Corrected.{lost_at, with_lost, shown_entry}
use Rattle.flow_table.specs.Expiry.{reason_number, deadline, has_come, is_due, notice_at, among, by_deadline, end_of, expiry_notices}
use Rattle.flow_table.specs.Step.{flow_removed}
use Rattle.undo_laws.specs.CorrectedSwitch.{HaveRest, AskAll, asks_shown, owner_flags, is_asked_for}
use Rattle.undo_laws.specs.laws.CorrectedSwitchLaws.{expiry-shown, expiry-all}
use Rattle.undo_laws.specs.laws.ShownEntryLaws.{shown_entry-goes_along, shown_entry-together}
use Rattle.counter_cache.specs.Fixed.{fixed_removed}
use Rattle.counter_cache.specs.laws.FixedLaws.{NoticeIsShown-fixed}
use Rattle.sent_laws.specs.Told.{FitsAtEnd}

abbrev IsDueFitting : List (Key × Lost) → ℕ → Entry → Type 0
IsDueFitting lost now e = (is_due now e ≡ true) × FitsAtEnd lost now e

-- ---- Entries that are due, in the order of their ends

due-fitting : (lost : List (Key × Lost)) (now : ℕ) (es : List Entry) → AllByRecursion (FitsAtEnd lost now) es → AllByRecursion (IsDueFitting lost now) (filter (is_due now) es)
due-fitting lost now [] all = tt
due-fitting lost now (e ∷ es) all =
    elim (cases_Bool (is_due now e)) [
      | inl is ↦ rw is ((is, all.0), due-fitting lost now es all.1)
      | inr other ↦ rw other (due-fitting lost now es all.1)
    ]

all-among : (P : Entry → Type 0) (e : Entry) (es : List Entry) → P e → AllByRecursion P es → AllByRecursion P (among e es)
all-among P e [] one all = (one, tt)
all-among P e (f ∷ fs) one all =
    elim (cases_Bool (nat_le (end_of e) (end_of f))) [
      | inl first ↦ rw first (one, (all.0, all.1))
      | inr behind ↦ rw behind (all.0, all-among P e fs one all.1)
    ]

sorted-fitting : (lost : List (Key × Lost)) (now : ℕ) (es : List Entry) → AllByRecursion (IsDueFitting lost now) es → AllByRecursion (IsDueFitting lost now) (by_deadline es)
unfolding by_deadline
sorted-fitting lost now [] all = tt
sorted-fitting lost now (e ∷ es) all = all-among (IsDueFitting lost now) e (by_deadline es) all.0 (sorted-fitting lost now es all.1)

-- ---- One notice

asked-flags : (o : Option Lost) (flags : ℕ) (e : Entry) → (with_lost o (record e { flags = flags })).flags ≡ flags
asked-flags None flags e = refl
asked-flags (Some l) flags e = refl

asked-by_owner : (rows : List ViewRow) (lost : List (Key × Lost)) (d : Option (ℕ × Reason)) (e : Entry) → is_asked_for (owner_flags rows) (notice_at d e) ≡ asks_shown (shown_entry rows lost) e
unfolding shown_entry
asked-by_owner rows lost None e = ap asks_notice (sym (asked-flags (lost_at e.key lost) (owner_flags rows e.key) e))
asked-by_owner rows lost (Some d) e = ap asks_notice (sym (asked-flags (lost_at e.key lost) (owner_flags rows e.key) e))

one-corrected : (rows : List ViewRow) (lost : List (Key × Lost)) (now : ℕ) (e : Entry) (d : Option (ℕ × Reason)) → deadline e ≡ d → IsDueFitting lost now e → flow_removed (notice_at d (shown_entry rows lost e)) ≡ fixed_removed lost (flow_removed (notice_at d e))
unfolding is_due
one-corrected rows lost now e None is fits = let bad : false ≡ true = sym (ap (has_come now) is) ∙ fits.0 in absurd cc
one-corrected rows lost now e (Some d) is fits =
    let come : nat_le d.0 now ≡ true = sym (ap (has_come now) is) ∙ fits.0 in
    sym (NoticeIsShown-fixed lost (flow_removed (notice_at (Some d) e)) (fixed_removed lost (flow_removed (notice_at (Some d) e))) refl (reason_number d.1) d.0 rows e (fits.1 d.0 d.1 is (leb-true d.0 now come)) refl)

-- ---- All of them

told-corrected : (rows : List ViewRow) (lost : List (Key × Lost)) (now : ℕ) (es : List Entry) → AllByRecursion (IsDueFitting lost now) es
    → map flow_removed (map (λ e. notice_at (deadline e) (shown_entry rows lost e)) (filter (asks_shown (shown_entry rows lost)) es))
    ≡ map (fixed_removed lost) (map flow_removed (filter (is_asked_for (owner_flags rows)) (map (λ e. notice_at (deadline e) e) es)))
told-corrected rows lost now [] all = refl
told-corrected rows lost now (e ∷ es) all =
    elim (cases_Bool (asks_shown (shown_entry rows lost) e)) [
      | inl asked ↦
          rw (asked, asked-by_owner rows lost (deadline e) e ∙ asked)
          (ap₂ (λ x xs. x ∷ xs) (one-corrected rows lost now e (deadline e) refl all.0) (told-corrected rows lost now es all.1))
      | inr not_asked ↦ rw (not_asked, asked-by_owner rows lost (deadline e) e ∙ not_asked) (told-corrected rows lost now es all.1)
    ]

-- Of the notices of time-outs, those that owners asked for, corrected by what their entries have lost, are those of the table as it is shown.
pub expiry-corrected : (rows : List ViewRow) (lost : List (Key × Lost)) (now : ℕ) (es : List Entry) → AskAll es → HaveRest lost es → AllByRecursion (FitsAtEnd lost now) es
    → map flow_removed (expiry_notices now (map (shown_entry rows lost) es)) ≡ map (fixed_removed lost) (map flow_removed (filter (is_asked_for (owner_flags rows)) (expiry_notices now es)))
expiry-corrected rows lost now es asks rest fits =
    ap (map flow_removed) (expiry-shown (shown_entry rows lost) (shown_entry-goes_along rows lost) now es (shown_entry-together rows lost es rest))
    ∙ told-corrected rows lost now (by_deadline (filter (is_due now) es)) (sorted-fitting lost now (filter (is_due now) es) (due-fitting lost now es fits))
    ∙ ap (λ ns. map (fixed_removed lost) (map flow_removed (filter (is_asked_for (owner_flags rows)) ns))) (sym (expiry-all (shown_entry rows lost) (shown_entry-goes_along rows lost) now es asks))
