-- What the corrections make of a switch's statistics are the statistics of the table as it is shown.
use Rattle.std.proofs.Common.{◌≡◌, ℕ, ◌+◌, ◌-◌, ◌%◌, ◌^◌, ◌<◌, ◌≤◌, true, false, ◌&&◌, List, [], ◌∷◌, length, map, filter, get_or, drop, Option, Some, None, refl, sym, ap, ◌∙◌, arith, inl, inr}
use Rattle.std.specs.List.{sum_by, AllByRecursion}
use Rattle.std.proofs.lemmas.List.Sums.{sum_by-cons}
use Rattle.std.proofs.lemmas.Bool.{cases_Bool, cond-true, cond-false}
use Rattle.of_match.specs.declared.flow_match.Match.{Match}
use Rattle.of_match.specs.declared.key.Key.{Key}
use Rattle.of_action.specs.declared.action.Action.{Action}
use Rattle.match_overlap.specs.Relations.{is_subsuming}
use Rattle.of_stats.specs.declared.flow_row.FlowRow.{FlowRow}
use Rattle.of_stats.specs.declared.sum.Sum.{Sum}
use Rattle.of_wire.specs.declared.bodies.FlowRemoved.{FlowRemoved}
use Rattle.flow_table.specs.declared.entry.Entry.{Entry}
use Rattle.flow_table.specs.declared.lost.Lost.{Lost}
use Rattle.flow_table.specs.declared.view.ViewRow.{ViewRow}
use Rattle.flow_table.specs.Change.{sends_to, notice}
use Rattle.flow_table.specs.Rows.{is_selected, selected}
use Rattle.flow_table.specs.Statistics.{flow_row, sum_of}
use Rattle.flow_table.specs.Step.{flow_removed}
use Rattle.flow_table.specs.Corrected.{row_at, lost_at, asked_flags, with_lost, shown_entry, shown_entries}
use Rattle.flow_table.specs.laws.CorrectedLaws.{key-shown_entry, actions-shown_entry}
use Rattle.counter_cache.specs.Fixed.{row_with, fixed_row, is_met, packets_of, bytes_of, packets_lost, bytes_lost, fixed_sum, removed_with, fixed_removed, AgeFits, Fits, AreOf, RowsAreShown, SumIsShown, NoticeIsShown}
use Rattle.flow_table.specs.RowKeys.{shown_row, held_entry}

-- ---- Durations

-- what had passed, and the lost age
age_added : (moment installed age : ℕ) → moment < 2 ^ 32 → installed ≤ moment → age ≤ installed → (moment - installed + age) % 2 ^ 32 ≡ moment - (installed - age)
age_added moment installed age small before aged = omega arith

-- the owner's flags do not count here
age_of_shown : (found : Option Lost) (e : Entry) (flags : ℕ) → AgeFits found e → AgeFits found (record e { flags = flags })
age_of_shown None e flags fits = tt
age_of_shown (Some l) e flags fits = fits

-- ---- Rows

row_one : (moment : ℕ) (found : Option Lost) (e : Entry) → moment < 2 ^ 32 → e.installed ≤ moment → AgeFits found e → row_with found (flow_row moment e) ≡ flow_row moment (with_lost found e)
row_one moment None e small before aged = refl
row_one moment (Some l) e small before aged = rw (age_added moment e.installed l.age small before aged) refl

row_shown : (lost : List (Key × Lost)) (moment : ℕ) (owners : List ViewRow) (e : Entry) → Fits lost moment e → fixed_row lost (flow_row moment e) ≡ flow_row moment (shown_entry owners lost e)
unfolding fixed_row shown_entry
row_shown lost moment owners e fits =
    row_one moment (lost_at e.key lost) (record e { flags = asked_flags (row_at e.key owners) }) fits.0 fits.1 (age_of_shown (lost_at e.key lost) e _ fits.2)

rows_shown : (lost : List (Key × Lost)) (moment : ℕ) (owners : List ViewRow) (es : List Entry) → AllByRecursion (Fits lost moment) es → map (fixed_row lost) (map (flow_row moment) es) ≡ map (flow_row moment) (shown_entries owners lost es)
rows_shown lost moment owners [] fits = refl
rows_shown lost moment owners (e ∷ es) fits = rw (row_shown lost moment owners e fits.0) (ap (λ (rs : List FlowRow). flow_row moment (shown_entry owners lost e) ∷ rs) (rows_shown lost moment owners es fits.1))

pub RowsAreShown-fixed : (lost : List (Key × Lost)) (old new : List FlowRow) → new ≡ map (fixed_row lost) old → RowsAreShown lost old new
RowsAreShown-fixed lost old new is moment owners es fits of = is ∙ ap (λ (rs : List FlowRow). map (fixed_row lost) rs) of ∙ rows_shown lost moment owners es fits

-- ---- Sums

sum_with : ℕ → ℕ → ℕ → Sum
sum_with packets bytes flows = record { packets = packets; bytes = bytes; flows = flows }

sums_same : (p q b c f g : ℕ) → p ≡ q → b ≡ c → f ≡ g → sum_with p b f ≡ sum_with q c g
sums_same p q b c f g packets bytes flows = ap (λ (n : ℕ). sum_with n b f) packets ∙ ap (λ (n : ℕ). sum_with q n f) bytes ∙ ap (λ (n : ℕ). sum_with q c n) flows

packets_more : (found : Option Lost) (e : Entry) → (with_lost found e).packets % 2 ^ 64 ≡ (e.packets + packets_of found) % 2 ^ 64
packets_more None e = omega arith
packets_more (Some l) e = omega arith

bytes_more : (found : Option Lost) (e : Entry) → (with_lost found e).bytes % 2 ^ 64 ≡ (e.bytes + bytes_of found) % 2 ^ 64
bytes_more None e = omega arith
bytes_more (Some l) e = omega arith

packets_shown : (owners : List ViewRow) (lost : List (Key × Lost)) (e : Entry) → (shown_entry owners lost e).packets % 2 ^ 64 ≡ (e.packets + packets_of (lost_at e.key lost)) % 2 ^ 64
unfolding shown_entry
packets_shown owners lost e = packets_more (lost_at e.key lost) (record e { flags = asked_flags (row_at e.key owners) })

bytes_shown : (owners : List ViewRow) (lost : List (Key × Lost)) (e : Entry) → (shown_entry owners lost e).bytes % 2 ^ 64 ≡ (e.bytes + bytes_of (lost_at e.key lost)) % 2 ^ 64
unfolding shown_entry
bytes_shown owners lost e = bytes_more (lost_at e.key lost) (record e { flags = asked_flags (row_at e.key owners) })

selected_shown : (m : Match) (out_port : ℕ) (owners : List ViewRow) (lost : List (Key × Lost)) (e : Entry) → is_selected m out_port (shown_entry owners lost e) ≡ is_selected m out_port e
unfolding is_selected
selected_shown m out_port owners lost e = rw (key-shown_entry owners lost e, actions-shown_entry owners lost e) refl

selected_met : (m : Match) (out_port : ℕ) (e : Entry) (r : ViewRow) → held_entry e ≡ shown_row r → is_selected m out_port e ≡ is_met m out_port r
unfolding is_selected is_met
selected_met m out_port e r same = ap (λ (x : Key × List Action). is_subsuming m x.0.matching && sends_to out_port x.1) same

-- what a request selects of a table, and of the same table as it is shown
record SumsAgree (m : Match) (out_port : ℕ) (owners : List ViewRow) (lost : List (Key × Lost)) (es : List Entry) (rows : List ViewRow) : Type 0 where
  packets : sum_by (λ e. e.packets) (selected m out_port (shown_entries owners lost es)) % 2 ^ 64 ≡ (sum_by (λ e. e.packets) (selected m out_port es) + packets_lost lost (filter (is_met m out_port) rows)) % 2 ^ 64
  bytes : sum_by (λ e. e.bytes) (selected m out_port (shown_entries owners lost es)) % 2 ^ 64 ≡ (sum_by (λ e. e.bytes) (selected m out_port es) + bytes_lost lost (filter (is_met m out_port) rows)) % 2 ^ 64
  flows : length (selected m out_port (shown_entries owners lost es)) ≡ length (selected m out_port es)

agree_more : (m : Match) (out_port : ℕ) (owners : List ViewRow) (lost : List (Key × Lost)) (e : Entry) (es : List Entry) (r : ViewRow) (rows : List ViewRow) → held_entry e ≡ shown_row r → SumsAgree m out_port owners lost es rows
    → SumsAgree m out_port owners lost (e ∷ es) (r ∷ rows)
agree_more m out_port owners lost e es r rows same agree =
    let shown = shown_entry owners lost e in
    let key : r.key ≡ e.key = sym (ap (λ (x : Key × List Action). x.0) same) in
    elim (cases_Bool (is_selected m out_port e)) [
      | inl passes ↦
          let shown_yes : is_selected m out_port shown ≡ true = selected_shown m out_port owners lost e ∙ passes in
          let met : is_met m out_port r ≡ true = sym (selected_met m out_port e r same) ∙ passes in
          let of_shown : selected m out_port (shown ∷ shown_entries owners lost es) ≡ shown ∷ selected m out_port (shown_entries owners lost es) = cond-true _ _ _ shown_yes in
          let of_table : selected m out_port (e ∷ es) ≡ e ∷ selected m out_port es = cond-true _ _ _ passes in
          let of_rows : filter (is_met m out_port) (r ∷ rows) ≡ r ∷ filter (is_met m out_port) rows = cond-true _ _ _ met in
          let here : packets_of (lost_at r.key lost) ≡ packets_of (lost_at e.key lost) = ap (λ (k : Key). packets_of (lost_at k lost)) key in
          let there : bytes_of (lost_at r.key lost) ≡ bytes_of (lost_at e.key lost) = ap (λ (k : Key). bytes_of (lost_at k lost)) key in
          record {
            packets = rw (of_shown, of_table, of_rows) (omega (
              arith,
              sum_by-cons (λ (f : Entry). f.packets) shown (selected m out_port (shown_entries owners lost es)),
              sum_by-cons (λ (f : Entry). f.packets) e (selected m out_port es),
              sum_by-cons (λ (s : ViewRow). packets_of (lost_at s.key lost)) r (filter (is_met m out_port) rows),
              here,
              packets_shown owners lost e,
              agree.packets,
            ));
            bytes = rw (of_shown, of_table, of_rows) (omega (
              arith,
              sum_by-cons (λ (f : Entry). f.bytes) shown (selected m out_port (shown_entries owners lost es)),
              sum_by-cons (λ (f : Entry). f.bytes) e (selected m out_port es),
              sum_by-cons (λ (s : ViewRow). bytes_of (lost_at s.key lost)) r (filter (is_met m out_port) rows),
              there,
              bytes_shown owners lost e,
              agree.bytes,
            ));
            flows = rw (of_shown, of_table) (omega (arith, agree.flows));
          }
      | inr fails ↦
          let shown_no : is_selected m out_port shown ≡ false = selected_shown m out_port owners lost e ∙ fails in
          let unmet : is_met m out_port r ≡ false = sym (selected_met m out_port e r same) ∙ fails in
          let of_shown : selected m out_port (shown ∷ shown_entries owners lost es) ≡ selected m out_port (shown_entries owners lost es) = cond-false _ _ _ shown_no in
          let of_table : selected m out_port (e ∷ es) ≡ selected m out_port es = cond-false _ _ _ fails in
          let of_rows : filter (is_met m out_port) (r ∷ rows) ≡ filter (is_met m out_port) rows = cond-false _ _ _ unmet in
          record {
            packets = rw (of_shown, of_table, of_rows) agree.packets;
            bytes = rw (of_shown, of_table, of_rows) agree.bytes;
            flows = rw (of_shown, of_table) agree.flows;
          }
    ]

agree : (m : Match) (out_port : ℕ) (owners : List ViewRow) (lost : List (Key × Lost)) (es : List Entry) (rows : List ViewRow) → AreOf es rows → SumsAgree m out_port owners lost es rows
agree m out_port owners lost [] [] of = record { packets = refl; bytes = refl; flows = refl }
agree m out_port owners lost [] (r ∷ rows) of = absurd cc
agree m out_port owners lost (e ∷ es) [] of = absurd cc
agree m out_port owners lost (e ∷ es) (r ∷ rows) of =
    agree_more m out_port owners lost e es r rows (ap (λ (xs : List (Key × List Action)). get_or xs 0 (held_entry e)) of) (agree m out_port owners lost es rows (ap (λ (xs : List (Key × List Action)). drop 1 xs) of))

sum_shown : (m : Match) (out_port : ℕ) (owners : List ViewRow) (lost : List (Key × Lost)) (es : List Entry) → SumsAgree m out_port owners lost es owners
    → fixed_sum lost (filter (is_met m out_port) owners) (sum_of (selected m out_port es)) ≡ sum_of (selected m out_port (shown_entries owners lost es))
unfolding fixed_sum sum_of sum_with
sum_shown m out_port owners lost es agree =
    let packets : (sum_by (λ e. e.packets) (selected m out_port es) % 2 ^ 64 + packets_lost lost (filter (is_met m out_port) owners)) % 2 ^ 64 ≡ sum_by (λ e. e.packets) (selected m out_port (shown_entries owners lost es)) % 2 ^ 64 = omega (arith, agree.packets) in
    let bytes : (sum_by (λ e. e.bytes) (selected m out_port es) % 2 ^ 64 + bytes_lost lost (filter (is_met m out_port) owners)) % 2 ^ 64 ≡ sum_by (λ e. e.bytes) (selected m out_port (shown_entries owners lost es)) % 2 ^ 64 = omega (arith, agree.bytes) in
    sums_same _ _ _ _ _ _ packets bytes (sym agree.flows)

pub SumIsShown-fixed : (lost : List (Key × Lost)) (owners : List ViewRow) (m : Match) (out_port : ℕ) (old new : Sum) → new ≡ fixed_sum lost (filter (is_met m out_port) owners) old → SumIsShown lost owners m out_port old new
SumIsShown-fixed lost owners m out_port old new is es of was =
    is ∙ ap (λ (s : Sum). fixed_sum lost (filter (is_met m out_port) owners) s) was ∙ sum_shown m out_port owners lost es (agree m out_port owners lost es owners of)

-- ---- Notices

notice_one : (reason end : ℕ) (found : Option Lost) (e : Entry) → end < 2 ^ 32 → e.installed ≤ end → AgeFits found e → removed_with found (flow_removed (notice reason end e)) ≡ flow_removed (notice reason end (with_lost found e))
notice_one reason end None e small before aged = refl
notice_one reason end (Some l) e small before aged = rw (age_added end e.installed l.age small before aged) refl

notice_shown : (lost : List (Key × Lost)) (reason end : ℕ) (owners : List ViewRow) (e : Entry) → Fits lost end e → fixed_removed lost (flow_removed (notice reason end e)) ≡ flow_removed (notice reason end (shown_entry owners lost e))
unfolding fixed_removed shown_entry
notice_shown lost reason end owners e fits =
    notice_one reason end (lost_at e.key lost) (record e { flags = asked_flags (row_at e.key owners) }) fits.0 fits.1 (age_of_shown (lost_at e.key lost) e _ fits.2)

pub NoticeIsShown-fixed : (lost : List (Key × Lost)) (old new : FlowRemoved) → new ≡ fixed_removed lost old → NoticeIsShown lost old new
NoticeIsShown-fixed lost old new is reason end owners e fits was = is ∙ ap (λ (f : FlowRemoved). fixed_removed lost f) was ∙ notice_shown lost reason end owners e fits
