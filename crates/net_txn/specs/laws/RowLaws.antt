-- A change that touches no row leaves view and table in agreement, and gives no notice.
use Rattle.std.specs.Prelude.{◌≡◌, ◌==◌, ℕ, ◌≤◌, Bool, true, false, not, ◌&&◌, ◌||◌, List, [], ◌∷◌, map, filter, Option, Some, None, nat_lt, if◌then◌else◌, refl}
use Rattle.std.specs.List.{list_any}
use Rattle.std.proofs.Common.{sym, ap, ◌∙◌, inl, inr, arith}
use Rattle.std.proofs.lemmas.Bool.{cases_Bool, eqb-true, eqb-false, ltb-false, or_cases, or_parts}
use Rattle.of_types.specs.declared.errors.OfError.{OfError}
use Rattle.of_match.specs.declared.key.Key.{Key}
use Rattle.of_match.specs.Key.{key_number}
use Rattle.of_action.specs.declared.action.Action.{Action}
use Rattle.of_wire.specs.declared.bodies.FlowMod.{FlowMod as Change}
use Rattle.flow_table.specs.declared.entry.Entry.{Entry}
use Rattle.flow_table.specs.declared.view.ViewRow.{ViewRow}
use Rattle.flow_table.specs.Table.{place_of, with_entry}
use Rattle.flow_table.specs.Change.{is_modify, is_delete, asks_notice, key_in, describes, sends_to, deletes, adds, new_entry, entries_after, notices_of}
use Rattle.flow_table.specs.Refusals.{no_buffer}
use Rattle.lego_model.specs.Answers.{Rows, rows_of_table, rows_of_view, would_touch, flow_mod_refused, with_notice}
use Rattle.net_txn.specs.Views.{rows_after}
use Rattle.lego_model.specs.ViewRows.{row_in}
use Rattle.flow_table.specs.Sorted.{with_row}
use Rattle.flow_table.specs.RowKeys.{shown_row, held_entry}

-- ---- One row more

with_pair : Key × List Action → Rows → Rows
with_pair r [] = r ∷ []
with_pair r (s ∷ ss) =
    if nat_lt (key_number r.0) (key_number s.0) then r ∷ s ∷ ss
    else if key_number r.0 == key_number s.0 then r ∷ ss
    else s ∷ with_pair r ss

view_if : (below same : Bool) (r s : ViewRow) (ss : List ViewRow) → rows_of_view (with_row r ss) ≡ with_pair (shown_row r) (rows_of_view ss)
    → rows_of_view (if below then r ∷ s ∷ ss else if same then r ∷ ss else s ∷ with_row r ss) ≡ (if below then shown_row r ∷ shown_row s ∷ rows_of_view ss else if same then shown_row r ∷ rows_of_view ss else shown_row s ∷ with_pair (shown_row r) (rows_of_view ss))
view_if true same r s ss rest = refl
view_if false true r s ss rest = refl
view_if false false r s ss rest = ap (λ (rows : Rows). shown_row s ∷ rows) rest

view-with_row : (r : ViewRow) (rows : List ViewRow) → rows_of_view (with_row r rows) ≡ with_pair (shown_row r) (rows_of_view rows)
unfolding with_pair
view-with_row r [] = refl
view-with_row r (s ∷ ss) = view_if (nat_lt (key_number r.key) (key_number s.key)) (key_number r.key == key_number s.key) r s ss (view-with_row r ss)

table_if : (below same : Bool) (e f : Entry) (fs : List Entry) → rows_of_table (with_entry e fs) ≡ with_pair (held_entry e) (rows_of_table fs)
    → rows_of_table (if below then e ∷ f ∷ fs else if same then e ∷ fs else f ∷ with_entry e fs) ≡ (if below then held_entry e ∷ held_entry f ∷ rows_of_table fs else if same then held_entry e ∷ rows_of_table fs else held_entry f ∷ with_pair (held_entry e) (rows_of_table fs))
table_if true same e f fs rest = refl
table_if false true e f fs rest = refl
table_if false false e f fs rest = ap (λ (rows : Rows). held_entry f ∷ rows) rest

table-with_entry : (e : Entry) (es : List Entry) → rows_of_table (with_entry e es) ≡ with_pair (held_entry e) (rows_of_table es)
unfolding with_pair
table-with_entry e [] = refl
table-with_entry e (f ∷ fs) = table_if (nat_lt (place_of e) (place_of f)) (place_of e == place_of f) e f fs (table-with_entry e fs)

-- ---- Tests of rows and of entries

pub any_of_map : {X Y : Type 0} (f : Y → Bool) (g : X → Y) (xs : List X) → list_any f (map g xs) ≡ list_any (λ x. f (g x)) xs
any_of_map f g [] = refl
any_of_map f g (x ∷ xs) = ap (λ (b : Bool). f (g x) || b) (any_of_map f g xs)

pub filter_all : (p : Entry → Bool) (es : List Entry) → list_any p es ≡ false → filter (λ e. not (p e)) es ≡ es
filter_all p [] none = refl
filter_all p (e ∷ es) none = let n = or_parts (p e) (list_any p es) none in rw n.0 (ap (λ (fs : List Entry). e ∷ fs) (filter_all p es n.1))

filter_none : (p q : Entry → Bool) (es : List Entry) → list_any p es ≡ false → filter (λ e. p e && q e) es ≡ []
filter_none p q [] none = refl
filter_none p q (e ∷ es) none = let n = or_parts (p e) (list_any p es) none in rw n.0 (filter_none p q es n.1)

-- ---- What the host lets pass

-- a change as it is sent
abbrev pub sent : Change → Change
sent m = record m { buffer_id = no_buffer; flags = with_notice m.flags }

pub known_if : (first second : Bool) (x y : OfError) (rest : Option OfError) → (if first then Some x else if second then Some y else rest) ≡ None → second ≡ false
known_if true second x y rest none = absurd cc
known_if false true x y rest none = absurd cc
known_if false false x y rest none = refl

pub known_command : (m : Change) → flow_mod_refused m ≡ None → m.command ≤ 4
unfolding flow_mod_refused
known_command m none = ltb-false 4 m.command (known_if _ (nat_lt 4 m.command) _ _ _ none)

pub no_command : (m : Change) → is_delete m ≡ true → ((m.command == 0) ≡ false) × (is_modify m ≡ false)
no_command m is =
    elim (or_cases (m.command == 3) (m.command == 4) is) [
      | inl three ↦ let c : m.command ≡ 3 = eqb-true _ _ three in (rw c refl, rw c refl)
      | inr four ↦ let c : m.command ≡ 4 = eqb-true _ _ four in (rw c refl, rw c refl)
    ]

untouched_delete : (m : Change) (es : List Entry) → is_delete m ≡ true → would_touch m (rows_of_table es) ≡ false → list_any (λ e. deletes (sent m) e) es ≡ false
unfolding would_touch describes
untouched_delete m es is none =
    let c = no_command m is in
    sym (any_of_map (λ (r : Key × List Action). describes m r.0 && sends_to m.out_port r.1) held_entry es) ∙ (rw (c.0, c.1) at none)

pub modifies_or_adds : (m : Change) → is_delete m ≡ false → m.command ≤ 4 → (m.command == 0) ≡ false → is_modify m ≡ true
modifies_or_adds m other known not_add =
    let n = or_parts (m.command == 3) (m.command == 4) other in
    elim (cases_Bool (m.command == 1)) [
      | inl one ↦ rw one refl
      | inr not_one ↦ elim (cases_Bool (m.command == 2)) [
        | inl two ↦ rw (not_one, two) refl
        | inr not_two ↦ absurd (omega (arith, eqb-false (m.command) 0 not_add, eqb-false (m.command) 1 not_one, eqb-false (m.command) 2 not_two, eqb-false (m.command) 3 n.0, eqb-false (m.command) 4 n.1))
      ]
    ]

adds_modify : (m : Change) (es : List Entry) → (m.command == 0) ≡ false → is_modify m ≡ true → would_touch m (rows_of_table es) ≡ false → adds (sent m) es ≡ true
unfolding would_touch describes adds
adds_modify m es not_add modifies none =
    let met : list_any (λ e. describes (sent m) e.key) es ≡ false = sym (any_of_map (λ (r : Key × List Action). describes m r.0) held_entry es) ∙ (rw (not_add, modifies) at none) in
    rw (not_add, modifies, met) refl

adds_always : (m : Change) (es : List Entry) → (m.command == 0) ≡ true → adds (sent m) es ≡ true
unfolding adds
adds_always m es add = rw add refl

-- it is an addition unless it is a DELETE
pub sent_adds : (m : Change) (es : List Entry) → is_delete m ≡ false → m.command ≤ 4 → would_touch m (rows_of_table es) ≡ false → adds (sent m) es ≡ true
sent_adds m es other known none =
    elim (cases_Bool (m.command == 0)) [
      | inl add ↦ adds_always m es add
      | inr not_add ↦ adds_modify m es not_add (modifies_or_adds m other known not_add) none
    ]

sent_deletes : (m : Change) (es : List Entry) → is_delete m ≡ true → adds (sent m) es ≡ false
unfolding adds
sent_deletes m es is = let c = no_command m is in rw (c.0, c.1) refl

-- ---- What it leaves

pub rows_agree : (m : Change) (rows : List ViewRow) (es : List Entry) (now next : ℕ) → rows_of_view rows ≡ rows_of_table es → m.command ≤ 4 → would_touch m (rows_of_view rows) ≡ false
    → rows_of_view (rows_after m rows) ≡ rows_of_table (entries_after now next (sent m) es)
unfolding rows_after entries_after new_entry
rows_agree m rows es now next same known none =
    let apart : would_touch m (rows_of_table es) ≡ false = rw same at none in
    elim (cases_Bool (is_delete m)) [
      | inl deletes_it ↦ rw (deletes_it, sent_deletes m es deletes_it, (no_command m deletes_it).1, filter_all (λ e. deletes (sent m) e) es (untouched_delete m es deletes_it apart)) same
      | inr other ↦ rw (other, sent_adds m es other known apart)
          (view-with_row (row_in m) rows ∙ ap (with_pair (key_in m, m.actions)) same ∙ sym (table-with_entry (new_entry now next (sent m)) es))
    ]

pub no_notices : (m : Change) (es : List Entry) (now : ℕ) → would_touch m (rows_of_table es) ≡ false → notices_of now (sent m) es ≡ []
unfolding notices_of
no_notices m es now none =
    elim (cases_Bool (is_delete m)) [
      | inl deletes_it ↦ rw (deletes_it, filter_none (λ e. deletes (sent m) e) (λ e. asks_notice e.flags) es (untouched_delete m es deletes_it none)) refl
      | inr other ↦ rw other refl
    ]
