-- The judge of the engine says of its views what that of the reference controller says of the switches that it shows.
use Rattle.std.proofs.Common.{◌≡◌, ◌==◌, ℕ, ◌+◌, ◌<◌, ◌≤◌, true, false, List, [], ◌∷◌, ◌++◌, map, Option, Some, None, refl, sym, ap, ap₂, ◌∙◌, subst, arith, inl, inr}
use Rattle.std.proofs.lemmas.Bool.{cases_Bool, eqb-true, eqb-false, eq-eqb, ne_eqb, true≢false}
use Rattle.std.proofs.lemmas.Option.{same_Some}
use Rattle.std.specs.Option.{option_map}
use Rattle.of_match.specs.declared.key.Key.{Key}
use Rattle.of_action.specs.declared.action.Action.{Action}
use Rattle.flow_table.specs.declared.entry.Entry.{Entry}
use Rattle.flow_table.specs.declared.view.ViewRow.{ViewRow}
use Rattle.flow_table.specs.RowKeys.{shown_row}
use Rattle.flow_table.specs.View.{TableView}
use Rattle.flow_table.specs.Switch.{Declared, SwitchState}
use Rattle.undo_laws.specs.CorrectedSwitch.{corrected_switch}
use Rattle.lego_model.specs.Answers.{Rows, rows_of_table, rows_of_view}
use Rattle.outside.specs.Seen.{Seen, is_declared}
use Rattle.outside.specs.State.{state, switch_of}
use Rattle.outside.specs.Conforming.{AreDeclaredFrom, Conforming}
use Rattle.net_txn.specs.Net.{NetState}
use Rattle.net_txn.specs.Agrees.{known_rows}
use Rattle.net_txn.specs.Views.{rows_at, ViewsAscend}
use Rattle.switch_laws.specs.Shown.{places, shown_by, shown_switch, shown_places, correction_in, rows_or_none}
use Rattle.switch_laws.specs.Since.{Ready}
use Rattle.switch_laws.specs.laws.CorrectionLaws.{goes_along}
use Rattle.switch_laws.specs.laws.StandLaws.{all-stand}
use Rattle.run_laws.specs.Readings.{JudgesAlike}
use Rattle.net_guard.specs.declared.quota.ChosenJudge.{ChosenJudge}
use Rattle.net_guard.specs.Judging.{Face, face_of, row_with, is_allowed}
use Rattle.net_guard.specs.laws.FaceLaws.{allowed-alike}
use Rattle.legosdn.specs.Said.{table_of, tables_of, allowed_by}

-- ---- A table as its rows are known

-- the keys and actions of a switch, while it is joined
abbrev rows_in : Option SwitchState → Option Rows
rows_in o = option_map (λ x. rows_of_table x.table.entries) o

rows-face : (rows : Rows) → map shown_row (map row_with rows) ≡ rows
rows-face [] = refl
rows-face (row ∷ rows) = ap (λ (more : Rows). row ∷ more) (rows-face rows)

rows-shown : (rows : List ViewRow) (es : List Entry) → rows_of_table (map (correction_in rows) es) ≡ rows_of_table es
rows-shown rows [] = refl
rows-shown rows (e ∷ es) =
    let kept = (goes_along rows).corrects in
    ap₂ (λ (row : Key × List Action) (more : Rows). row ∷ more) (λ i. (kept.key e i, kept.actions e i)) (rows-shown rows es)

switch-shown : (rows : List ViewRow) (o : Option SwitchState) → rows_in (option_map (corrected_switch (correction_in rows)) o) ≡ rows_in o
switch-shown rows None = refl
switch-shown rows (Some s) = ap (λ (r : Rows). Some r) (rows-shown rows s.table.entries)

-- ---- Views and declared switches, both ascending

declared-above : (least d : ℕ) (ds : List Declared) → AreDeclaredFrom least ds → is_declared d ds ≡ true → least ≤ d
declared-above least d [] are is = absurd cc
declared-above least d (x ∷ xs) are is =
    elim (cases_Bool (x.dpid == d)) [
      | inl here ↦ let same = eqb-true x.dpid d here in omega (arith, are.0, same)
      | inr other ↦ let above = declared-above (x.dpid + 1) d xs are.2 (rw other at is) in omega (arith, are.0, above)
    ]

none-below : (least d : ℕ) (vs : List TableView) → ViewsAscend least vs → d < least → rows_at d vs ≡ None
none-below least d [] order below = refl
none-below least d (v ∷ vs) order below =
    let apart : (v.dpid == d) ≡ false = ne_eqb v.dpid d (λ same. omega (arith, order.0, below, same)) in
    rw apart (none-below (v.dpid + 1) d vs order.1 (omega (arith, order.0, below)))

first-rows : (v : TableView) (vs : List TableView) → known_rows v.dpid (v ∷ vs) ≡ Some (map shown_row v.rows)
first-rows v vs = rw (eq-eqb v.dpid v.dpid refl) refl

later-rows : (d : ℕ) (v : TableView) (vs : List TableView) → (v.dpid == d) ≡ false → known_rows d (v ∷ vs) ≡ known_rows d vs
later-rows d v vs other = rw other refl

-- what is known of each switch from a number on is what there is of it, and it is a declared one
record Knows (f : ℕ → Option SwitchState) (least : ℕ) (ds : List Declared) (vs : List TableView) : Type 0 where
  declared : AreDeclaredFrom least ds
  order : ViewsAscend least vs
  known : (d : ℕ) → least ≤ d → known_rows d vs ≡ rows_in (f d)
  none : (d : ℕ) → least ≤ d → is_declared d ds ≡ false → f d ≡ None

-- a switch with a view is declared
viewed-declared : (f : ℕ → Option SwitchState) (least : ℕ) (ds : List Declared) (v : TableView) (vs : List TableView) → Knows f least ds (v ∷ vs) → is_declared v.dpid ds ≡ true
viewed-declared f least ds v vs k =
    elim (cases_Bool (is_declared v.dpid ds)) [
      | inl is ↦ is
      | inr other ↦ absurd (cc (sym (first-rows v vs) ∙ k.known v.dpid k.order.0 ∙ ap rows_in (k.none v.dpid k.order.0 other)))
    ]

-- behind the first declared switch
none-later : (f : ℕ → Option SwitchState) (least : ℕ) (x : Declared) (xs : List Declared) → least ≤ x.dpid → ((d : ℕ) → least ≤ d → is_declared d (x ∷ xs) ≡ false → f d ≡ None) → (d : ℕ) → x.dpid + 1 ≤ d → is_declared d xs ≡ false → f d ≡ None
none-later f least x xs le none d above other =
    let apart : (x.dpid == d) ≡ false = ne_eqb x.dpid d (λ same. omega (arith, above, same)) in
    none d (omega (arith, le, above)) (rw apart other)

-- the first view is of another switch than the first declared one: then of a later one
view-later : (f : ℕ → Option SwitchState) (least : ℕ) (x : Declared) (xs : List Declared) (v : TableView) (vs : List TableView) → Knows f least (x ∷ xs) (v ∷ vs) → (v.dpid == x.dpid) ≡ false → x.dpid + 1 ≤ v.dpid
view-later f least x xs v vs k other =
    let apart : (x.dpid == v.dpid) ≡ false = ne_eqb x.dpid v.dpid (λ same. eqb-false v.dpid x.dpid other (sym same)) in
    declared-above (x.dpid + 1) v.dpid xs k.declared.2 (rw apart at (viewed-declared f least (x ∷ xs) v vs k))

-- the first declared switch is out
order-out : (f : ℕ → Option SwitchState) (least : ℕ) (x : Declared) (xs : List Declared) (vs : List TableView) → Knows f least (x ∷ xs) vs → f x.dpid ≡ None → ViewsAscend (x.dpid + 1) vs
order-out f least x xs [] k out = tt
order-out f least x xs (v ∷ vs) k out =
    elim (cases_Bool (v.dpid == x.dpid)) [
      | inl here ↦
          let same = eqb-true v.dpid x.dpid here in
          absurd (cc (sym (first-rows v vs) ∙ k.known v.dpid k.order.0 ∙ ap (λ (n : ℕ). rows_in (f n)) same ∙ ap rows_in out))
      | inr other ↦ (view-later f least x xs v vs k other, k.order.1)
    ]

knows-out : (f : ℕ → Option SwitchState) (least : ℕ) (x : Declared) (xs : List Declared) (vs : List TableView) → Knows f least (x ∷ xs) vs → f x.dpid ≡ None → Knows f (x.dpid + 1) xs vs
knows-out f least x xs vs k out = record {
  declared = k.declared.2;
  order = order-out f least x xs vs k out;
  known = λ d above. let le = k.declared.0 in k.known d (omega (arith, le, above));
  none = none-later f least x xs k.declared.0 k.none;
}

-- the first declared switch is in: the first view is its
here-joined : (f : ℕ → Option SwitchState) (least : ℕ) (x : Declared) (xs : List Declared) (v : TableView) (vs : List TableView) (s : SwitchState) → Knows f least (x ∷ xs) (v ∷ vs) → f x.dpid ≡ Some s → v.dpid ≡ x.dpid
here-joined f least x xs v vs s k joined =
    elim (cases_Bool (v.dpid == x.dpid)) [
      | inl here ↦ eqb-true v.dpid x.dpid here
      | inr other ↦
          let later = view-later f least x xs v vs k other in
          let none = none-below (v.dpid + 1) x.dpid vs k.order.1 (omega (arith, later)) in
          absurd (cc (sym (ap rows_in joined) ∙ sym (k.known x.dpid k.declared.0) ∙ later-rows x.dpid v vs other ∙ ap (option_map rows_of_view) none))
    ]

knows-joined : (f : ℕ → Option SwitchState) (least : ℕ) (x : Declared) (xs : List Declared) (v : TableView) (vs : List TableView) (s : SwitchState) → Knows f least (x ∷ xs) (v ∷ vs) → v.dpid ≡ x.dpid → Knows f (x.dpid + 1) xs vs
knows-joined f least x xs v vs s k same = record {
  declared = k.declared.2;
  order = subst (λ (n : ℕ). ViewsAscend (n + 1) vs) same k.order.1;
  known = λ d above.
      let le = k.declared.0 in
      sym (later-rows d v vs (ne_eqb v.dpid d (λ is. omega (arith, above, is, same)))) ∙ k.known d (omega (arith, le, above));
  none = none-later f least x xs k.declared.0 k.none;
}

-- the first table looks as the first view does
face-joined : (f : ℕ → Option SwitchState) (least : ℕ) (x : Declared) (xs : List Declared) (v : TableView) (vs : List TableView) (s : SwitchState) → Knows f least (x ∷ xs) (v ∷ vs) → f x.dpid ≡ Some s → v.dpid ≡ x.dpid
    → ◌≡◌ {A = Face} (x.dpid, map shown_row (map row_with (rows_of_table s.table.entries))) (face_of v)
face-joined f least x xs v vs s k joined same =
    let rows : map shown_row v.rows ≡ rows_of_table s.table.entries =
    same_Some (map shown_row v.rows) (rows_of_table s.table.entries) (sym (first-rows v vs) ∙ k.known v.dpid k.order.0 ∙ ap (λ (n : ℕ). rows_in (f n)) same ∙ ap rows_in joined) in
    ap₂ (λ (n : ℕ) (rs : Rows). (n, rs)) (sym same) (rows-face (rows_of_table s.table.entries) ∙ sym rows)

faces-none : (f : ℕ → Option SwitchState) (least : ℕ) (vs : List TableView) → Knows f least [] vs → map face_of vs ≡ []
faces-none f least [] k = refl
faces-none f least (v ∷ vs) k = absurd (true≢false (sym (viewed-declared f least [] v vs k)))

-- the tables of the places look as the views do
abbrev FacesAre : (ℕ → Option SwitchState) → List Declared → List TableView → Type 0
FacesAre f ds vs = map face_of (tables_of (places f ds)) ≡ map face_of vs

faces-first : (f : ℕ → Option SwitchState) (least : ℕ) (x : Declared) (xs : List Declared) → ((ws : List TableView) → Knows f (x.dpid + 1) xs ws → FacesAre f xs ws)
    → (o : Option SwitchState) → f x.dpid ≡ o → (vs : List TableView) → Knows f least (x ∷ xs) vs → map face_of (table_of x.dpid o ++ tables_of (places f xs)) ≡ map face_of vs
faces-first f least x xs rest None out vs k = rest vs (knows-out f least x xs vs k out)
faces-first f least x xs rest (Some s) joined [] k = absurd (cc (sym (ap rows_in joined) ∙ sym (k.known x.dpid k.declared.0)))
faces-first f least x xs rest (Some s) joined (v ∷ vs) k =
    let same = here-joined f least x xs v vs s k joined in
    ap₂ (λ (face : Face) (more : List Face). face ∷ more) (face-joined f least x xs v vs s k joined same) (rest vs (knows-joined f least x xs v vs s k same))

faces-from : (f : ℕ → Option SwitchState) (least : ℕ) (ds : List Declared) (vs : List TableView) → Knows f least ds vs → FacesAre f ds vs
faces-from f least [] vs k = sym (faces-none f least vs k)
faces-from f least (x ∷ xs) vs k = faces-first f least x xs (faces-from f (x.dpid + 1) xs) (f x.dpid) refl vs k

-- ---- The switches of a world that keeps its word

declared-lower : (ds : List Declared) → AreDeclaredFrom 1 ds → AreDeclaredFrom 0 ds
declared-lower [] are = tt
declared-lower (x ∷ xs) are = (omega arith, are.1, are.2)

knows-shown : {Own : Type 0} (seen : Seen Own) (net : NetState) → Conforming seen → Ready seen net → ViewsAscend 0 net.views → Knows (shown_switch (shown_by net) (state seen)) 0 seen.given.declared net.views
knows-shown seen net keeps ready order = record {
  declared = declared-lower seen.given.declared keeps.declared;
  order = order;
  known = λ d least. ready.agrees d ∙ sym (switch-shown (rows_or_none (rows_at d net.views)) (switch_of d (state seen)));
  none = λ d least other. ap (option_map _) ((all-stand seen).undeclared d other);
}

faces-shown : {Own : Type 0} (seen : Seen Own) (net : NetState) → Conforming seen → Ready seen net → ViewsAscend 0 net.views
    → map face_of (tables_of (shown_places seen.given.declared (shown_by net) (state seen))) ≡ map face_of net.views
unfolding shown_places
faces-shown seen net keeps ready order = faces-from (shown_switch (shown_by net) (state seen)) 0 seen.given.declared net.views (knows-shown seen net keeps ready order)

pub judges_alike : (Own : Type 0) (judge : ChosenJudge) → JudgesAlike Own (allowed_by judge) (is_allowed judge)
unfolding allowed_by
judges_alike Own judge = record { alike = λ seen net keeps ready order. allowed-alike judge (tables_of (shown_places seen.given.declared (shown_by net) (state seen))) net.views (faces-shown seen net keeps ready order) }
