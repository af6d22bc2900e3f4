-- Laws of views: lookup, and where a change stands.
use Rattle.std.specs.Prelude.{◌≡◌, ◌≢◌, ◌==◌, ℕ, ◌<◌, nat_lt, Bool, true, false, ◌||◌, List, [], ◌∷◌, length, filter, Option, Some, None, if◌then◌else◌, refl}
use Rattle.std.specs.List.{list_any}
use Rattle.std.specs.Option.{is_some, option_map}
use Rattle.std.proofs.Common.{zero, suc, get_or, set, sym, ap, ◌∙◌, arith, eq-eqb, subst}
use Rattle.std.proofs.lemmas.Bool.{eqb-true, ne_eqb}
use Rattle.of_match.specs.Key.{key_number}
use Rattle.flow_table.specs.declared.view.ViewRow.{ViewRow}
use Rattle.flow_table.specs.View.{TableView}
use Rattle.flow_table.specs.Sorted.{AreRows, at_place, row_place}
use Rattle.flow_table.specs.laws.SortedLaws.{Ascends-with_item}
use Rattle.net_txn.specs.Views.{rows_at, is_viewed, with_rows, with_added, IsViewAt, AreInKeyOrder}
use Rattle.net_txn.specs.Joining.{with_view}

-- ---- Views

none_at : (d : ℕ) (change : List ViewRow → List ViewRow) (v : TableView) (vs : List TableView) (here : Bool) → (rows_at d vs ≡ None → with_rows d change vs ≡ vs) → (if here then Some v.rows else rows_at d vs) ≡ None
    → (if here then record v { rows = change v.rows } ∷ vs else v ∷ with_rows d change vs) ≡ v ∷ vs
none_at d change v vs true rest none = absurd cc
none_at d change v vs false rest none = ap (λ (others : List TableView). v ∷ others) (rest none)

pub with_rows-none : (d : ℕ) (change : List ViewRow → List ViewRow) (vs : List TableView) → rows_at d vs ≡ None → with_rows d change vs ≡ vs
with_rows-none d change [] none = refl
with_rows-none d change (v ∷ vs) none = none_at d change v vs (v.dpid == d) (with_rows-none d change vs) none

kept_at : (d : ℕ) (v : TableView) (vs : List TableView) (here : Bool) → with_rows d (λ rows. rows) vs ≡ vs → (if here then v ∷ vs else v ∷ with_rows d (λ rows. rows) vs) ≡ v ∷ vs
kept_at d v vs true rest = refl
kept_at d v vs false rest = ap (λ (others : List TableView). v ∷ others) rest

pub with_rows-kept : (d : ℕ) (vs : List TableView) → with_rows d (λ rows. rows) vs ≡ vs
with_rows-kept d [] = refl
with_rows-kept d (v ∷ vs) = kept_at d v vs (v.dpid == d) (with_rows-kept d vs)

pub with_rows-at : (d : ℕ) (change : List ViewRow → List ViewRow) (vs : List TableView) (i : ℕ) (v : TableView) → IsViewAt d vs i → with_rows d change vs ≡ set vs i (record (get_or vs i v) { rows = change (get_or vs i v).rows })
with_rows-at d change [] i v is = absurd is
with_rows-at d change (w ∷ ws) zero v is = rw (eq-eqb _ _ is) refl
with_rows-at d change (w ∷ ws) (suc i) v is = rw is.0 (ap (λ (rest : List TableView). w ∷ rest) (with_rows-at d change ws i v is.1))

pub with_rows-placed : (d : ℕ) (change : List ViewRow → List ViewRow) (views seen : List TableView) (i : ℕ) (v : TableView) (new : List ViewRow) → seen ≡ views → IsViewAt d seen i → v ≡ get_or views i v → new ≡ change v.rows
    → set views i (record { dpid = v.dpid; rows = new }) ≡ with_rows d change views
with_rows-placed d change views seen i v new e is at changed =
    let there = subst (λ (vs : List TableView). IsViewAt d vs i) e is in
    rw changed (ap (λ (w : TableView). set views i (record { dpid = w.dpid; rows = change w.rows })) at ∙ sym (with_rows-at d change views i v there))

pub IsViewAt-within : (d : ℕ) (vs : List TableView) (i : ℕ) → IsViewAt d vs i → i < length vs
IsViewAt-within d [] i is = absurd is
IsViewAt-within d (w ∷ ws) zero is = omega arith
IsViewAt-within d (w ∷ ws) (suc i) is = omega (arith, IsViewAt-within d ws i is.1)

same_rows : (xs ys : List ViewRow) → Some xs ≡ Some ys → xs ≡ ys
same_rows xs ys e = cc

same_at : (d : ℕ) (change : List ViewRow → List ViewRow) (v : TableView) (vs : List TableView) (rows : List ViewRow) (here : Bool) → (v.dpid == d) ≡ here → (rows_at d vs ≡ Some rows → rows_at d (with_rows d change vs) ≡ Some (change rows))
    → (if here then Some v.rows else rows_at d vs) ≡ Some rows → rows_at d (if here then record v { rows = change v.rows } ∷ vs else v ∷ with_rows d change vs) ≡ Some (change rows)
same_at d change v vs rows true e rest is = rw e (ap (λ (xs : List ViewRow). Some (change xs)) (same_rows v.rows rows is))
same_at d change v vs rows false e rest is = rw e (rest is)

pub rows_at-same : (d : ℕ) (change : List ViewRow → List ViewRow) (vs : List TableView) (rows : List ViewRow) → rows_at d vs ≡ Some rows → rows_at d (with_rows d change vs) ≡ Some (change rows)
rows_at-same d change [] rows is = absurd cc
rows_at-same d change (v ∷ vs) rows is = same_at d change v vs rows (v.dpid == d) refl (rows_at-same d change vs rows) is

changed_at : (d : ℕ) (change : List ViewRow → List ViewRow) (vs : List TableView) (o : Option (List ViewRow)) → rows_at d vs ≡ o → rows_at d (with_rows d change vs) ≡ option_map change (rows_at d vs)
changed_at d change vs (Some rows) is = rows_at-same d change vs rows is ∙ sym (ap (option_map change) is)
changed_at d change vs None is = ap (rows_at d) (with_rows-none d change vs is) ∙ (is ∙ sym (ap (option_map change) is))

-- whether it is joined or not
pub rows_at-changed : (d : ℕ) (change : List ViewRow → List ViewRow) (vs : List TableView) → rows_at d (with_rows d change vs) ≡ option_map change (rows_at d vs)
rows_at-changed d change vs = changed_at d change vs (rows_at d vs) refl

other_at : (d e : ℕ) (change : List ViewRow → List ViewRow) (v : TableView) (vs : List TableView) (here : Bool) → e ≢ d → (v.dpid == d) ≡ here → rows_at e (with_rows d change vs) ≡ rows_at e vs
    → rows_at e (if here then record v { rows = change v.rows } ∷ vs else v ∷ with_rows d change vs) ≡ (if v.dpid == e then Some v.rows else rows_at e vs)
other_at d e change v vs true other is rest = let apart : (v.dpid == e) ≡ false = ne_eqb v.dpid e (λ same. other (sym same ∙ eqb-true v.dpid d is)) in rw apart refl
other_at d e change v vs false other is rest = ap (λ (o : Option (List ViewRow)). if v.dpid == e then Some v.rows else o) rest

pub rows_at-other : (d e : ℕ) (change : List ViewRow → List ViewRow) (vs : List TableView) → e ≢ d → rows_at e (with_rows d change vs) ≡ rows_at e vs
rows_at-other d e change [] other = refl
rows_at-other d e change (v ∷ vs) other = other_at d e change v vs (v.dpid == d) other refl (rows_at-other d e change vs other)

-- a change leaves who has a view

found_stays : (found : Bool) (a b : List ViewRow) (o : Option (List ViewRow)) → is_some (if found then Some a else o) ≡ is_some (if found then Some b else o)
found_stays true a b o = refl
found_stays false a b o = refl

behind_stays : (found : Bool) (a : List ViewRow) (o p : Option (List ViewRow)) → is_some o ≡ is_some p → is_some (if found then Some a else o) ≡ is_some (if found then Some a else p)
behind_stays true a o p same = refl
behind_stays false a o p same = same

stays_if : (here : Bool) (d e : ℕ) (change : List ViewRow → List ViewRow) (v : TableView) (vs : List TableView) → is_some (rows_at e (with_rows d change vs)) ≡ is_some (rows_at e vs)
    → is_some (rows_at e (if here then record v { rows = change v.rows } ∷ vs else v ∷ with_rows d change vs)) ≡ is_some (rows_at e (v ∷ vs))
stays_if true d e change v vs rest = found_stays (v.dpid == e) (change v.rows) v.rows (rows_at e vs)
stays_if false d e change v vs rest = behind_stays (v.dpid == e) v.rows (rows_at e (with_rows d change vs)) (rows_at e vs) rest

pub rows_at-stays : (d e : ℕ) (change : List ViewRow → List ViewRow) (vs : List TableView) → is_some (rows_at e (with_rows d change vs)) ≡ is_some (rows_at e vs)
rows_at-stays d e change [] = refl
rows_at-stays d e change (v ∷ vs) = stays_if (v.dpid == d) d e change v vs (rows_at-stays d e change vs)

-- ---- Rows in key order

-- whether some row has a key, by what stands at its place
row_if : (here : Bool) (r : ViewRow) (rest : Bool) (o : Option ViewRow) → rest ≡ is_some o → (here || rest) ≡ is_some (if here then Some r else o)
row_if true r rest o is = refl
row_if false r rest o is = is

pub any_row : (n : ℕ) (rows : List ViewRow) → list_any (λ r. key_number r.key == n) rows ≡ is_some (at_place row_place n rows)
any_row n [] = refl
any_row n (r ∷ rs) = row_if (key_number r.key == n) r (list_any (λ s. key_number s.key == n) rs) (at_place row_place n rs) (any_row n rs)

pub AreRows-with_added : (row : Option ViewRow) (rows : List ViewRow) → AreRows rows → AreRows (with_added row rows)
AreRows-with_added None rows h = h
AreRows-with_added (Some row) rows h = Ascends-with_item row_place rows row h

pub AreInKeyOrder-read : (vs : List TableView) (i : ℕ) (v : TableView) → AreInKeyOrder vs → i < length vs → v ≡ get_or vs i v → AreRows v.rows
AreInKeyOrder-read [] i v h within is = absurd (omega arith)
AreInKeyOrder-read (w ∷ ws) zero v h within is = subst (λ (x : TableView). AreRows x.rows) (sym is) h.0
AreInKeyOrder-read (w ∷ ws) (suc i) v h within is = AreInKeyOrder-read ws i v h.1 (omega arith) is

order_at : (here : Bool) (v : TableView) (o : Option (List ViewRow)) (rows : List ViewRow) → AreRows v.rows → (o ≡ Some rows → AreRows rows) → (if here then Some v.rows else o) ≡ Some rows → AreRows rows
order_at true v o rows h rest is = subst AreRows (same_rows v.rows rows is) h
order_at false v o rows h rest is = rest is

pub AreInKeyOrder-at : (d : ℕ) (vs : List TableView) (rows : List ViewRow) → AreInKeyOrder vs → rows_at d vs ≡ Some rows → AreRows rows
AreInKeyOrder-at d [] rows h is = absurd cc
AreInKeyOrder-at d (v ∷ vs) rows h is = order_at (v.dpid == d) v (rows_at d vs) rows h.0 (AreInKeyOrder-at d vs rows h.1) is

changed_if : (here : Bool) (d : ℕ) (change : List ViewRow → List ViewRow) (v : TableView) (vs : List TableView) → ((rows : List ViewRow) → AreRows rows → AreRows (change rows)) → AreInKeyOrder (v ∷ vs) → AreInKeyOrder (with_rows d change vs)
    → AreInKeyOrder (if here then record v { rows = change v.rows } ∷ vs else v ∷ with_rows d change vs)
changed_if true d change v vs keeps h rest = (keeps v.rows h.0, h.1)
changed_if false d change v vs keeps h rest = (h.0, rest)

pub AreInKeyOrder-with_rows : (d : ℕ) (change : List ViewRow → List ViewRow) (vs : List TableView) → ((rows : List ViewRow) → AreRows rows → AreRows (change rows)) → AreInKeyOrder vs → AreInKeyOrder (with_rows d change vs)
AreInKeyOrder-with_rows d change [] keeps h = tt
AreInKeyOrder-with_rows d change (v ∷ vs) keeps h = changed_if (v.dpid == d) d change v vs keeps h (AreInKeyOrder-with_rows d change vs keeps h.1)

left_if : (stays : Bool) (v : TableView) (vs : List TableView) → AreRows v.rows → AreInKeyOrder vs → AreInKeyOrder (if stays then v ∷ vs else vs)
left_if true v vs h rest = (h, rest)
left_if false v vs h rest = rest

pub AreInKeyOrder-filter : (stays : TableView → Bool) (vs : List TableView) → AreInKeyOrder vs → AreInKeyOrder (filter stays vs)
AreInKeyOrder-filter stays [] h = tt
AreInKeyOrder-filter stays (v ∷ vs) h = left_if (stays v) v (filter stays vs) h.0 (AreInKeyOrder-filter stays vs h.1)

joined_if : (lower : Bool) (d : ℕ) (v : TableView) (vs rest : List TableView) → AreInKeyOrder (v ∷ vs) → AreInKeyOrder rest → AreInKeyOrder (if lower then v ∷ rest else record { dpid = d; rows = [] } ∷ v ∷ vs)
joined_if true d v vs rest h more = (h.0, more)
joined_if false d v vs rest h more = (tt, h)

pub AreInKeyOrder-with_view : (d : ℕ) (vs : List TableView) → AreInKeyOrder vs → AreInKeyOrder (with_view d vs)
AreInKeyOrder-with_view d [] h = (tt, tt)
AreInKeyOrder-with_view d (v ∷ vs) h = joined_if (nat_lt v.dpid d) d v vs (with_view d vs) h (AreInKeyOrder-with_view d vs h.1)

-- ---- Which switches have views

viewed_if : (here : Bool) (v : TableView) (rest : Bool) (o : Option (List ViewRow)) → rest ≡ is_some o → (here || rest) ≡ is_some (if here then Some v.rows else o)
viewed_if true v rest o is = refl
viewed_if false v rest o is = is

pub viewed : (d : ℕ) (views : List TableView) → is_viewed d views ≡ is_some (rows_at d views)
viewed d [] = refl
viewed d (v ∷ vs) = viewed_if (v.dpid == d) v (is_viewed d vs) (rows_at d vs) (viewed d vs)
