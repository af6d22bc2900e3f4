-- Steps of loops that look for a view; the order of its rows; and what a change of one view shows.
use Rattle.std.proofs.Common.{◌≡◌, ◌==◌, ℕ, zero, suc, ◌+◌, ◌<◌, Bool, true, false, ◌||◌, ◌⊎◌, List, [], ◌∷◌, ◌++◌, length, map, reverse, get_or, set, take, drop, None, Some, IfSome, MatchOption, Option, Result, Ok, Err, OnOk, OnErr, refl, sym, ap, ◌∙◌, subst, inl, inr, arith}
use Rattle.std.specs.List.{list_any}
use Rattle.std.specs.Option.{is_some}
use Rattle.std.proofs.Math.Seq.{drop-cons}
use Rattle.std.proofs.Math.Seq.{map-set_same}
use Rattle.std.proofs.Math.Bool.{or-false}
use Rattle.std.proofs.lemmas.Bool.{eqb-true, eq-eqb, or_cases}
use Rattle.std.proofs.lemmas.List.{length-map, take_more, reverse-append}
use Rattle.of_match.specs.Key.{key_number}
use Rattle.flow_table.specs.Sorted.{AreRows, at_place, row_place}
use Rattle.flow_table.specs.declared.view.ViewRow.{ViewRow}
use Rattle.flow_table.specs.ViewRows.{ViewRows}
use Rattle.flow_table.specs.declared.view.TableView.{TableView as Lent}
use Rattle.flow_table.specs.View.{TableView, plain, plains}
use Rattle.flow_table.specs.laws.PlainLaws.{plains-read, plains-set, switches-more}
use Rattle.net_txn.specs.Views.{rows_at, with_rows, is_viewed, IsViewAt, AreInKeyOrder}
use Rattle.net_txn.specs.Undos.{switches_of}
use Rattle.net_txn.specs.laws.ViewLaws.{with_rows-placed, IsViewAt-within, AreInKeyOrder-read, AreInKeyOrder-at, any_row}

abbrev pub ViewPlaces : ℕ → List Lent → ℕ → Type 0
ViewPlaces d views i = (j : ℕ) → IsViewAt d (plains (drop i views)) j → IsViewAt d (plains views) (i + j)

front : (X : Type 0) (xs : List X) (i : ℕ) (x : X) → i < length xs → x ≡ get_or xs i x → drop i xs ≡ x ∷ drop (i + 1) xs
front X xs i x lt is =
    let next : suc i ≡ i + 1 = omega arith in
    drop-cons xs i x lt ∙ ap (λ (y : X). y ∷ drop (suc i) xs) (sym is) ∙ ap (λ (n : ℕ). x ∷ drop n xs) next

pub views_more : (d : ℕ) (views : List Lent) (i : ℕ) (v : Lent) → i < length views → v ≡ get_or views i v → (v.dpid == d) ≡ false → ViewPlaces d views i → ViewPlaces d views (i + 1)
views_more d views i v lt is other before j h =
    let here : IsViewAt d (plains (drop i views)) (suc j) = subst (λ (xs : List Lent). IsViewAt d (plains xs) (suc j)) (sym (front Lent views i v lt is)) (other, h) in
    let same : i + suc j ≡ i + 1 + j = omega arith in
    subst (IsViewAt d (plains views)) same (before (suc j) here)

pub views_stop : (d : ℕ) (views : List Lent) (i : ℕ) (v : Lent) → i < length views → v ≡ get_or views i v → v.dpid ≡ d → ViewPlaces d views i → IsViewAt d (plains views) i
views_stop d views i v lt is same_dpid before =
    let here : IsViewAt d (plains (drop i views)) 0 = subst (λ (xs : List Lent). IsViewAt d (plains xs) 0) (sym (front Lent views i v lt is)) same_dpid in
    let same : i + 0 ≡ i = omega arith in
    subst (IsViewAt d (plains views)) same (before 0 here)

pub view_within : (d : ℕ) (views : List Lent) (i : ℕ) → IsViewAt d (plains views) i → i < length views
view_within d views i is = subst (λ (n : ℕ). i < n) (length-map views plain) (IsViewAt-within d (plains views) i is)

pub within_items : (d : ℕ) (views seen : List Lent) (i : ℕ) → seen ≡ views → IsViewAt d (plains seen) i → i < length views
within_items d views seen i same is = subst (λ (vs : List Lent). i < length vs) same (view_within d seen i is)

-- the rows of a view that was read stand in key order
pub rows_in_order : (views : List Lent) (i : ℕ) (v : Lent) → AreInKeyOrder (plains views) → i < length views → v ≡ get_or views i v → AreRows v.rows.rows
rows_in_order views i v h within is =
    AreInKeyOrder-read (plains views) i (plain v) h (subst (λ (n : ℕ). i < n) (sym (length-map views plain)) within) (plains-read views i v within is)

-- those of the view that was found
pub found_order : {X : Type 0} (d : ℕ) (rows_of : X → List ViewRow) (vs : List TableView) (o : Option X) → AreInKeyOrder vs → MatchOption o (rows_at d vs ≡ None) (λ v. rows_at d vs ≡ Some (rows_of v)) → IfSome o (λ v. AreRows (rows_of v))
found_order d rows_of vs None h is = tt
found_order d rows_of vs (Some v) h is = AreInKeyOrder-at d vs (rows_of v) h is

-- they stay so where the views are changed, or stay
pub order_kept : {A E : Type 0} (r : Result A E) (old changed now : List TableView) → AreInKeyOrder old → AreInKeyOrder changed → OnOk r (now ≡ changed) → OnErr r (now ≡ old) → AreInKeyOrder now
order_kept (Ok x) old changed now h new ok err = subst AreInKeyOrder (sym ok) new
order_kept (Err e) old changed now h new ok err = subst AreInKeyOrder (sym err) h

-- whether some row has a key, by the row that was found
pub some_row : {X : Type 0} (n : ℕ) (row_of : X → ViewRow) (rows : List ViewRow) (o : Option X) → MatchOption o (at_place row_place n rows ≡ None) (λ r. at_place row_place n rows ≡ Some (row_of r)) → is_some o ≡ list_any (λ r. key_number r.key == n) rows
some_row n row_of rows None is = sym (any_row n rows ∙ ap (λ (found : Option ViewRow). is_some found) is)
some_row n row_of rows (Some r) is = sym (any_row n rows ∙ ap (λ (found : Option ViewRow). is_some found) is)

-- the rows of a view are changed
pub rows_placed : (d : ℕ) (change : List ViewRow → List ViewRow) (views seen : List Lent) (i : ℕ) (v : Lent) (new : ViewRows) → seen ≡ views → IsViewAt d (plains seen) i → v ≡ get_or views i v → new.rows ≡ change v.rows.rows
    → plains (set views i (record { dpid = v.dpid; rows = new })) ≡ with_rows d change (plains views)
rows_placed d change views seen i v new e is at changed =
    let same : plains seen ≡ plains views = ap (λ (vs : List Lent). plains vs) e in
    let within : i < length views = subst (λ (vs : List Lent). i < length vs) e (view_within d seen i is) in
    plains-set views i (record { dpid = v.dpid; rows = new }) ∙ with_rows-placed d change (plains views) (plains seen) i (plain v) new.rows same is (plains-read views i v within at) changed

-- the list of a view has more room
pub room_placed : (views : List Lent) (i : ℕ) (v : Lent) (new : ViewRows) → v ≡ get_or views i v → new.rows ≡ v.rows.rows → plains (set views i (record { dpid = v.dpid; rows = new })) ≡ plains views
room_placed views i v new at same =
    map-set_same plain views i (record { dpid = v.dpid; rows = new }) v (ap (λ (rows : List ViewRow). record { dpid = v.dpid; rows = rows }) same ∙ ap plain at)

-- ---- One view more

pub as_many : (vs ws : List Lent) → plains vs ≡ plains ws → length vs ≡ length ws
as_many vs ws is = sym (length-map vs plain) ∙ ap (λ (views : List TableView). length views) is ∙ length-map ws plain

taken : (views : List TableView) (vs : List Lent) (i : ℕ) (v : Lent) → plains vs ≡ views → i < length vs → v ≡ get_or vs i v → take (i + 1) views ≡ take i views ++ plain v ∷ []
taken views vs i v shown within is =
    let read : plain v ≡ get_or views i (plain v) = subst (λ (xs : List TableView). plain v ≡ get_or xs i (plain v)) shown (plains-read vs i v within is) in
    let lt : i < length views = subst (λ (xs : List TableView). i < length xs) shown (subst (λ (n : ℕ). i < n) (sym (length-map vs plain)) within) in
    take_more views i (plain v) lt ∙ ap (λ (w : TableView). take i views ++ w ∷ []) (sym read)

pub switches_more : (views : List TableView) (vs : List Lent) (i : ℕ) (v : Lent) → plains vs ≡ views → i < length vs → v ≡ get_or vs i v → switches_of (take (i + 1) views) ≡ v.dpid ∷ switches_of (take i views)
switches_more views vs i v shown within is =
    ap (λ (ds : List ℕ). reverse ds) (switches-more views vs i v shown within is) ∙ reverse-append (map (λ w. w.dpid) (take i views)) (v.dpid ∷ [])

or_one_more : (a b c : Bool) → (a || (b || c)) ≡ ((a || b) || c)
or_one_more true b c = refl
or_one_more false b c = refl

viewed_last : (d : ℕ) (vs : List TableView) (v : TableView) → is_viewed d (vs ++ v ∷ []) ≡ (is_viewed d vs || (v.dpid == d))
viewed_last d [] v = or-false (v.dpid == d)
viewed_last d (w ∷ ws) v = ap (λ (later : Bool). w.dpid == d || later) (viewed_last d ws v) ∙ or_one_more (w.dpid == d) (is_viewed d ws) (v.dpid == d)

-- a switch among the views up to one stands before it, or is its switch
pub viewed_more : (d : ℕ) (views : List TableView) (vs : List Lent) (i : ℕ) (v : Lent) → plains vs ≡ views → i < length vs → v ≡ get_or vs i v → is_viewed d (take (i + 1) views) ≡ true → (is_viewed d (take i views) ≡ true) ⊎ (v.dpid ≡ d)
viewed_more d views vs i v shown within is viewed =
    let either : (is_viewed d (take i views) || (v.dpid == d)) ≡ true = sym (ap (is_viewed d) (taken views vs i v shown within is) ∙ viewed_last d (take i views) (plain v)) ∙ viewed in
    elim (or_cases (is_viewed d (take i views)) (v.dpid == d) either) [
      | inl before ↦ inl before
      | inr here ↦ inr (eqb-true v.dpid d here)
    ]

viewed_at : (vs : List Lent) (i : ℕ) (v : Lent) → i < length vs → v ≡ get_or vs i v → is_viewed v.dpid (plains vs) ≡ true
viewed_at [] i v within is = absurd (omega arith)
viewed_at (w ∷ ws) zero v within is = viewed_here w v (is_viewed v.dpid (plains ws)) is
  where
    viewed_here : (w v : Lent) (later : Bool) → v ≡ w → (w.dpid == v.dpid || later) ≡ true
    viewed_here w v later same = let here : (w.dpid == v.dpid) ≡ true = eq-eqb w.dpid v.dpid (sym (ap (λ (x : Lent). x.dpid) same)) in rw here refl
viewed_at (w ∷ ws) (suc i) v within is = viewed_later (w.dpid == v.dpid) (is_viewed v.dpid (plains ws)) (viewed_at ws i v (omega arith) is)
  where
    viewed_later : (here later : Bool) → later ≡ true → (here || later) ≡ true
    viewed_later true later is = refl
    viewed_later false later is = is

-- a switch that has a view is known
pub viewed_there : (views : List TableView) (vs : List Lent) (i : ℕ) (v : Lent) → plains vs ≡ views → i < length vs → v ≡ get_or vs i v → is_viewed v.dpid views ≡ true
viewed_there views vs i v shown within is = subst (λ (ws : List TableView). is_viewed v.dpid ws ≡ true) shown (viewed_at vs i v within is)
