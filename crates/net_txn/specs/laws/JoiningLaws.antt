-- Where an empty view goes, and what is then known of each switch.
use Rattle.std.specs.Prelude.{◌≡◌, ◌≢◌, ◌==◌, ℕ, ◌+◌, ◌<◌, ◌≤◌, Bool, true, false, List, [], ◌∷◌, length, Option, Some, nat_lt, if◌then◌else◌, refl}
use Rattle.std.specs.List.{insert}
use Rattle.std.proofs.Common.{zero, suc, get_or, drop, sym, ap, ◌∙◌, subst, eq-eqb, arith}
use Rattle.std.proofs.Math.Seq.{drop-cons}
use Rattle.std.proofs.lemmas.Bool.{lt-ltb, le-ltb, ltb-true, ne_eqb}
use Rattle.std.proofs.lemmas.List.{drop_all}
use Rattle.flow_table.specs.declared.view.ViewRow.{ViewRow}
use Rattle.flow_table.specs.View.{TableView}
use Rattle.net_txn.specs.Views.{rows_at}
use Rattle.net_txn.specs.Joining.{with_view, IsViewPlace}

pub with_view-place : (d : ℕ) (vs : List TableView) (i : ℕ) → IsViewPlace d vs i → insert vs i (record { dpid = d; rows = [] }) ≡ with_view d vs
with_view-place d [] i is = rw is refl
with_view-place d (v ∷ vs) zero is = rw (le-ltb v.dpid d is) refl
with_view-place d (v ∷ vs) (suc i) is = rw (lt-ltb v.dpid d is.0) (ap (λ (xs : List TableView). v ∷ xs) (with_view-place d vs i is.1))

pub IsViewPlace-le : (d : ℕ) (vs : List TableView) (i : ℕ) → IsViewPlace d vs i → i ≤ length vs
IsViewPlace-le d [] i is = omega arith
IsViewPlace-le d (v ∷ vs) zero is = omega arith
IsViewPlace-le d (v ∷ vs) (suc i) is = omega (arith, IsViewPlace-le d vs i is.1)

-- ---- Steps of a loop that looks for it

abbrev pub LowerBefore : ℕ → List TableView → ℕ → Type 0
LowerBefore d vs i = (j : ℕ) → IsViewPlace d (drop i vs) j → IsViewPlace d vs (i + j)

front : (vs : List TableView) (i : ℕ) (v : TableView) → i < length vs → v ≡ get_or vs i v → drop i vs ≡ v ∷ drop (i + 1) vs
front vs i v lt is =
    let next : suc i ≡ i + 1 = omega arith in
    drop-cons vs i v lt ∙ ap (λ (y : TableView). y ∷ drop (suc i) vs) (sym is) ∙ ap (λ (n : ℕ). v ∷ drop n vs) next

pub lower_more : (d : ℕ) (vs : List TableView) (i : ℕ) (v : TableView) → i < length vs → v ≡ get_or vs i v → v.dpid < d → LowerBefore d vs i → LowerBefore d vs (i + 1)
lower_more d vs i v lt is below before j h =
    let here : IsViewPlace d (drop i vs) (suc j) = subst (λ (xs : List TableView). IsViewPlace d xs (suc j)) (sym (front vs i v lt is)) (below, h) in
    let same : i + suc j ≡ i + 1 + j = omega arith in
    subst (IsViewPlace d vs) same (before (suc j) here)

pub lower_stop : (d : ℕ) (vs : List TableView) (i : ℕ) (v : TableView) → i < length vs → v ≡ get_or vs i v → d ≤ v.dpid → LowerBefore d vs i → IsViewPlace d vs i
lower_stop d vs i v lt is le before =
    let here : IsViewPlace d (drop i vs) 0 = subst (λ (xs : List TableView). IsViewPlace d xs 0) (sym (front vs i v lt is)) le in
    let same : i + 0 ≡ i = omega arith in
    subst (IsViewPlace d vs) same (before 0 here)

pub lower_end : (d : ℕ) (vs : List TableView) (i : ℕ) → i ≡ length vs → LowerBefore d vs i → IsViewPlace d vs (length vs)
lower_end d vs i is before =
    let none : drop i vs ≡ [] = drop_all i vs (omega arith) in
    let here : IsViewPlace d (drop i vs) 0 = subst (λ (xs : List TableView). IsViewPlace d xs 0) (sym none) refl in
    let same : i + 0 ≡ length vs = omega arith in
    subst (IsViewPlace d vs) same (before 0 here)

-- ---- Lookup: the switch has no rows, and the others have theirs.

abbrev empty_view : ℕ → TableView
empty_view d = record { dpid = d; rows = [] }

same_if : (d : ℕ) (v : TableView) (vs : List TableView) (below : Bool) → nat_lt v.dpid d ≡ below → rows_at d (with_view d vs) ≡ Some []
    → rows_at d (if below then v ∷ with_view d vs else empty_view d ∷ v ∷ vs) ≡ Some []
same_if d v vs true is rest = let lt = ltb-true v.dpid d is in rw (ne_eqb v.dpid d (λ same. omega arith)) rest
same_if d v vs false is rest = rw (eq-eqb d d refl) refl

pub rows_at-with_view : (d : ℕ) (vs : List TableView) → rows_at d (with_view d vs) ≡ Some []
rows_at-with_view d [] = rw (eq-eqb d d refl) refl
rows_at-with_view d (v ∷ vs) = same_if d v vs (nat_lt v.dpid d) refl (rows_at-with_view d vs)

other_if : (d e : ℕ) (v : TableView) (vs : List TableView) (below : Bool) → e ≢ d → rows_at e (with_view d vs) ≡ rows_at e vs
    → rows_at e (if below then v ∷ with_view d vs else empty_view d ∷ v ∷ vs) ≡ rows_at e (v ∷ vs)
other_if d e v vs true other rest = ap (λ (o : Option (List ViewRow)). if v.dpid == e then Some v.rows else o) rest
other_if d e v vs false other rest = rw (ne_eqb d e (λ same. other (sym same))) refl

pub rows_at-with_view-other : (d e : ℕ) (vs : List TableView) → e ≢ d → rows_at e (with_view d vs) ≡ rows_at e vs
rows_at-with_view-other d e [] other = rw (ne_eqb d e (λ same. other (sym same))) refl
rows_at-with_view-other d e (v ∷ vs) other = other_if d e v vs (nat_lt v.dpid d) other (rows_at-with_view-other d e vs other)
