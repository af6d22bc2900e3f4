-- What is kept by tables and ports that are held in step: it is read, changed, put in and taken out at the same places.
use Rattle.std.proofs.Common.{◌≡◌, ◌==◌, ℕ, zero, suc, ◌+◌, ◌<◌, ◌≤◌, Bool, true, false, List, [], ◌∷◌, length, get_or, set, insert, remove, Option, Some, None, IsSome, Ok, Err, if◌then◌else◌, refl, ap, ◌∙◌, subst, arith}
use Rattle.std.specs.Option.{option_map}
use Rattle.of_types.specs.declared.port_desc.PortDesc.{PortDesc}
use Rattle.flow_table.specs.declared.view.TableView.{TableView as Lent}
use Rattle.flow_table.specs.View.{TableView, plain, plains}
use Rattle.flow_table.specs.Sorted.{Ascends, at_place, IsFoundAt, AreRows}
use Rattle.shadow_tables.specs.Known.{views, view_of}
use Rattle.shadow_tables.specs.Kept.{Kept, kept_place, kept_at, view_at, known}
use Rattle.shadow_tables.specs.InStep.{lent_place, AreTables, kept_of, all_kept}

-- ---- Order and places

pub Ascends-all : (vs : List Lent) (all : List (List PortDesc)) (least : ℕ) → Ascends lent_place least vs → Ascends kept_place least (all_kept vs all)
Ascends-all [] all least h = tt
Ascends-all (v ∷ vs) [] least h = tt
Ascends-all (v ∷ vs) (ports ∷ all) least h = (h.0, Ascends-all vs all (v.dpid + 1) h.1)

pub length-all : (vs : List Lent) (all : List (List PortDesc)) → length vs ≡ length all → length (all_kept vs all) ≡ length vs
length-all [] all same = refl
length-all (v ∷ vs) [] same = absurd (omega arith)
length-all (v ∷ vs) (ports ∷ all) same = ap suc (length-all vs all (omega arith))

pub read-all : (vs : List Lent) (all : List (List PortDesc)) (i : ℕ) (x : Kept) (v : Lent) (ports : List PortDesc) → length vs ≡ length all → i < length vs → get_or (all_kept vs all) i x ≡ kept_of (get_or vs i v) (get_or all i ports)
read-all [] all i x v ports same within = absurd (omega arith)
read-all (w ∷ vs) [] i x v ports same within = absurd (omega arith)
read-all (w ∷ vs) (here ∷ all) zero x v ports same within = refl
read-all (w ∷ vs) (here ∷ all) (suc i) x v ports same within = read-all vs all i x v ports (omega arith) (omega arith)

place-all : (vs : List Lent) (all : List (List PortDesc)) (i : ℕ) (x : Kept) (v : Lent) → length vs ≡ length all → i < length vs → kept_place (get_or (all_kept vs all) i x) ≡ lent_place (get_or vs i v)
place-all vs all i x v same within = ap kept_place (read-all vs all i x v [] same within)

-- stands for what a read gives past the end
nothing : Lent
nothing = record { dpid = 0; rows = record { rows = []; spare = 0 } }

-- a switch is found in what is kept where its table is
pub found-all : (d : ℕ) (vs : List Lent) (all : List (List PortDesc)) (i : ℕ) → length vs ≡ length all → IsFoundAt lent_place d vs (Ok i) → IsFoundAt kept_place d (all_kept vs all) (Ok i)
found-all d vs all i same found =
    (omega (arith, found.0, length-all vs all same), λ x. place-all vs all i x nothing same found.0 ∙ found.1 nothing)

pub absent-all : (d : ℕ) (vs : List Lent) (all : List (List PortDesc)) (i : ℕ) → length vs ≡ length all → IsFoundAt lent_place d vs (Err i) → IsFoundAt kept_place d (all_kept vs all) (Err i)
absent-all d vs all i same found = (
  omega (arith, found.0, length-all vs all same),
  record {
    below = λ k x lt. rw (place-all vs all k x nothing same (omega (arith, found.0))) (found.1.below k nothing lt);
    above = λ k x le lt. rw (place-all vs all k x nothing same (omega (arith, length-all vs all same))) (found.1.above k nothing le (omega (arith, length-all vs all same)));
  },
)

-- ---- Changes at a place

pub set-all-table : (vs : List Lent) (all : List (List PortDesc)) (i : ℕ) (v : Lent) (ports : List PortDesc) → length vs ≡ length all → i < length vs → all_kept (set vs i v) all ≡ set (all_kept vs all) i (kept_of v (get_or all i ports))
set-all-table [] all i v ports same within = absurd (omega arith)
set-all-table (w ∷ vs) [] i v ports same within = absurd (omega arith)
set-all-table (w ∷ vs) (here ∷ all) zero v ports same within = refl
set-all-table (w ∷ vs) (here ∷ all) (suc i) v ports same within = ap (λ (xs : List Kept). kept_of w here ∷ xs) (set-all-table vs all i v ports (omega arith) (omega arith))

pub set-all-ports : (vs : List Lent) (all : List (List PortDesc)) (i : ℕ) (v : Lent) (ports : List PortDesc) → length vs ≡ length all → i < length vs → all_kept vs (set all i ports) ≡ set (all_kept vs all) i (kept_of (get_or vs i v) ports)
set-all-ports [] all i v ports same within = absurd (omega arith)
set-all-ports (w ∷ vs) [] i v ports same within = absurd (omega arith)
set-all-ports (w ∷ vs) (here ∷ all) zero v ports same within = refl
set-all-ports (w ∷ vs) (here ∷ all) (suc i) v ports same within = ap (λ (xs : List Kept). kept_of w here ∷ xs) (set-all-ports vs all i v ports (omega arith) (omega arith))

pub insert-all : (vs : List Lent) (all : List (List PortDesc)) (i : ℕ) (v : Lent) (ports : List PortDesc) → length vs ≡ length all → i ≤ length vs → all_kept (insert vs i v) (insert all i ports) ≡ insert (all_kept vs all) i (kept_of v ports)
insert-all [] [] zero v ports same within = refl
insert-all [] [] (suc i) v ports same within = absurd (omega arith)
insert-all [] (here ∷ all) i v ports same within = absurd (omega arith)
insert-all (w ∷ vs) [] i v ports same within = absurd (omega arith)
insert-all (w ∷ vs) (here ∷ all) zero v ports same within = refl
insert-all (w ∷ vs) (here ∷ all) (suc i) v ports same within = ap (λ (xs : List Kept). kept_of w here ∷ xs) (insert-all vs all i v ports (omega arith) (omega arith))

pub remove-all : (vs : List Lent) (all : List (List PortDesc)) (i : ℕ) → length vs ≡ length all → i < length vs → all_kept (remove vs i) (remove all i) ≡ remove (all_kept vs all) i
remove-all [] all i same within = absurd (omega arith)
remove-all (w ∷ vs) [] i same within = absurd (omega arith)
remove-all (w ∷ vs) (here ∷ all) zero same within = refl
remove-all (w ∷ vs) (here ∷ all) (suc i) same within = ap (λ (xs : List Kept). kept_of w here ∷ xs) (remove-all vs all i (omega arith) (omega arith))

-- ---- Whether a switch is joined, and its table

joined_where : (here : Bool) (x : Kept) (v : Lent) (xs : Option Kept) (vs : Option Lent) → (IsSome xs → IsSome vs) → IsSome (if here then Some x else xs) → IsSome (if here then Some v else vs)
joined_where true x v xs vs rest joined = refl
joined_where false x v xs vs rest joined = rest joined

pub joined-lent : (d : ℕ) (vs : List Lent) (all : List (List PortDesc)) → IsSome (kept_at d (all_kept vs all)) → IsSome (at_place lent_place d vs)
joined-lent d [] all joined = absurd cc
joined-lent d (v ∷ vs) [] joined = absurd cc
joined-lent d (v ∷ vs) (ports ∷ all) joined =
    joined_where (v.dpid == d) (kept_of v ports) v (kept_at d (all_kept vs all)) (at_place lent_place d vs) (joined-lent d vs all) joined

apart_where : (here : Bool) (x : Kept) (v : Lent) (xs : Option Kept) (vs : Option Lent) → (xs ≡ None → vs ≡ None) → (if here then Some x else xs) ≡ None → (if here then Some v else vs) ≡ None
apart_where true x v xs vs rest apart = absurd cc
apart_where false x v xs vs rest apart = rest apart

pub apart-lent : (d : ℕ) (vs : List Lent) (all : List (List PortDesc)) → length vs ≡ length all → kept_at d (all_kept vs all) ≡ None → at_place lent_place d vs ≡ None
apart-lent d [] all same apart = refl
apart-lent d (v ∷ vs) [] same apart = absurd (omega arith)
apart-lent d (v ∷ vs) (ports ∷ all) same apart =
    apart_where (v.dpid == d) (kept_of v ports) v (kept_at d (all_kept vs all)) (at_place lent_place d vs) (apart-lent d vs all (omega arith)) apart

view_where : (here : Bool) (v : Lent) (ports : List PortDesc) (xs : Option Kept) (vs : Option Lent) → option_map (λ x. view_of x.known) xs ≡ option_map plain vs
    → option_map (λ x. view_of x.known) (if here then Some (kept_of v ports) else xs) ≡ option_map plain (if here then Some v else vs)
view_where true v ports xs vs rest = refl
view_where false v ports xs vs rest = rest

pub view-lent : (d : ℕ) (vs : List Lent) (all : List (List PortDesc)) → length vs ≡ length all → view_at d (all_kept vs all) ≡ option_map plain (at_place lent_place d vs)
view-lent d [] all same = refl
view-lent d (v ∷ vs) [] same = absurd (omega arith)
view-lent d (v ∷ vs) (ports ∷ all) same =
    view_where (v.dpid == d) v ports (kept_at d (all_kept vs all)) (at_place lent_place d vs) (view-lent d vs all (omega arith))

pub views-lent : (vs : List Lent) (all : List (List PortDesc)) → length vs ≡ length all → plains vs ≡ views (known (all_kept vs all))
views-lent [] all same = refl
views-lent (v ∷ vs) [] same = absurd (omega arith)
views-lent (v ∷ vs) (ports ∷ all) same = ap (λ (rest : List TableView). plain v ∷ rest) (views-lent vs all (omega arith))

-- ---- The rows of each table are in order

pub AreTables-read : (vs : List Lent) (i : ℕ) (v : Lent) → AreTables vs → i < length vs → AreRows (get_or vs i v).rows.rows
AreTables-read [] i v h within = absurd (omega arith)
AreTables-read (w ∷ vs) zero v h within = h.0
AreTables-read (w ∷ vs) (suc i) v h within = AreTables-read vs i v h.1 (omega arith)

pub AreTables-set : (vs : List Lent) (i : ℕ) (v : Lent) → AreTables vs → AreRows v.rows.rows → AreTables (set vs i v)
AreTables-set [] i v h new = tt
AreTables-set (w ∷ vs) zero v h new = (new, h.1)
AreTables-set (w ∷ vs) (suc i) v h new = (h.0, AreTables-set vs i v h.1 new)

pub AreTables-insert : (vs : List Lent) (i : ℕ) (v : Lent) → AreTables vs → AreRows v.rows.rows → AreTables (insert vs i v)
AreTables-insert [] zero v h new = (new, tt)
AreTables-insert [] (suc i) v h new = (new, tt)
AreTables-insert (w ∷ vs) zero v h new = (new, h)
AreTables-insert (w ∷ vs) (suc i) v h new = (h.0, AreTables-insert vs i v h.1 new)

pub AreTables-remove : (vs : List Lent) (i : ℕ) → AreTables vs → AreTables (remove vs i)
AreTables-remove [] zero h = tt
AreTables-remove [] (suc i) h = tt
AreTables-remove (w ∷ vs) zero h = h.1
AreTables-remove (w ∷ vs) (suc i) h = (h.0, AreTables-remove vs i h.1)

tables_where : (here : Bool) (w v : Lent) (others : Option Lent) → AreRows w.rows.rows → (others ≡ Some v → AreRows v.rows.rows) → (if here then Some w else others) ≡ Some v → AreRows v.rows.rows
tables_where true w v others rows rest at = let same : w ≡ v = cc in subst (λ (x : Lent). AreRows x.rows.rows) same rows
tables_where false w v others rows rest at = rest at

pub AreTables-at : (d : ℕ) (vs : List Lent) (v : Lent) → AreTables vs → at_place lent_place d vs ≡ Some v → AreRows v.rows.rows
AreTables-at d [] v h at = absurd cc
AreTables-at d (w ∷ vs) v h at = tables_where (w.dpid == d) w v (at_place lent_place d vs) h.0 (AreTables-at d vs v h.1) at
