-- A switch that was found by its table, and what its change leaves of what is kept.
use Rattle.std.proofs.Common.{◌≡◌, ℕ, zero, suc, ◌<◌, ◌≤◌, List, [], ◌∷◌, length, length-set, get_or, set, insert, remove, Some, None, IsSome, IfSome, MatchOption, Option, Result, Ok, Err, OnOk, OnErr, refl, sym, ap, subst, ◌∙◌, arith}
use Rattle.std.specs.Option.{option_map}
use Rattle.std.proofs.lemmas.List.{get_or-set_same}
use Rattle.of_match.specs.declared.key.Key.{Key}
use Rattle.of_types.specs.declared.port_desc.PortDesc.{PortDesc}
use Rattle.flow_table.specs.declared.view.ViewRow.{ViewRow}
use Rattle.flow_table.specs.declared.view.TableView.{TableView as Lent}
use Rattle.flow_table.specs.View.{plain}
use Rattle.flow_table.specs.Sorted.{Ascends, IsFoundAt, AreRows, at_place, with_item, without_place}
use Rattle.flow_table.specs.laws.SortedLaws.{with_item-found, with_item-absent, without_place-found, without_place-absent, at_place-absent, Ascends-with_item, Ascends-without_place}
use Rattle.flow_table.specs.Corrected.{row_at}
use Rattle.shadow_tables.specs.Kept.{Kept, kept_place, kept_at, ports_at, rows_at, spare_at, view_at, Changes, Keeps, Joins}
use Rattle.shadow_tables.specs.InStep.{lent_place, AreLent, AreTables, ChangesRows, kept_of, all_kept}
use Rattle.shadow_tables.specs.laws.KeptLaws.{kept_found, ports_found, ports_absent, Changes-set, Keeps-set, spare-set}
use Rattle.shadow_tables.specs.laws.InStepLaws.{Ascends-all, read-all, found-all, absent-all, set-all-table, set-all-ports, insert-all, remove-all, joined-lent, apart-lent, view-lent, AreTables-read, AreTables-set, AreTables-insert, AreTables-remove, AreTables-at}

pub found_in : (d : ℕ) (vs seen : List Lent) (i : ℕ) → seen ≡ vs → IsFoundAt lent_place d seen (Ok i) → IsFoundAt lent_place d vs (Ok i)
found_in d vs seen i same found = subst (λ (ws : List Lent). IsFoundAt lent_place d ws (Ok i)) same found

absent_in : (d : ℕ) (vs seen : List Lent) (i : ℕ) → seen ≡ vs → IsFoundAt lent_place d seen (Err i) → IsFoundAt lent_place d vs (Err i)
absent_in d vs seen i same found = subst (λ (ws : List Lent). IsFoundAt lent_place d ws (Err i)) same found

pub joined_in : (d : ℕ) (value : List Kept) (vs seen : List Lent) (all : List (List PortDesc)) → all_kept vs all ≡ value → seen ≡ vs → IsSome (kept_at d value) → IsSome (at_place lent_place d seen)
joined_in d value vs seen all is same joined =
    subst (λ (ws : List Lent). IsSome (at_place lent_place d ws)) (sym same) (joined-lent d vs all (subst (λ (xs : List Kept). IsSome (kept_at d xs)) (sym is) joined))

pub apart_in : (d : ℕ) (value : List Kept) (vs seen : List Lent) (all : List (List PortDesc)) → all_kept vs all ≡ value → seen ≡ vs → length vs ≡ length all → kept_at d value ≡ None → at_place lent_place d seen ≡ None
apart_in d value vs seen all is same step apart =
    subst (λ (ws : List Lent). at_place lent_place d ws ≡ None) (sym same) (apart-lent d vs all step (subst (λ (xs : List Kept). kept_at d xs ≡ None) (sym is) apart))

-- what stands at a place that was found
read_there : (vs : List Lent) (all : List (List PortDesc)) (i : ℕ) (v : Lent) → length vs ≡ length all → i < length vs → v ≡ get_or vs i v → kept_of v (get_or all i []) ≡ get_or (all_kept vs all) i (kept_of v (get_or all i []))
read_there vs all i v step within is =
    ap (λ (w : Lent). kept_of w (get_or all i [])) is ∙ sym (read-all vs all i (kept_of v (get_or all i [])) v [] step within)

-- an item in place of another one at its place
Ascends-replaced : {X : Type 0} (place : X → ℕ) (xs : List X) (n i : ℕ) (y : X) → Ascends place 0 xs → IsFoundAt place n xs (Ok i) → place y ≡ n → Ascends place 0 (set xs i y)
Ascends-replaced {X} place xs n i y h found same =
    subst (Ascends place 0) (with_item-found place xs y 0 i h (subst (λ m. IsFoundAt place m xs (Ok i)) (sym same) found)) (Ascends-with_item place xs y h)

-- ---- The rows of a switch are changed

pub rows_change : (d i : ℕ) (change : List ViewRow → List ViewRow) (value : List Kept) (vs seen now_vs : List Lent) (all : List (List PortDesc)) → all_kept vs all ≡ value → seen ≡ vs → AreLent vs → length vs ≡ length all
    → IsFoundAt lent_place d seen (Ok i) → ChangesRows i change vs now_vs → Changes d (λ k. record k { rows = change k.rows }) value (all_kept now_vs all)
rows_change d i change value vs seen now_vs all is same h step found t =
    let there = found_in d vs seen i same found in
    let ports = get_or all i [] in
    let known : (kept_of t.after ports).known ≡ record (kept_of t.before ports).known { rows = change t.before.rows.rows } = rw (t.number, t.rows) refl in
    let changes = Changes-set d (λ k. record k { rows = change k.rows }) (all_kept vs all) i (kept_of t.before ports) (kept_of t.after ports) (Ascends-all vs all 0 h) (found-all d vs all i step there) (read_there vs all i t.before step there.0 t.here) known t.number t.room in
    rw (t.all, set-all-table vs all i t.after [] step there.0) (subst (λ (xs : List Kept). Changes d (λ k. record k { rows = change k.rows }) xs (set (all_kept vs all) i (kept_of t.after ports))) is changes)

pub rows_keep : (d i : ℕ) (value : List Kept) (vs seen now_vs : List Lent) (all : List (List PortDesc)) → all_kept vs all ≡ value → seen ≡ vs → AreLent vs → length vs ≡ length all
    → IsFoundAt lent_place d seen (Ok i) → ChangesRows i (λ rows. rows) vs now_vs → Keeps value (all_kept now_vs all)
rows_keep d i value vs seen now_vs all is same h step found t =
    let there = found_in d vs seen i same found in
    let ports = get_or all i [] in
    let known : (kept_of t.after ports).known ≡ (kept_of t.before ports).known = rw (t.number, t.rows) refl in
    let keeps = Keeps-set d (all_kept vs all) i (kept_of t.before ports) (kept_of t.after ports) (Ascends-all vs all 0 h) (found-all d vs all i step there) (read_there vs all i t.before step there.0 t.here) known t.room in
    rw (t.all, set-all-table vs all i t.after [] step there.0) (subst (λ (xs : List Kept). Keeps xs (set (all_kept vs all) i (kept_of t.after ports))) is keeps)

-- the room that was made is that of the switch
pub room_made : (d i more : ℕ) (change : List ViewRow → List ViewRow) (vs seen now_vs : List Lent) (all : List (List PortDesc)) → seen ≡ vs → AreLent vs → length vs ≡ length all → IsFoundAt lent_place d seen (Ok i) → ChangesRows i change vs now_vs
    → ((v : Lent) → more ≤ (get_or now_vs i v).rows.spare) → more ≤ spare_at d (all_kept now_vs all)
room_made d i more change vs seen now_vs all same h step found t made =
    let there = found_in d vs seen i same found in
    let ports = get_or all i [] in
    let new : get_or now_vs i t.after ≡ t.after = ap (λ (ws : List Lent). get_or ws i t.after) t.all ∙ get_or-set_same vs i t.after t.after there.0 in
    let spare : spare_at d (all_kept now_vs all) ≡ t.after.rows.spare =
    rw (t.all, set-all-table vs all i t.after [] step there.0)
    (spare-set d (all_kept vs all) i (kept_of t.before ports) (kept_of t.after ports) (Ascends-all vs all 0 h) (found-all d vs all i step there) (read_there vs all i t.before step there.0 t.here) t.number) in
    rw spare (subst (λ (v : Lent). more ≤ v.rows.spare) new (made t.after))

-- the room that a switch has is that of its table
pub room_there : (d i : ℕ) (k : Key) (value : List Kept) (vs seen : List Lent) (all : List (List PortDesc)) → all_kept vs all ≡ value → seen ≡ vs → AreLent vs → length vs ≡ length all → IsFoundAt lent_place d seen (Ok i)
    → (row_at k (rows_at d value) ≡ None → 1 ≤ spare_at d value) → (v : Lent) → row_at k (get_or vs i v).rows.rows ≡ None → 1 ≤ (get_or vs i v).rows.spare
room_there d i k value vs seen all is same h step found room v none =
    let there = found_in d vs seen i same found in
    let x = kept_of (get_or vs i v) (get_or all i []) in
    let at : kept_at d value ≡ Some x =
    subst (λ (xs : List Kept). kept_at d xs ≡ Some x) is (kept_found d (all_kept vs all) i x (Ascends-all vs all 0 h) (found-all d vs all i step there) (sym (read-all vs all i x v [] step there.0))) in
    (rw at at room) none

-- what is held after the rows of a switch are changed
pub record Held (vs : List Lent) (all : List (List PortDesc)) : Type 0 where
  pub in_order : AreLent vs
  pub tables : AreTables vs
  pub in_step : length vs ≡ length all

pub rows_held : (d i : ℕ) (change : List ViewRow → List ViewRow) (vs seen now_vs : List Lent) (all : List (List PortDesc)) → seen ≡ vs → AreLent vs → AreTables vs → length vs ≡ length all → IsFoundAt lent_place d seen (Ok i)
    → ((rows : List ViewRow) → AreRows rows → AreRows (change rows)) → ChangesRows i change vs now_vs → Held now_vs all
rows_held d i change vs seen now_vs all same h tables step found stays t =
    let there = found_in d vs seen i same found in
    let number : lent_place t.after ≡ d = t.number ∙ ap lent_place t.here ∙ there.1 t.before in
    let rows : AreRows t.before.rows.rows = subst (λ (v : Lent). AreRows v.rows.rows) (sym t.here) (AreTables-read vs i t.before tables there.0) in
    let sorted : AreRows t.after.rows.rows = rw t.rows (stays t.before.rows.rows rows) in
    subst (λ (ws : List Lent). Held ws all) (sym t.all) (record {
      in_order = Ascends-replaced lent_place vs d i t.after h there number;
      tables = AreTables-set vs i t.after tables sorted;
      in_step = length-set vs i t.after ∙ step;
    })

-- ---- The ports of a switch are changed

-- stands for what a read gives past the end
nothing : Lent
nothing = record { dpid = 0; rows = record { rows = []; spare = 0 } }

pub ports_change : (d i : ℕ) (change : List PortDesc → List PortDesc) (value : List Kept) (vs seen : List Lent) (all now_all : List (List PortDesc)) → all_kept vs all ≡ value → seen ≡ vs → AreLent vs → length vs ≡ length all
    → IsFoundAt lent_place d seen (Ok i) → now_all ≡ set all i (change (get_or all i [])) → Changes d (λ k. record k { ports = change k.ports }) value (all_kept vs now_all)
ports_change d i change value vs seen all now_all is same h step found t =
    let there = found_in d vs seen i same found in
    let v = get_or vs i nothing in
    let x = kept_of v (get_or all i []) in
    let y = kept_of v (change (get_or all i [])) in
    let read : x ≡ get_or (all_kept vs all) i x = sym (read-all vs all i x nothing [] step there.0) in
    let changes = Changes-set d (λ k. record k { ports = change k.ports }) (all_kept vs all) i x y (Ascends-all vs all 0 h) (found-all d vs all i step there) read refl refl (omega arith) in
    rw (t, set-all-ports vs all i nothing (change (get_or all i [])) step there.0) (subst (λ (xs : List Kept). Changes d (λ k. record k { ports = change k.ports }) xs (set (all_kept vs all) i y)) is changes)

-- ---- A switch that leaves

pub ports_there : (d i : ℕ) (value : List Kept) (vs seen : List Lent) (all : List (List PortDesc)) (ports : List PortDesc) → all_kept vs all ≡ value → seen ≡ vs → AreLent vs → length vs ≡ length all → IsFoundAt lent_place d seen (Ok i)
    → ports ≡ get_or all i ports → Some ports ≡ ports_at d value
ports_there d i value vs seen all ports is same h step found read =
    let there = found_in d vs seen i same found in
    let x = kept_of (get_or vs i nothing) ports in
    let at : x ≡ get_or (all_kept vs all) i x = ap (λ (ps : List PortDesc). kept_of (get_or vs i nothing) ps) read ∙ sym (read-all vs all i x nothing ports step there.0) in
    subst (λ (xs : List Kept). Some ports ≡ ports_at d xs) is (ports_found d (all_kept vs all) i x (Ascends-all vs all 0 h) (found-all d vs all i step there) at)

pub rest_there : (d i : ℕ) (value : List Kept) (vs seen : List Lent) (all : List (List PortDesc)) → all_kept vs all ≡ value → seen ≡ vs → AreLent vs → length vs ≡ length all → IsFoundAt lent_place d seen (Ok i)
    → all_kept (remove vs i) (remove all i) ≡ without_place kept_place d value
rest_there d i value vs seen all is same h step found =
    let there = found_in d vs seen i same found in
    let rest : all_kept (remove vs i) (remove all i) ≡ without_place kept_place d (all_kept vs all) =
    remove-all vs all i step there.0 ∙ sym (without_place-found kept_place (all_kept vs all) d 0 i (Ascends-all vs all 0 h) (found-all d vs all i step there)) in
    subst (λ (xs : List Kept). all_kept (remove vs i) (remove all i) ≡ without_place kept_place d xs) is rest

same_rest : {X Y : Type 0} (xs : List X) (ys : List Y) (i : ℕ) → length xs ≡ length ys → length (remove xs i) ≡ length (remove ys i)
same_rest [] [] zero same = refl
same_rest [] [] (suc i) same = refl
same_rest [] (y ∷ ys) i same = absurd (omega arith)
same_rest (x ∷ xs) [] i same = absurd (omega arith)
same_rest (x ∷ xs) (y ∷ ys) zero same = omega arith
same_rest (x ∷ xs) (y ∷ ys) (suc i) same = ap suc (same_rest xs ys i (omega arith))

pub left_held : (d i : ℕ) (vs seen : List Lent) (all : List (List PortDesc)) → seen ≡ vs → AreLent vs → AreTables vs → length vs ≡ length all → IsFoundAt lent_place d seen (Ok i) → Held (remove vs i) (remove all i)
left_held d i vs seen all same h tables step found =
    let there = found_in d vs seen i same found in
    record {
      in_order = subst AreLent (without_place-found lent_place vs d 0 i h there) (Ascends-without_place lent_place d vs h);
      tables = AreTables-remove vs i tables;
      in_step = same_rest vs all i step;
    }

pub none_ports : (d i : ℕ) (value : List Kept) (vs seen : List Lent) (all : List (List PortDesc)) → all_kept vs all ≡ value → seen ≡ vs → length vs ≡ length all → IsFoundAt lent_place d seen (Err i) → None ≡ ports_at d value
none_ports d i value vs seen all is same step found =
    subst (λ (xs : List Kept). None ≡ ports_at d xs) is (ports_absent d (all_kept vs all) i (absent-all d vs all i step (absent_in d vs seen i same found)))

pub none_rest : (d i : ℕ) (value : List Kept) (vs seen : List Lent) (all : List (List PortDesc)) → all_kept vs all ≡ value → seen ≡ vs → length vs ≡ length all → IsFoundAt lent_place d seen (Err i) → value ≡ without_place kept_place d value
none_rest d i value vs seen all is same step found =
    let none = at_place-absent kept_place (all_kept vs all) d i (absent-all d vs all i step (absent_in d vs seen i same found)) in
    subst (λ (xs : List Kept). xs ≡ without_place kept_place d xs) is (sym (without_place-absent kept_place d (all_kept vs all) none))

-- ---- A switch that joins

joins_at : (d i : ℕ) (value : List Kept) (vs seen : List Lent) (all : List (List PortDesc)) (v : Lent) (ports : List PortDesc) → all_kept vs all ≡ value → seen ≡ vs → length vs ≡ length all → IsFoundAt lent_place d seen (Err i)
    → v.dpid ≡ d → v.rows.rows ≡ [] → Joins d ports value (all_kept (insert vs i v) (insert all i ports))
joins_at d i value vs seen all v ports is same step found number empty =
    let there = absent_in d vs seen i same found in
    let gap : IsFoundAt kept_place (kept_place (kept_of v ports)) (all_kept vs all) (Err i) = subst (λ n. IsFoundAt kept_place n (all_kept vs all) (Err i)) (sym number) (absent-all d vs all i step there) in
    let put : all_kept (insert vs i v) (insert all i ports) ≡ with_item kept_place (kept_of v ports) (all_kept vs all) =
    insert-all vs all i v ports step there.0 ∙ sym (with_item-absent kept_place (all_kept vs all) (kept_of v ports) i gap) in
    record {
      joined = kept_of v ports;
      known = rw (number, empty) refl;
      all = put ∙ ap (λ (xs : List Kept). with_item kept_place (kept_of v ports) xs) is;
    }

pub joins_in : (d i : ℕ) (value : List Kept) (vs seen now_vs : List Lent) (all now_all : List (List PortDesc)) (v : Lent) (ports told : List PortDesc) → all_kept vs all ≡ value → seen ≡ vs → length vs ≡ length all → IsFoundAt lent_place d seen (Err i)
    → v.dpid ≡ d → v.rows.rows ≡ [] → ports ≡ told → now_vs ≡ insert vs i v → now_all ≡ insert all i ports → Joins d told value (all_kept now_vs now_all)
joins_in d i value vs seen now_vs all now_all v ports told is same step found number empty are views all_ports =
    rw (views, all_ports) (subst (λ (ps : List PortDesc). Joins d ps value (all_kept (insert vs i v) (insert all i ports))) are (joins_at d i value vs seen all v ports is same step found number empty))

same_more : {X Y : Type 0} (xs : List X) (ys : List Y) (i : ℕ) (x : X) (y : Y) → length xs ≡ length ys → length (insert xs i x) ≡ length (insert ys i y)
same_more [] [] zero x y same = refl
same_more [] [] (suc i) x y same = refl
same_more [] (b ∷ ys) i x y same = absurd (omega arith)
same_more (a ∷ xs) [] i x y same = absurd (omega arith)
same_more (a ∷ xs) (b ∷ ys) zero x y same = omega arith
same_more (a ∷ xs) (b ∷ ys) (suc i) x y same = ap suc (same_more xs ys i x y (omega arith))

pub joined_held : (d i : ℕ) (vs seen : List Lent) (all : List (List PortDesc)) (v : Lent) (ports : List PortDesc) → seen ≡ vs → AreLent vs → AreTables vs → length vs ≡ length all → IsFoundAt lent_place d seen (Err i)
    → v.dpid ≡ d → v.rows.rows ≡ [] → Held (insert vs i v) (insert all i ports)
joined_held d i vs seen all v ports same h tables step found number empty =
    let there : IsFoundAt lent_place (lent_place v) vs (Err i) = subst (λ n. IsFoundAt lent_place n vs (Err i)) (sym number) (absent_in d vs seen i same found) in
    record {
      in_order = subst AreLent (with_item-absent lent_place vs v i there) (Ascends-with_item lent_place vs v h);
      tables = AreTables-insert vs i v tables (rw empty tt);
      in_step = same_more vs all i v ports step;
    }

-- ---- A table that is looked for

view_where : (d : ℕ) (value : List Kept) (vs seen : List Lent) (all : List (List PortDesc)) → all_kept vs all ≡ value → seen ≡ vs → length vs ≡ length all → view_at d value ≡ option_map plain (at_place lent_place d seen)
view_where d value vs seen all is same step =
    subst (λ (ws : List Lent). view_at d value ≡ option_map plain (at_place lent_place d ws)) (sym same)
    (subst (λ (xs : List Kept). view_at d xs ≡ option_map plain (at_place lent_place d vs)) is (view-lent d vs all step))

pub view_found : (d : ℕ) (value : List Kept) (vs seen : List Lent) (all : List (List PortDesc)) (v : Lent) → all_kept vs all ≡ value → seen ≡ vs → length vs ≡ length all → at_place lent_place d seen ≡ Some v → view_at d value ≡ Some (plain v)
view_found d value vs seen all v is same step at = view_where d value vs seen all is same step ∙ ap (λ (o : Option Lent). option_map plain o) at

pub view_absent : (d : ℕ) (value : List Kept) (vs seen : List Lent) (all : List (List PortDesc)) → all_kept vs all ≡ value → seen ≡ vs → length vs ≡ length all → at_place lent_place d seen ≡ None → view_at d value ≡ None
view_absent d value vs seen all is same step at = view_where d value vs seen all is same step ∙ ap (λ (o : Option Lent). option_map plain o) at

pub table_found : (d : ℕ) (vs seen : List Lent) (v : Lent) → seen ≡ vs → AreTables vs → at_place lent_place d seen ≡ Some v → AreRows v.rows.rows
table_found d vs seen v same tables at = AreTables-at d vs v tables (subst (λ (ws : List Lent). at_place lent_place d ws ≡ Some v) same at)

pub on_found : {X : Type 0} {P R : Type 0} {Q S : X → Type 0} (o : Option X) → (P → R) → ((x : X) → Q x → S x) → MatchOption o P Q → MatchOption o R S
on_found None f g h = f h
on_found (Some x) f g h = g x h

pub if_found : {X : Type 0} {Q S : X → Type 0} (P : Type 0) (o : Option X) → ((x : X) → Q x → S x) → MatchOption o P Q → IfSome o S
if_found P None g h = tt
if_found P (Some x) g h = g x h

-- ---- What two lists have become

pub held_in : (vs now_vs : List Lent) (all now_all : List (List PortDesc)) → now_vs ≡ vs → now_all ≡ all → Held vs all → Held now_vs now_all
held_in vs now_vs all now_all views ports held = subst (λ (ws : List Lent). Held ws now_all) (sym views) (subst (λ (rest : List (List PortDesc)). Held vs rest) (sym ports) held)

pub kept_in_both : (vs now_vs : List Lent) (all now_all : List (List PortDesc)) → now_vs ≡ vs → now_all ≡ all → all_kept now_vs now_all ≡ all_kept vs all
kept_in_both vs now_vs all now_all views ports = ap (λ (ws : List Lent). all_kept ws now_all) views ∙ ap (λ (rest : List (List PortDesc)). all_kept vs rest) ports

-- ---- A call that succeeds or fails

pub both_ok : {T E : Type 0} {P Q R : Type 0} (r : Result T E) → (P → Q → R) → OnOk r P → OnOk r Q → OnOk r R
both_ok (Ok x) f p q = f p q
both_ok (Err e) f p q = tt

pub both_err : {T E : Type 0} {P Q R : Type 0} (r : Result T E) → (P → Q → R) → OnErr r P → OnErr r Q → OnErr r R
both_err (Ok x) f p q = tt
both_err (Err e) f p q = f p q

pub on_ok : {T E : Type 0} {P Q : Type 0} (r : Result T E) → (P → Q) → OnOk r P → OnOk r Q
on_ok (Ok x) f p = f p
on_ok (Err e) f p = tt

pub either_way : {T E : Type 0} {P : Type 0} (r : Result T E) → OnOk r P → OnErr r P → P
either_way (Ok x) p q = p
either_way (Err e) p q = q
