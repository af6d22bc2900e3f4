-- After an undo view and table agree again: both lost the same keys, whatever their order.
use Rattle.std.specs.Prelude.{◌≡◌, ◌==◌, ℕ, Bool, true, false, not, List, [], ◌∷◌, ◌++◌, map, filter, Option, Some, None, IsOk, if◌then◌else◌, refl}
use Rattle.std.specs.Option.{option_map, is_some}
use Rattle.std.proofs.Common.{sym, ap, ◌∙◌, inl, inr}
use Rattle.std.proofs.lemmas.Bool.{cases_eq, eq-eqb, ne_eqb}
use Rattle.of_match.specs.declared.key.Key.{Key}
use Rattle.of_match.specs.Key.{key_number}
use Rattle.of_action.specs.declared.action.Action.{Action}
use Rattle.flow_table.specs.declared.entry.Entry.{Entry}
use Rattle.flow_table.specs.declared.view.ViewRow.{ViewRow}
use Rattle.flow_table.specs.View.{TableView}
use Rattle.flow_table.specs.Switch.{SwitchState}
use Rattle.lego_model.specs.Answers.{Rows, rows_of_table, rows_of_view}
use Rattle.outside.specs.Seen.{Seen}
use Rattle.outside.specs.State.{state, switch_of, waits_of}
use Rattle.outside.specs.laws.StateLaws.{Conforming-rest, state-append}
use Rattle.outside.specs.Conforming.{Conforming}
use Rattle.undo_laws.specs.Removal.{without}
use Rattle.lego_model.specs.ViewRows.{rows_without}
use Rattle.flow_table.specs.Sorted.{without_key}
use Rattle.lego_model.specs.declared.fault.TxnFault.{TxnFault}
use Rattle.net_txn.specs.Views.{rows_at, with_rows, is_viewed}
use Rattle.net_txn.specs.laws.ViewLaws.{rows_at-changed, rows_at-other}
pub use Rattle.net_txn.specs.laws.ViewLaws.{viewed}
use Rattle.net_txn.specs.ChangeSteps.{Agrees}
use Rattle.net_txn.specs.laws.NoticeLaws.{with_entries}
use Rattle.net_txn.specs.Undos.{Part, Inverse, BarrierPassed, Stuck, steps_of, parts_of, is_stuck, without_keys, keys_of, first_fault_of, ended_by, IsRevertedOn, AgreesAgain}
use Rattle.net_txn.specs.laws.RestoreLaws.{entries_left, keys_reverted, left_all, others_stay}
use Rattle.net_txn.specs.laws.TableBackLaws.{table_left}
use Rattle.net_txn.specs.laws.InStepLaws.{some_rows}
use Rattle.lego_model.specs.Places.{table_rows}
use Rattle.app_frames.specs.laws.BodyLaws.{map_some}

-- ---- Keys and actions without a key

abbrev other_than : Key → Key × List Action → Bool
other_than k r = not (key_number r.0 == key_number k)

abbrev pairs_without : Key → Rows → Rows
pairs_without k rows = filter (other_than k) rows

map_if : {X Y : Type 0} (g : X → Y) (keep : Bool) (x : X) (xs : List X) (ys : List Y) → map g xs ≡ ys → map g (if keep then x ∷ xs else xs) ≡ (if keep then g x ∷ ys else ys)
map_if g true x xs ys rest = ap (λ (zs : List _). g x ∷ zs) rest
map_if g false x xs ys rest = rest

view_without : (k : Key) (rows : List ViewRow) → rows_of_view (without_key k rows) ≡ pairs_without k (rows_of_view rows)
view_without k [] = refl
view_without k (r ∷ rs) = map_if (λ (s : ViewRow). (s.key, s.actions)) (not (key_number r.key == key_number k)) r (without_key k rs) (pairs_without k (rows_of_view rs)) (view_without k rs)

table_without : (k : Key) (es : List Entry) → rows_of_table (without k es) ≡ pairs_without k (rows_of_table es)
table_without k [] = refl
table_without k (e ∷ es) = map_if (λ (f : Entry). (f.key, f.actions)) (not (key_number e.key == key_number k)) e (without k es) (pairs_without k (rows_of_table es)) (table_without k es)

swap_if : {X : Type 0} (p q : X → Bool) (x : X) (xs : List X) (a b : Bool) → p x ≡ a → q x ≡ b → filter p (filter q xs) ≡ filter q (filter p xs) → filter p (if b then x ∷ filter q xs else filter q xs) ≡ filter q (if a then x ∷ filter p xs else filter p xs)
swap_if p q x xs true true is_p is_q rest = rw (is_p, is_q) (ap (λ (ys : List _). x ∷ ys) rest)
swap_if p q x xs true false is_p is_q rest = rw is_q rest
swap_if p q x xs false true is_p is_q rest = rw is_p rest
swap_if p q x xs false false is_p is_q rest = rest

pub swap : {X : Type 0} (p q : X → Bool) (xs : List X) → filter p (filter q xs) ≡ filter q (filter p xs)
swap p q [] = refl
swap p q (x ∷ xs) = swap_if p q x xs (p x) (q x) refl refl (swap p q xs)

-- ---- Without many keys, the first of them first, and the last of them first

abbrev first_to_last : List Key → Rows → Rows
first_to_last [] rows = rows
first_to_last (k ∷ ks) rows = first_to_last ks (pairs_without k rows)

abbrev last_to_first : List Key → Rows → Rows
last_to_first [] rows = rows
last_to_first (k ∷ ks) rows = pairs_without k (last_to_first ks rows)

one_later : (ks : List Key) (k : Key) (rows : Rows) → first_to_last ks (pairs_without k rows) ≡ pairs_without k (first_to_last ks rows)
one_later [] k rows = refl
one_later (l ∷ ls) k rows = ap (first_to_last ls) (swap (other_than l) (other_than k) rows) ∙ one_later ls k (pairs_without l rows)

either_way : (ks : List Key) (rows : Rows) → first_to_last ks rows ≡ last_to_first ks rows
either_way [] rows = refl
either_way (k ∷ ks) rows = one_later ks k rows ∙ ap (pairs_without k) (either_way ks rows)

-- ---- The views

shown_without : (ks : List Key) (rows : List ViewRow) → rows_of_view (rows_without ks rows) ≡ first_to_last ks (rows_of_view rows)
shown_without [] rows = refl
shown_without (k ∷ ks) rows = shown_without ks (without_key k rows) ∙ ap (first_to_last ks) (view_without k rows)

mapped_twice : (f g : List ViewRow → List ViewRow) (o : Option (List ViewRow)) → option_map g (option_map f o) ≡ option_map (λ rows. g (f rows)) o
mapped_twice f g None = refl
mapped_twice f g (Some rows) = refl

mapped_still : (o : Option (List ViewRow)) → o ≡ option_map (rows_without []) o
mapped_still None = refl
mapped_still (Some rows) = refl

pub rows_left : (d : ℕ) (ps : List (ℕ × Key)) (views : List TableView) → rows_at d (without_keys ps views) ≡ option_map (rows_without (keys_of d ps)) (rows_at d views)
rows_left d [] views = mapped_still (rows_at d views)
rows_left d (p ∷ ps) views =
    let next = with_rows p.0 (without_key p.1) views in
    elim (cases_eq p.0 d) [
      | inl same ↦
          (let here : rows_at d next ≡ option_map (without_key p.1) (rows_at d views) = ap (λ (n : ℕ). rows_at d (with_rows n (without_key p.1) views)) same ∙ rows_at-changed d (without_key p.1) views in
          rw (eq-eqb p.0 d same) (rows_left d ps next ∙ (ap (option_map (rows_without (keys_of d ps))) here ∙ mapped_twice (without_key p.1) (rows_without (keys_of d ps)) (rows_at d views))))
      | inr other ↦
          rw (ne_eqb p.0 d other) (rows_left d ps next ∙ ap (option_map (rows_without (keys_of d ps))) (rows_at-other p.0 d (without_key p.1) views (λ same. other (sym same))))
    ]

-- ---- The table

table_left_rows : (parts : List Part) (es : List Entry) → rows_of_table (entries_left parts es) ≡ last_to_first (keys_reverted parts) (rows_of_table es)
table_left_rows [] es = refl
table_left_rows (Inverse xid k ∷ older) es = table_without k (entries_left older es) ∙ ap (pairs_without k) (table_left_rows older es)
table_left_rows (BarrierPassed xid got ∷ older) es = table_left_rows older es
table_left_rows (Stuck xid fault steps ∷ older) es = table_left_rows older es

-- ---- The whole

none_from : {X Y : Type 0} (f : X → Y) (o : Option X) → option_map f o ≡ None → o ≡ None
none_from f None is = refl
none_from f (Some x) is = absurd cc

-- of view and table alone
table_agrees_by : {Own : Type 0} (old new : Seen Own) (d : ℕ) (views now_views : List TableView) (all : List (ℕ × Key)) (parts : List (ℕ × Part)) (o : Option SwitchState) → new.given ≡ old.given → new.history ≡ old.history ++ steps_of parts
    → ((c : ℕ) → IsRevertedOn (is_viewed c views) c old.counts new.counts (keys_of c all) (parts_of c parts)) → rows_at d now_views ≡ rows_at d (without_keys all views) → is_stuck (parts_of d parts) ≡ false
    → Agrees d views (state old) → switch_of d (state old) ≡ o → Agrees d now_views (state new)
table_agrees_by old new d views now_views all parts None given told each lost free before is =
    let no_rows : rows_at d views ≡ None = none_from rows_of_view (rows_at d views) (before ∙ ap (option_map table_rows) is) in
    let unknown : is_viewed d views ≡ false = viewed d views ∙ ap is_some no_rows in
    let same = others_stay old new d parts given told (λ c. (each c).run) ((each d).unknown unknown) in
    let gone : rows_at d now_views ≡ None = lost ∙ rows_left d all views ∙ ap (option_map (rows_without (keys_of d all))) no_rows in
    rw (gone, same.0, is) refl
table_agrees_by old new d views now_views all parts (Some s) given told each lost free before is =
    let there = map_some rows_of_view (rows_at d views) (table_rows s) (before ∙ ap (option_map table_rows) is) in
    let rows = there.0 in
    let known : is_viewed d views ≡ true = viewed d views ∙ ap is_some there.1 in
    let keys = keys_of d all in
    let after = state-append old new (steps_of parts) given told in
    let now : switch_of d (state new) ≡ Some (with_entries (entries_left (parts_of d parts) s.table.entries) s) = ap (switch_of d) after ∙ table_left old.counts new.counts d s parts (state old) (λ c. (each c).run) free is in
    let shown : rows_at d now_views ≡ Some (rows_without keys rows) = lost ∙ rows_left d all views ∙ ap (option_map (rows_without keys)) there.1 in
    let same : rows_of_view (rows_without keys rows) ≡ rows_of_table (entries_left (parts_of d parts) s.table.entries) =
    shown_without keys rows ∙ ap (first_to_last keys) there.2 ∙ either_way keys (table_rows s) ∙ ap (λ (ks : List Key). last_to_first ks (table_rows s)) (sym ((each d).keys_is known free)) ∙ sym (table_left_rows (parts_of d parts) s.table.entries) in
    rw (shown, now) (ap some_rows same)

pub table_agrees : {Own : Type 0} (old new : Seen Own) (d : ℕ) (views now_views : List TableView) (all : List (ℕ × Key)) (parts : List (ℕ × Part)) → new.given ≡ old.given → new.history ≡ old.history ++ steps_of parts
    → ((c : ℕ) → IsRevertedOn (is_viewed c views) c old.counts new.counts (keys_of c all) (parts_of c parts)) → rows_at d now_views ≡ rows_at d (without_keys all views) → is_stuck (parts_of d parts) ≡ false
    → Agrees d views (state old) → Agrees d now_views (state new)
table_agrees old new d views now_views all parts given told each lost free before = table_agrees_by old new d views now_views all parts (switch_of d (state old)) given told each lost free before refl

-- and nothing waits, where nothing waited
none_waits_by : {Own : Type 0} (old new : Seen Own) (d : ℕ) (views : List TableView) (all : List (ℕ × Key)) (parts : List (ℕ × Part)) (o : Option SwitchState) → new.given ≡ old.given → new.history ≡ old.history ++ steps_of parts
    → ((c : ℕ) → IsRevertedOn (is_viewed c views) c old.counts new.counts (keys_of c all) (parts_of c parts)) → Conforming new → is_stuck (parts_of d parts) ≡ false → waits_of d (state old) ≡ []
    → Agrees d views (state old) → switch_of d (state old) ≡ o → waits_of d (state new) ≡ []
none_waits_by old new d views all parts None given told each keeps free none before is =
    let no_rows : rows_at d views ≡ None = none_from rows_of_view (rows_at d views) (before ∙ ap (option_map table_rows) is) in
    let unknown : is_viewed d views ≡ false = viewed d views ∙ ap is_some no_rows in
    (others_stay old new d parts given told (λ c. (each c).run) ((each d).unknown unknown)).1 ∙ none
none_waits_by old new d views all parts (Some s) given told each keeps free none before is =
    let there = map_some rows_of_view (rows_at d views) (table_rows s) (before ∙ ap (option_map table_rows) is) in
    let known : is_viewed d views ≡ true = viewed d views ∙ ap is_some there.1 in
    let may = Conforming-rest old new (steps_of parts) given told keeps in
    let l = left_all old.given.declared old.counts new.counts d s parts (state old) (λ c. (each c).run) free may is none in
    ap (waits_of d) (state-append old new (steps_of parts) given told) ∙ l.barred ((each d).barred known free)

pub agrees : {Own : Type 0} (old new : Seen Own) (d : ℕ) (views now_views : List TableView) (all : List (ℕ × Key)) (parts : List (ℕ × Part)) → new.given ≡ old.given → new.history ≡ old.history ++ steps_of parts
    → ((c : ℕ) → IsRevertedOn (is_viewed c views) c old.counts new.counts (keys_of c all) (parts_of c parts)) → rows_at d now_views ≡ rows_at d (without_keys all views) → Conforming new → is_stuck (parts_of d parts) ≡ false → waits_of d (state old) ≡ []
    → Agrees d views (state old) → AgreesAgain d now_views (state new)
agrees old new d views now_views all parts given told each lost keeps free none before = record {
  agrees = table_agrees old new d views now_views all parts given told each lost free before;
  waits = none_waits_by old new d views all parts (switch_of d (state old)) given told each keeps free none before refl;
}

-- ---- After Ok no switch failed but by its link.

pub both_none : (o later : Option TxnFault) → first_fault_of o later ≡ None → (o ≡ None) × (later ≡ None)
both_none None later is = (refl, is)
both_none (Some f) later is = absurd cc

pub no_fault : (o : Option TxnFault) → IsOk (ended_by o) → o ≡ None
no_fault None ok = refl
no_fault (Some f) ok = absurd cc
