-- What follows about views from which the keys of a log are taken out again: where all of them were added since, the earlier views.
use Rattle.std.proofs.Common.{◌≡◌, ◌≢◌, ◌==◌, ℕ, true, false, not, nat_lt, List, [], ◌∷◌, ◌++◌, Some, refl, sym, ap, ◌∙◌, inl, inr}
use Rattle.std.proofs.lemmas.Bool.{cases_Bool, eqb-true, eqb-false, eq-eqb, ne_eqb, or_parts}
use Rattle.std.proofs.lemmas.Option.{same_Some}
use Rattle.of_match.specs.declared.key.Key.{Key}
use Rattle.of_match.specs.Key.{key_number}
use Rattle.flow_table.specs.declared.view.ViewRow.{ViewRow}
use Rattle.flow_table.specs.View.{TableView}
use Rattle.net_txn.specs.Views.{rows_at, with_rows}
use Rattle.flow_table.specs.Sorted.{without_key, with_row}
use Rattle.net_txn.specs.Undos.{without_keys}
use Rattle.net_txn.specs.laws.AgreeLaws.{swap}
use Rattle.switch_laws.specs.Shown.{has_row}

-- ---- Rows without a key

without_none : (k : Key) (rows : List ViewRow) → has_row k rows ≡ false → without_key k rows ≡ rows
without_none k [] h = refl
without_none k (r ∷ rs) h =
    let n = or_parts (key_number r.key == key_number k) (has_row k rs) h in
    rw n.0 (ap (λ (xs : List ViewRow). r ∷ xs) (without_none k rs n.1))

-- a row that was added is taken out again
without_added : (r : ViewRow) (rows : List ViewRow) → has_row r.key rows ≡ false → without_key r.key (with_row r rows) ≡ rows
without_added r [] h = rw (eq-eqb (key_number r.key) (key_number r.key) refl) refl
without_added r (s ∷ ss) h =
    let n = or_parts (key_number s.key == key_number r.key) (has_row r.key ss) h in
    let here : (key_number r.key == key_number r.key) ≡ true = eq-eqb (key_number r.key) (key_number r.key) refl in
    elim (cases_Bool (nat_lt (key_number r.key) (key_number s.key))) [
      | inl before ↦ rw before (rw (here, n.0) (ap (λ (xs : List ViewRow). s ∷ xs) (without_none r.key ss n.1)))
      | inr behind ↦
          let apart : (key_number r.key == key_number s.key) ≡ false = ne_eqb (key_number r.key) (key_number s.key) (λ same. eqb-false (key_number s.key) (key_number r.key) n.0 (sym same)) in
          rw (behind, apart) (rw n.0 (ap (λ (xs : List ViewRow). s ∷ xs) (without_added r ss n.1)))
    ]

-- ---- Views

fuse : (d : ℕ) (f g : List ViewRow → List ViewRow) (vs : List TableView) → with_rows d g (with_rows d f vs) ≡ with_rows d (λ rows. g (f rows)) vs
fuse d f g [] = refl
fuse d f g (v ∷ vs) =
    elim (cases_Bool (v.dpid == d)) [
      | inl here ↦ rw here (rw here refl)
      | inr other ↦ rw other (rw other (ap (λ (ws : List TableView). v ∷ ws) (fuse d f g vs)))
    ]

apart : (d e : ℕ) (f g : List ViewRow → List ViewRow) → d ≢ e → (vs : List TableView) → with_rows d f (with_rows e g vs) ≡ with_rows e g (with_rows d f vs)
apart d e f g other [] = refl
apart d e f g other (v ∷ vs) =
    elim (cases_Bool (v.dpid == d)) [
      | inl here ↦
          let not_there : (v.dpid == e) ≡ false = ne_eqb v.dpid e (λ same. other (sym (eqb-true v.dpid d here) ∙ same)) in
          rw (here, not_there) (rw here refl)
      | inr not_here ↦ elim (cases_Bool (v.dpid == e)) [
        | inl there ↦ rw (not_here, there) (rw not_here refl)
        | inr neither_is ↦ rw (not_here, neither_is) (rw not_here (ap (λ (ws : List TableView). v ∷ ws) (apart d e f g other vs)))
      ]
    ]

pointwise : (d : ℕ) (f g : List ViewRow → List ViewRow) → ((rows : List ViewRow) → f rows ≡ g rows) → (vs : List TableView) → with_rows d f vs ≡ with_rows d g vs
pointwise d f g same [] = refl
pointwise d f g same (v ∷ vs) =
    elim (cases_Bool (v.dpid == d)) [
      | inl here ↦ rw here (ap (λ (rows : List ViewRow). record v { rows = rows } ∷ vs) (same v.rows))
      | inr other ↦ rw other (ap (λ (ws : List TableView). v ∷ ws) (pointwise d f g same vs))
    ]

-- what leaves the rows of the switch leaves the views
still : (d : ℕ) (f : List ViewRow → List ViewRow) (rows : List ViewRow) (vs : List TableView) → rows_at d vs ≡ Some rows → f rows ≡ rows → with_rows d f vs ≡ vs
still d f rows [] is same = absurd cc
still d f rows (v ∷ vs) is same =
    elim (cases_Bool (v.dpid == d)) [
      | inl here ↦
          let these : v.rows ≡ rows = same_Some v.rows rows (rw here at is) in
          rw here (ap (λ (xs : List ViewRow). record v { rows = xs } ∷ vs) (ap f these ∙ same ∙ sym these))
      | inr other ↦ rw other (ap (λ (ws : List TableView). v ∷ ws) (still d f rows vs (rw other at is) same))
    ]

abbrev remove : ℕ × Key → List TableView → List TableView
remove p views = with_rows p.0 (without_key p.1) views

remove-remove : (p q : ℕ × Key) (views : List TableView) → remove p (remove q views) ≡ remove q (remove p views)
remove-remove p q views =
    elim (cases_Bool (p.0 == q.0)) [
      | inl one ↦
          let same : p.0 ≡ q.0 = eqb-true p.0 q.0 one in
          ap (λ (d : ℕ). with_rows d (without_key p.1) (with_rows q.0 (without_key q.1) views)) same
          ∙ fuse q.0 (without_key q.1) (without_key p.1) views
          ∙ pointwise q.0 (λ rows. without_key p.1 (without_key q.1 rows)) (λ rows. without_key q.1 (without_key p.1 rows)) (λ rows. swap (λ r. not (key_number r.key == key_number p.1)) (λ r. not (key_number r.key == key_number q.1)) rows) views
          ∙ sym (fuse q.0 (without_key p.1) (without_key q.1) views)
          ∙ ap (λ (d : ℕ). with_rows q.0 (without_key q.1) (with_rows d (without_key p.1) views)) (sym same)
      | inr two ↦ apart p.0 q.0 (without_key p.1) (without_key q.1) (eqb-false p.0 q.0 two) views
    ]

remove-last : (ps : List (ℕ × Key)) (p : ℕ × Key) (views : List TableView) → without_keys (ps ++ p ∷ []) views ≡ without_keys ps (remove p views)
remove-last [] p views = refl
remove-last (q ∷ ps) p views = remove-last ps p (remove q views) ∙ ap (without_keys ps) (remove-remove p q views)

-- A row more in the views and its key more in the log leave what is without the log's keys.
pub without-added : (ps : List (ℕ × Key)) (d : ℕ) (r : ViewRow) (rows : List ViewRow) (views : List TableView) → rows_at d views ≡ Some rows → has_row r.key rows ≡ false
    → without_keys (ps ++ (d, r.key) ∷ []) (with_rows d (with_row r) views) ≡ without_keys ps views
without-added ps d r rows views is none =
    remove-last ps (d, r.key) (with_rows d (with_row r) views)
    ∙ ap (without_keys ps) (fuse d (with_row r) (without_key r.key) views ∙ still d (λ xs. without_key r.key (with_row r xs)) rows views is (without_added r rows none))
