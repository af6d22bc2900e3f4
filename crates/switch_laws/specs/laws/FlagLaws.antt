-- What follows about the owners' flags: a row that is added brings its own, and no other changes.
use Rattle.std.proofs.Common.{◌≡◌, ◌≢◌, ◌==◌, ℕ, List, [], ◌∷◌, nat_lt, if◌then◌else◌, refl, sym, ap, ◌∙◌, inl, inr}
use Rattle.std.proofs.lemmas.Bool.{cases_Bool, eqb-true, eqb-false, eq-eqb, ne_eqb}
use Rattle.of_match.specs.declared.key.Key.{Key}
use Rattle.of_match.specs.Key.{key_number}
use Rattle.flow_table.specs.declared.view.ViewRow.{ViewRow}
use Rattle.flow_table.specs.Sorted.{with_row}
use Rattle.switch_laws.specs.Shown.{flags_in}

pub flags_in-here : (r : ViewRow) (rows : List ViewRow) (k : Key) → key_number r.key ≡ key_number k → flags_in (r ∷ rows) k ≡ r.flags
flags_in-here r rows k same = rw (eq-eqb (key_number r.key) (key_number k) same) refl

pub flags_in-there : (r : ViewRow) (rows : List ViewRow) (k : Key) → key_number r.key ≢ key_number k → flags_in (r ∷ rows) k ≡ flags_in rows k
flags_in-there r rows k other = rw (ne_eqb (key_number r.key) (key_number k) other) refl

pub flags_in-added : (r : ViewRow) (rows : List ViewRow) (k : Key) → key_number r.key ≡ key_number k → flags_in (with_row r rows) k ≡ r.flags
flags_in-added r [] k same = flags_in-here r [] k same
flags_in-added r (s ∷ ss) k same =
    elim (cases_Bool (nat_lt (key_number r.key) (key_number s.key))) [
      | inl before ↦ rw before (flags_in-here r (s ∷ ss) k same)
      | inr behind ↦ elim (cases_Bool (key_number r.key == key_number s.key)) [
        | inl there ↦ rw (behind, there) (flags_in-here r ss k same)
        | inr apart ↦
            let other : key_number s.key ≢ key_number k = λ e. eqb-false (key_number r.key) (key_number s.key) apart (same ∙ sym e) in
            rw (behind, apart) (flags_in-there s (with_row r ss) k other ∙ flags_in-added r ss k same)
      ]
    ]

pub flags_in-kept : (r : ViewRow) (rows : List ViewRow) (k : Key) → key_number r.key ≢ key_number k → flags_in (with_row r rows) k ≡ flags_in rows k
flags_in-kept r [] k other = flags_in-there r [] k other
flags_in-kept r (s ∷ ss) k other =
    elim (cases_Bool (nat_lt (key_number r.key) (key_number s.key))) [
      | inl before ↦ rw before (flags_in-there r (s ∷ ss) k other)
      | inr behind ↦ elim (cases_Bool (key_number r.key == key_number s.key)) [
        | inl there ↦
            let apart : key_number s.key ≢ key_number k = λ e. other (eqb-true (key_number r.key) (key_number s.key) there ∙ e) in
            rw (behind, there) (flags_in-there r ss k other ∙ sym (flags_in-there s ss k apart))
        | inr apart ↦ rw (behind, apart) (same_head s (with_row r ss) ss k (flags_in-kept r ss k other))
      ]
    ]
  where
    same_head : (s : ViewRow) (xs ys : List ViewRow) (k : Key) → flags_in xs k ≡ flags_in ys k → flags_in (s ∷ xs) k ≡ flags_in (s ∷ ys) k
    same_head s xs ys k same = ap (λ (n : ℕ). if key_number s.key == key_number k then s.flags else n) same
