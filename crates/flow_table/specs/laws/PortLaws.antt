-- What follows about ports in the order of their numbers: where a port goes, and the steps of a loop that looks for that place.
use Rattle.std.specs.Prelude.{◌≡◌, ◌≢◌, ℕ, ◌+◌, ◌<◌, ◌≤◌, true, false, List, [], ◌∷◌, length, refl}
use Rattle.std.specs.List.{insert}
use Rattle.std.proofs.Common.{zero, suc, get_or, set, drop, sym, ap, ◌∙◌, eqb, ltb, subst, arith, eq-eqb}
use Rattle.std.proofs.Math.Seq.{drop-cons}
use Rattle.std.proofs.lemmas.Bool.{ne_eqb, lt-ltb, le-ltb}
use Rattle.std.proofs.lemmas.List.{drop_all, get_or_default}
use Rattle.of_types.specs.declared.port_desc.PortDesc.{PortDesc}
use Rattle.flow_table.specs.Sorted.{with_item, port_number, IsPortPlace}

-- ---- Ports

port-before : (r s : PortDesc) (ss : List PortDesc) → r.port_no < s.port_no → with_item port_number r (s ∷ ss) ≡ r ∷ s ∷ ss
port-before r s ss lt = rw (lt-ltb _ _ lt) refl

port-same : (r s : PortDesc) (ss : List PortDesc) → r.port_no ≡ s.port_no → with_item port_number r (s ∷ ss) ≡ r ∷ ss
port-same r s ss same =
    let not_below : ltb (r.port_no) (s.port_no) ≡ false = le-ltb _ _ (omega arith) in
    let here : eqb (r.port_no) (s.port_no) ≡ true = eq-eqb _ _ same in
    rw (not_below, here) refl

port-after : (r s : PortDesc) (ss : List PortDesc) → s.port_no < r.port_no → with_item port_number r (s ∷ ss) ≡ s ∷ with_item port_number r ss
port-after r s ss gt =
    let not_below : ltb (r.port_no) (s.port_no) ≡ false = le-ltb _ _ (omega arith) in
    let apart : eqb (r.port_no) (s.port_no) ≡ false = ne_eqb _ _ (λ e. omega arith) in
    rw (not_below, apart) refl

pub port-found : (r : PortDesc) (rows : List PortDesc) (i : ℕ) → IsPortPlace r.port_no rows i → i < length rows → r.port_no ≡ (get_or rows i r).port_no → set rows i r ≡ with_item port_number r rows
port-found r [] i is within same = absurd (omega arith)
port-found r (s ∷ ss) zero is within same = sym (port-same r s ss same)
port-found r (s ∷ ss) (suc i) is within same = ap (λ (xs : List PortDesc). s ∷ xs) (port-found r ss i is.1 (omega arith) same) ∙ sym (port-after r s ss is.0)

pub port-absent : (r : PortDesc) (rows : List PortDesc) (i : ℕ) → IsPortPlace r.port_no rows i → (i < length rows → r.port_no ≢ (get_or rows i r).port_no) → insert rows i r ≡ with_item port_number r rows
port-absent r [] i is apart = rw is refl
port-absent r (s ∷ ss) zero is apart = sym (port-before r s ss (less (apart (omega arith))))
  where
    less : r.port_no ≢ s.port_no → r.port_no < s.port_no
    less ne = omega (arith, is, ne)
port-absent r (s ∷ ss) (suc i) is apart = ap (λ (xs : List PortDesc). s ∷ xs) (port-absent r ss i is.1 (λ lt. apart (omega arith))) ∙ sym (port-after r s ss is.0)

pub IsPortPlace-le : (n : ℕ) (rows : List PortDesc) (i : ℕ) → IsPortPlace n rows i → i ≤ length rows
IsPortPlace-le n [] i is = omega arith
IsPortPlace-le n (r ∷ rs) zero is = omega arith
IsPortPlace-le n (r ∷ rs) (suc i) is = omega (arith, IsPortPlace-le n rs i is.1)

-- ---- Steps of a loop that looks for it

abbrev pub PortsBefore : ℕ → List PortDesc → ℕ → Type 0
PortsBefore d vs i = (j : ℕ) → IsPortPlace d (drop i vs) j → IsPortPlace d vs (i + j)

front : (vs : List PortDesc) (i : ℕ) (v : PortDesc) → i < length vs → v ≡ get_or vs i v → drop i vs ≡ v ∷ drop (i + 1) vs
front vs i v lt is =
    let next : suc i ≡ i + 1 = omega arith in
    drop-cons vs i v lt ∙ ap (λ (y : PortDesc). y ∷ drop (suc i) vs) (sym is) ∙ ap (λ (n : ℕ). v ∷ drop n vs) next

pub port_more : (d : ℕ) (vs : List PortDesc) (i : ℕ) (v : PortDesc) → i < length vs → v ≡ get_or vs i v → v.port_no < d → PortsBefore d vs i → PortsBefore d vs (i + 1)
port_more d vs i v lt is below before j h =
    let here : IsPortPlace d (drop i vs) (suc j) = subst (λ (xs : List PortDesc). IsPortPlace d xs (suc j)) (sym (front vs i v lt is)) (below, h) in
    let same : i + suc j ≡ i + 1 + j = omega arith in
    subst (IsPortPlace d vs) same (before (suc j) here)

pub port_stop : (d : ℕ) (vs : List PortDesc) (i : ℕ) (v : PortDesc) → i < length vs → v ≡ get_or vs i v → d ≤ v.port_no → PortsBefore d vs i → IsPortPlace d vs i
port_stop d vs i v lt is le before =
    let here : IsPortPlace d (drop i vs) 0 = subst (λ (xs : List PortDesc). IsPortPlace d xs 0) (sym (front vs i v lt is)) le in
    let same : i + 0 ≡ i = omega arith in
    subst (IsPortPlace d vs) same (before 0 here)

pub port_end : (d : ℕ) (vs : List PortDesc) (i : ℕ) → i ≡ length vs → PortsBefore d vs i → IsPortPlace d vs (length vs)
port_end d vs i is before =
    let none : drop i vs ≡ [] = drop_all i vs (omega arith) in
    let here : IsPortPlace d (drop i vs) 0 = subst (λ (xs : List PortDesc). IsPortPlace d xs 0) (sym none) refl in
    let same : i + 0 ≡ length vs = omega arith in
    subst (IsPortPlace d vs) same (before 0 here)

pub port_more_at : (n : ℕ) (vs : List PortDesc) (i : ℕ) (d : PortDesc) → i < length vs → (get_or vs i d).port_no < n → PortsBefore n vs i → PortsBefore n vs (i + 1)
port_more_at n vs i d lt below before = port_more n vs i (get_or vs i d) lt (get_or_default vs i d (get_or vs i d) lt) below before

pub port_stop_at : (n : ℕ) (vs : List PortDesc) (i : ℕ) (d : PortDesc) → i < length vs → n ≤ (get_or vs i d).port_no → PortsBefore n vs i → IsPortPlace n vs i
port_stop_at n vs i d lt le before = port_stop n vs i (get_or vs i d) lt (get_or_default vs i d (get_or vs i d) lt) le before
