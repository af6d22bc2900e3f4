-- The least number from a bound on.
use Rattle.std.proofs.Common.{◌≡◌, ◌⊎◌, ℕ, zero, suc, ◌+◌, ◌-◌, ◌^◌, ◌∙◌, ◌<◌, ◌≤◌, Bool, true, false, List, [], ◌∷◌, ◌++◌, length, drop, get_or, min, nat_lt, cond, Option, Some, None, refl, sym, ap, arith, inl, inr, subst}
use Rattle.std.specs.List.{fold, Contains, flat_map}
use Rattle.std.proofs.lemmas.Bool.{cases_lt, lt-ltb, le-ltb, ltb-true}
use Rattle.std.proofs.lemmas.List.{at_drop_more}
use Rattle.std.proofs.lemmas.List.Elements.{Contains-append_cases}
use Rattle.std.proofs.Math.Nat.{mul-le-mul_right, pow-suc}
use Rattle.std.specs.Prelude.{slice_index, IfSome}
use Rattle.std.proofs.lemmas.List.Sums.{fold-append}
use Rattle.guard_rule.specs.declared.GuardField.{GuardField}
use Rattle.guard_rule.specs.declared.GuardField.TheVariants.{DlDst, NwDst}
use Rattle.of_match.specs.Fields.{IsFields, IsAddress, IsPrefix}
use Rattle.of_match.specs.Key.{number}
use Rattle.of_match.specs.declared.fields.Fields.{Fields}
use Rattle.of_match.specs.laws.MatchLaws.{fields_in-within}
use Rattle.flow_table.specs.declared.view.TableView.{TableView as Lent}
use Rattle.flow_table.specs.declared.view.ViewRow.{ViewRow}
use Rattle.flow_table.specs.View.{TableView, plain, plains}
use Rattle.net_guard.specs.Taking.{fields_of_row}
use Rattle.net_guard.specs.Values.{lower, lower_of, least_from, named_by, named_in_rows, named_in, numbers_in, address_named, prefix_named, after_prefix}

-- what a search from one found earlier gives
abbrev Least : ℕ → Option ℕ → List ℕ → Option ℕ → Type 0
Least from best xs None = (best ≡ None) × ((a : ℕ) → Contains xs a → a < from)
Least from best xs (Some b) = ((best ≡ Some b) ⊎ (Contains xs b × (from ≤ b))) × ((a : ℕ) → best ≡ Some a → b ≤ a) × ((a : ℕ) → Contains xs a → from ≤ a → b ≤ a)

pub Contains-behind : {A : Type 0} (x y : A) (ys : List A) → Contains ys x → Contains (y ∷ ys) x
Contains-behind x y ys (i, within, is) = (suc i, omega arith, is)

pub Contains-here : {A : Type 0} (x : A) (ys : List A) → Contains (x ∷ ys) x
Contains-here x ys = (0, omega arith, refl)

pub Contains-cases : {A : Type 0} (x y : A) (ys : List A) → Contains (y ∷ ys) x → (y ≡ x) ⊎ Contains ys x
Contains-cases x y ys (zero, within, is) = inl is
Contains-cases x y ys (suc i, within, is) = inr (i, omega arith, is)

pub no_fewer : {A : Type 0} (x : A) → Contains {X = A} [] x → ⊥
no_fewer x (i, within, is) = omega arith

least_step : (from x : ℕ) (best : Option ℕ) (xs : List ℕ) (o : Option ℕ) → Least from (lower from best x) xs o → Least from best (x ∷ xs) o
least_step from x best xs o l =
    elim (cases_lt x from) [
      | inl below ↦ skipped o (subst (λ (b : Option ℕ). Least from b xs o) (ap (λ t. cond t best (lower_of best x)) (lt-ltb x from below)) l) below
      | inr past ↦ taken best o (subst (λ (b : Option ℕ). Least from b xs o) (ap (λ t. cond t best (lower_of best x)) (le-ltb x from past)) l) past
    ]
  where
    skipped : (o : Option ℕ) → Least from best xs o → x < from → Least from best (x ∷ xs) o
    skipped None l below = (l.0, λ a c. elim (Contains-cases a x xs c) [ inl same ↦ subst (λ n. n < from) same below | inr behind ↦ l.1 a behind ])
    skipped (Some b) l below = (
      elim l.0 [ inl had ↦ inl had | inr found ↦ inr (Contains-behind b x xs found.0, found.1) ],
      l.1,
      λ a c past. elim (Contains-cases a x xs c) [ inl same ↦ absurd (omega arith) | inr behind ↦ l.2 a behind past ],
    )

    first : (o : Option ℕ) → Least from (Some x) xs o → from ≤ x → Least from None (x ∷ xs) o
    first None l past = absurd cc
    first (Some b) l past = (
      inr (elim l.0 [
        | inl had ↦ let same : x ≡ b = cc in (subst (λ n. Contains (x ∷ xs) n) same (Contains-here x xs), omega arith)
        | inr found ↦ (Contains-behind b x xs found.0, found.1)
      ]),
      λ a none. absurd cc,
      λ a c within. elim (Contains-cases a x xs c) [ inl same ↦ let le = l.1 x refl in omega arith | inr behind ↦ l.2 a behind within ],
    )

    second : (e : ℕ) (o : Option ℕ) → Least from (Some (min e x)) xs o → from ≤ x → Least from (Some e) (x ∷ xs) o
    second e None l past = absurd cc
    second e (Some b) l past =
        let le = l.1 (min e x) refl in (
          elim l.0 [
            | inl had ↦ let same : min e x ≡ b = cc in elim (cases_lt x e) [
              | inl lower ↦ let is : x ≡ b = omega arith in inr (subst (λ n. Contains (x ∷ xs) n) is (Contains-here x xs), omega arith)
              | inr upper ↦ let is : e ≡ b = omega arith in inl (ap Some is)
            ]
            | inr found ↦ inr (Contains-behind b x xs found.0, found.1)
          ],
          λ a is. let same : e ≡ a = cc in omega arith,
          λ a c within. elim (Contains-cases a x xs c) [ inl same ↦ omega arith | inr behind ↦ l.2 a behind within ],
        )

    taken : (best : Option ℕ) (o : Option ℕ) → Least from (lower_of best x) xs o → from ≤ x → Least from best (x ∷ xs) o
    taken None o l past = first o l past
    taken (Some e) o l past = second e o l past

least : (from : ℕ) (best : Option ℕ) (xs : List ℕ) → Least from best xs (fold (lower from) best xs)
least from None [] = (refl, λ a c. absurd (no_fewer a c))
least from (Some b) [] = (inl refl, λ a is. let same : b ≡ a = cc in omega arith, λ a c past. absurd (no_fewer a c))
least from best (x ∷ xs) = least_step from x best xs (fold (lower from) (lower from best x) xs) (least from (lower from best x) xs)

-- no number is left from the bound on
pub least_from-none : (from : ℕ) (xs : List ℕ) → least_from from None xs ≡ None → (a : ℕ) → Contains xs a → a < from
unfolding least_from
least_from-none from xs is = (subst (Least from None xs) is (least from None xs)).1

pub least_from-some : (from b : ℕ) (xs : List ℕ) → least_from from None xs ≡ Some b → Contains xs b × (from ≤ b) × ((a : ℕ) → Contains xs a → from ≤ a → b ≤ a)
unfolding least_from
least_from-some from b xs is =
    let l = subst (Least from None xs) is (least from None xs) in
    elim l.0 [ inl had ↦ absurd cc | inr found ↦ (found.0, found.1, l.2) ]

-- one piece after the other
pub fold-flat_map : {A : Type 0} (from : ℕ) (best : Option ℕ) (f : A → List ℕ) (x : A) (xs : List A) → fold (lower from) best (flat_map f (x ∷ xs)) ≡ fold (lower from) (fold (lower from) best (f x)) (flat_map f xs)
fold-flat_map from best f x xs = fold-append (lower from) best (f x) (flat_map f xs)

pub rows_more : (from : ℕ) (field : GuardField) (least next : Option ℕ) (rows : List ViewRow) (i : ℕ) (r : ViewRow) → i < length rows → r ≡ get_or rows i r → next ≡ fold (lower from) least (named_by field (fields_of_row r))
    → fold (lower from) next (named_in_rows field (drop (i + 1) rows)) ≡ fold (lower from) least (named_in_rows field (drop i rows))
rows_more from field least next rows i r within is step =
    let rest = drop (i + 1) rows in
    ap (λ (o : Option ℕ). fold (lower from) o (named_in_rows field rest)) step
    ∙ sym (fold-flat_map from least (λ (x : ViewRow). named_by field (fields_of_row x)) r rest)
    ∙ ap (λ (x : ViewRow). fold (lower from) least (named_in_rows field (x ∷ rest))) is
    ∙ sym (at_drop_more (λ (xs : List ViewRow). fold (lower from) least (named_in_rows field xs)) rows i r within)

pub tables_more : (from : ℕ) (field : GuardField) (least next : Option ℕ) (tables : List Lent) (i : ℕ) (t : Lent) → i < length tables → t ≡ get_or tables i t → next ≡ fold (lower from) least (named_in_rows field t.rows.rows)
    → fold (lower from) next (named_in field (plains (drop (i + 1) tables))) ≡ fold (lower from) least (named_in field (plains (drop i tables)))
tables_more from field least next tables i t within is step =
    let rest = drop (i + 1) tables in
    ap (λ (o : Option ℕ). fold (lower from) o (named_in field (plains rest))) step
    ∙ sym (fold-flat_map from least (λ (x : TableView). named_in_rows field x.rows) (plain t) (plains rest))
    ∙ ap (λ (x : Lent). fold (lower from) least (named_in field (plains (x ∷ rest)))) is
    ∙ sym (at_drop_more (λ (xs : List Lent). fold (lower from) least (named_in field (plains xs))) tables i t within)

-- ---- the numbers are below 2 ^ 48

abbrev AreBelow : ℕ → List ℕ → Type 0
AreBelow bound xs = (a : ℕ) → Contains xs a → a < bound

below-none : (bound : ℕ) → AreBelow bound []
below-none bound a c = absurd (no_fewer a c)

below-cons : (bound x : ℕ) (xs : List ℕ) → x < bound → AreBelow bound xs → AreBelow bound (x ∷ xs)
below-cons bound x xs here behind a c = elim (Contains-cases a x xs c) [ inl same ↦ subst (λ n. n < bound) same here | inr rest ↦ behind a rest ]

below-append : (bound : ℕ) (xs ys : List ℕ) → AreBelow bound xs → AreBelow bound ys → AreBelow bound (xs ++ ys)
below-append bound xs ys left right a c = elim (Contains-append_cases xs ys a c) [ inl l ↦ left a l | inr r ↦ right a r ]

below-flat_map : {A : Type 0} (bound : ℕ) (f : A → List ℕ) → ((x : A) → AreBelow bound (f x)) → (xs : List A) → AreBelow bound (flat_map f xs)
below-flat_map bound f each [] = below-none bound
below-flat_map bound f each (x ∷ xs) = below-append bound (f x) (flat_map f xs) (each x) (below-flat_map bound f each xs)

pub number_below : (bytes : List ℕ) → ((i : ℕ) → slice_index bytes i < 256) → number bytes < 256 ^ length bytes
unfolding number
number_below [] h = omega arith
number_below (b ∷ bytes) h =
    let here : b < 256 = h 0 in
    let rest = number_below bytes (λ i. h (suc i)) in
    rw (pow-suc 256 (length bytes)) (omega (arith, mul-le-mul_right {m = b} {n = 255} (256 ^ length bytes) (omega arith), rest))

pub address-below : (a : List ℕ) → IsAddress a → number a < 2 ^ 48
address-below a is = subst (λ n. number a < 256 ^ n) is.len (number_below a is.bytes)

below-address : (o : Option (List ℕ)) → IfSome o IsAddress → AreBelow (2 ^ 48) (address_named o)
below-address None is = below-none (2 ^ 48)
below-address (Some a) is = below-cons (2 ^ 48) (number a) [] (address-below a is) (below-none (2 ^ 48))

below-after : (end : ℕ) (b : Bool) → nat_lt end (2 ^ 32) ≡ b → AreBelow (2 ^ 32) (cond b (end ∷ []) [])
below-after end true is = let lt : end < 2 ^ 32 = ltb-true end (2 ^ 32) is in below-cons (2 ^ 32) end [] lt (below-none (2 ^ 32))
below-after end false is = below-none (2 ^ 32)

below-prefix : (o : Option (ℕ × ℕ)) → IfSome o IsPrefix → AreBelow (2 ^ 32) (prefix_named o)
below-prefix None is = below-none (2 ^ 32)
below-prefix (Some p) is = below-cons (2 ^ 32) p.0 (after_prefix (p.0 + 2 ^ (32 - p.1))) is.fits (below-after (p.0 + 2 ^ (32 - p.1)) (nat_lt (p.0 + 2 ^ (32 - p.1)) (2 ^ 32)) refl)

below-network : (f : Fields) → IsFields f → AreBelow (2 ^ 32) (named_by NwDst f)
unfolding named_by
below-network f is = below-prefix f.nw_dst is.nw_dst

below-named : (field : GuardField) (f : Fields) → IsFields f → AreBelow (2 ^ 48) (named_by field f)
unfolding named_by
below-named DlDst f is = below-address f.dl_dst is.dl_dst
below-named NwDst f is = λ a c. let below = below-network f is a c in omega (arith, below)

below-tables : (field : GuardField) (tables : List TableView) → AreBelow (2 ^ 48) (named_in field tables)
below-tables field tables =
    below-flat_map (2 ^ 48) (λ (t : TableView). named_in_rows field t.rows)
    (λ t. below-flat_map (2 ^ 48) (λ (r : ViewRow). named_by field (fields_of_row r)) (λ r. below-named field (fields_of_row r) (fields_in-within r.key.matching)) t.rows) tables

pub numbers-below : (field : GuardField) (tables : List TableView) → AreBelow (2 ^ 48) (numbers_in field tables)
numbers-below DlDst tables = below-tables DlDst tables
numbers-below NwDst tables = below-cons (2 ^ 48) 0 (named_in NwDst tables) (omega arith) (below-tables NwDst tables)

-- those of an IPv4 destination are addresses
pub networks-below : (tables : List TableView) → AreBelow (2 ^ 32) (numbers_in NwDst tables)
networks-below tables =
    below-cons (2 ^ 32) 0 (named_in NwDst tables) (omega arith)
    (below-flat_map (2 ^ 32) (λ (t : TableView). named_in_rows NwDst t.rows)
    (λ t. below-flat_map (2 ^ 32) (λ (r : ViewRow). named_by NwDst (fields_of_row r)) (λ r. below-network (fields_of_row r) (fields_in-within r.key.matching)) t.rows) tables)
