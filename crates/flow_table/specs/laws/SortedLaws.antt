-- What follows about lists in the order of places: what an item that is put in and one that is taken out do to the list.
use Rattle.std.proofs.Common.{◌≡◌, ◌≢◌, ◌==◌, ℕ, zero, suc, ◌+◌, ◌<◌, ◌≤◌, Bool, true, false, not, List, [], ◌∷◌, length, filter, get_or, set, Some, None, Ok, Err, if◌then◌else◌, refl, sym, ap, ◌∙◌, arith, inl, inr}
use Rattle.std.proofs.lemmas.Bool.{cases_lt, cases_eq, cond-true, cond-false, not_from_true, not_from_false, ne_eqb, eq-eqb}
use Rattle.std.proofs.lemmas.Bool.Decides.{nat_tests}
use Rattle.std.proofs.lemmas.List.{get_or_default}
use Rattle.std.specs.List.{insert, remove}
use Rattle.std.specs.Cmp.{nat_cmp_is}
use Rattle.std.specs.Ordering.{nat_cmp}
use Rattle.std.specs.declared.cmp.Ordering.TheVariants.{Less, Equal, Greater}
use Rattle.flow_table.specs.Sorted.{Ascends, at_place, with_item, without_place, Around, IsFoundAt}

-- ---- Places rise along a list.

place-get : {X : Type 0} (place : X → ℕ) (xs : List X) (least i : ℕ) (d : X) → Ascends place least xs → i < length xs → least ≤ place (get_or xs i d)
place-get place [] least i d h within = absurd (omega arith)
place-get place (x ∷ xs) least zero d h within = h.0
place-get place (x ∷ xs) least (suc i) d h within = omega (arith, h.0, place-get place xs (place x + 1) i d h.1 (omega arith))

pub places-rise : {X : Type 0} (place : X → ℕ) (xs : List X) (least i j : ℕ) (d : X) → Ascends place least xs → i < j → j < length xs → place (get_or xs i d) < place (get_or xs j d)
places-rise place [] least i j d h rise within = absurd (omega arith)
places-rise place (x ∷ xs) least i zero d h rise within = absurd (omega arith)
places-rise place (x ∷ xs) least zero (suc j) d h rise within = omega (arith, place-get place xs (place x + 1) j d h.1 (omega arith))
places-rise place (x ∷ xs) least (suc i) (suc j) d h rise within = places-rise place xs (place x + 1) i j d h.1 (omega arith) (omega arith)

pub Ascends-less : {X : Type 0} (place : X → ℕ) (xs : List X) (least most : ℕ) → Ascends place most xs → least ≤ most → Ascends place least xs
Ascends-less place [] least most h le = tt
Ascends-less place (x ∷ xs) least most h le = (omega (arith, h.0), h.1)

-- ---- The three cases of an item that is put in.

with_item-before : {X : Type 0} (place : X → ℕ) (x y : X) (ys : List X) → place x < place y → with_item place x (y ∷ ys) ≡ x ∷ y ∷ ys
with_item-before place x y ys lt = grind (arith, nat_tests)

with_item-same : {X : Type 0} (place : X → ℕ) (x y : X) (ys : List X) → place x ≡ place y → with_item place x (y ∷ ys) ≡ x ∷ ys
with_item-same place x y ys same = grind (arith, nat_tests)

with_item-after : {X : Type 0} (place : X → ℕ) (x y : X) (ys : List X) → place y < place x → with_item place x (y ∷ ys) ≡ y ∷ with_item place x ys
with_item-after place x y ys gt = grind (arith, nat_tests)

-- ---- The order stays.

ascends-with : {X : Type 0} (place : X → ℕ) (xs : List X) (x : X) (least : ℕ) → Ascends place least xs → least ≤ place x → Ascends place least (with_item place x xs)
ascends-with place [] x least h le = (le, tt)
ascends-with place (y ∷ ys) x least h le =
    elim (cases_lt (place x) (place y)) [
      | inl lt ↦ rw (with_item-before place x y ys lt) (le, (omega arith, h.1))
      | inr ge ↦ elim (cases_lt (place y) (place x)) [
        | inl gt ↦ rw (with_item-after place x y ys gt) (h.0, ascends-with place ys x (place y + 1) h.1 (omega arith))
        | inr eq ↦ let same : place x ≡ place y = omega arith in
            rw (with_item-same place x y ys same) (le, Ascends-less place ys (place x + 1) (place y + 1) h.1 (omega arith))
      ]
    ]

pub Ascends-with_item : {X : Type 0} (place : X → ℕ) (xs : List X) (x : X) → Ascends place 0 xs → Ascends place 0 (with_item place x xs)
Ascends-with_item place xs x h = ascends-with place xs x 0 h (omega arith)

filtered : {X : Type 0} (place : X → ℕ) (pass : Bool) (x : X) (rest : List X) (least : ℕ) → least ≤ place x → Ascends place (place x + 1) rest → Ascends place least (if pass then x ∷ rest else rest)
filtered place true x rest least le h = (le, h)
filtered place false x rest least le h = Ascends-less place rest least (place x + 1) h (omega arith)

ascends-filter : {X : Type 0} (place : X → ℕ) (test : X → Bool) (xs : List X) (least : ℕ) → Ascends place least xs → Ascends place least (filter test xs)
ascends-filter place test [] least h = tt
ascends-filter place test (x ∷ xs) least h = filtered place (test x) x (filter test xs) least h.0 (ascends-filter place test xs (place x + 1) h.1)

pub Ascends-without_place : {X : Type 0} (place : X → ℕ) (n : ℕ) (xs : List X) → Ascends place 0 xs → Ascends place 0 (without_place place n xs)
Ascends-without_place place n xs h = ascends-filter place (λ x. not (place x == n)) xs 0 h

-- ---- What is found at a place.

pub at_place-same : {X : Type 0} (place : X → ℕ) (n : ℕ) (x : X) (xs : List X) → place x ≡ n → at_place place n (x ∷ xs) ≡ Some x
at_place-same place n x xs same = grind (arith, nat_tests)

pub at_place-other : {X : Type 0} (place : X → ℕ) (n : ℕ) (x : X) (xs : List X) → place x ≢ n → at_place place n (x ∷ xs) ≡ at_place place n xs
at_place-other place n x xs other = grind (arith, nat_tests)

pub at_place-with_item-same : {X : Type 0} (place : X → ℕ) (xs : List X) (x : X) → at_place place (place x) (with_item place x xs) ≡ Some x
at_place-with_item-same place [] x = at_place-same place (place x) x [] refl
at_place-with_item-same place (y ∷ ys) x =
    elim (cases_lt (place x) (place y)) [
      | inl lt ↦ rw (with_item-before place x y ys lt) (at_place-same place (place x) x (y ∷ ys) refl)
      | inr ge ↦ elim (cases_lt (place y) (place x)) [
        | inl gt ↦ rw (with_item-after place x y ys gt) (at_place-other place (place x) y (with_item place x ys) (omega arith) ∙ at_place-with_item-same place ys x)
        | inr le ↦ let same : place x ≡ place y = omega arith in rw (with_item-same place x y ys same) (at_place-same place (place x) x ys refl)
      ]
    ]

pub at_place-with_item-other : {X : Type 0} (place : X → ℕ) (xs : List X) (x : X) (n : ℕ) → place x ≢ n → at_place place n (with_item place x xs) ≡ at_place place n xs
at_place-with_item-other place [] x n other = at_place-other place n x [] other
at_place-with_item-other place (y ∷ ys) x n other =
    elim (cases_lt (place x) (place y)) [
      | inl lt ↦ rw (with_item-before place x y ys lt) (at_place-other place n x (y ∷ ys) other)
      | inr ge ↦ elim (cases_lt (place y) (place x)) [
        | inl gt ↦ rw (with_item-after place x y ys gt)
            (elim (cases_eq (place y) n) [
              | inl here ↦ at_place-same place n y (with_item place x ys) here ∙ sym (at_place-same place n y ys here)
              | inr there ↦ at_place-other place n y (with_item place x ys) there ∙ at_place-with_item-other place ys x n other ∙ sym (at_place-other place n y ys there)
            ])
        | inr le ↦ let same : place x ≡ place y = omega arith in
            rw (with_item-same place x y ys same) (at_place-other place n x ys other ∙ sym (at_place-other place n y ys (omega arith)))
      ]
    ]

without-skips : {X : Type 0} (place : X → ℕ) (n : ℕ) (x : X) (xs : List X) → place x ≡ n → without_place place n (x ∷ xs) ≡ without_place place n xs
without-skips place n x xs same =
    cond-false (not (place x == n)) (x ∷ without_place place n xs) (without_place place n xs) (not_from_true (place x == n) (eq-eqb (place x) n same))

without-keeps : {X : Type 0} (place : X → ℕ) (n : ℕ) (x : X) (xs : List X) → place x ≢ n → without_place place n (x ∷ xs) ≡ x ∷ without_place place n xs
without-keeps place n x xs other =
    cond-true (not (place x == n)) (x ∷ without_place place n xs) (without_place place n xs) (not_from_false (place x == n) (ne_eqb (place x) n other))

pub at_place-without-same : {X : Type 0} (place : X → ℕ) (n : ℕ) (xs : List X) → at_place place n (without_place place n xs) ≡ None
at_place-without-same place n [] = refl
at_place-without-same place n (x ∷ xs) =
    elim (cases_eq (place x) n) [
      | inl same ↦ rw (without-skips place n x xs same) (at_place-without-same place n xs)
      | inr other ↦ rw (without-keeps place n x xs other) (at_place-other place n x (without_place place n xs) other ∙ at_place-without-same place n xs)
    ]

pub at_place-without-other : {X : Type 0} (place : X → ℕ) (n m : ℕ) (xs : List X) → n ≢ m → at_place place m (without_place place n xs) ≡ at_place place m xs
at_place-without-other place n m [] apart = refl
at_place-without-other place n m (x ∷ xs) apart =
    elim (cases_eq (place x) n) [
      | inl same ↦ rw (without-skips place n x xs same) (at_place-without-other place n m xs apart ∙ sym (at_place-other place m x xs (λ here. apart (sym same ∙ here))))
      | inr other ↦ rw (without-keeps place n x xs other)
          (elim (cases_eq (place x) m) [
            | inl here ↦ at_place-same place m x (without_place place n xs) here ∙ sym (at_place-same place m x xs here)
            | inr there ↦ at_place-other place m x (without_place place n xs) there ∙ at_place-without-other place n m xs apart ∙ sym (at_place-other place m x xs there)
          ])
    ]

pub at_place-below : {X : Type 0} (place : X → ℕ) (xs : List X) (n least : ℕ) → Ascends place least xs → n < least → at_place place n xs ≡ None
at_place-below place [] n least h lt = refl
at_place-below place (x ∷ xs) n least h lt = at_place-other place n x xs (omega (arith, h.0)) ∙ at_place-below place xs n (place x + 1) h.1 (omega (arith, h.0))

-- ---- How long a list is.

-- an item at a new place is one more
pub length-with_item-new : {X : Type 0} (place : X → ℕ) (xs : List X) (x : X) → at_place place (place x) xs ≡ None → length (with_item place x xs) ≡ length xs + 1
length-with_item-new place [] x none = refl
length-with_item-new place (y ∷ ys) x none =
    elim (cases_lt (place x) (place y)) [
      | inl lt ↦ rw (with_item-before place x y ys lt) (omega arith)
      | inr ge ↦ elim (cases_lt (place y) (place x)) [
        | inl gt ↦ rw (with_item-after place x y ys gt) (omega (arith, length-with_item-new place ys x (sym (at_place-other place (place x) y ys (omega arith)) ∙ none)))
        | inr le ↦ let same : place y ≡ place x = omega arith in let found = sym (at_place-same place (place x) y ys same) ∙ none in absurd cc
      ]
    ]

-- a list without what does not stand there is itself
pub without_place-absent : {X : Type 0} (place : X → ℕ) (n : ℕ) (xs : List X) → at_place place n xs ≡ None → without_place place n xs ≡ xs
without_place-absent place n [] none = refl
without_place-absent place n (x ∷ xs) none =
    elim (cases_eq (place x) n) [
      | inl same ↦ let found = sym (at_place-same place n x xs same) ∙ none in absurd cc
      | inr other ↦ without-keeps place n x xs other ∙ ap (λ ys. x ∷ ys) (without_place-absent place n xs (sym (at_place-other place n x xs other) ∙ none))
    ]

-- what is taken out is one less
pub length-without_place : {X : Type 0} (place : X → ℕ) (n : ℕ) (xs : List X) (y : X) (least : ℕ) → Ascends place least xs → at_place place n xs ≡ Some y → length (without_place place n xs) + 1 ≡ length xs
length-without_place place n [] y least h some = absurd cc
length-without_place place n (x ∷ xs) y least h some =
    elim (cases_eq (place x) n) [
      | inl same ↦ rw (without-skips place n x xs same, without_place-absent place n xs (at_place-below place xs n (place x + 1) h.1 (omega arith))) (omega arith)
      | inr other ↦ rw (without-keeps place n x xs other)
          (omega (arith, length-without_place place n xs y (place x + 1) h.1 (sym (at_place-other place n x xs other) ∙ some)))
    ]

-- ---- Where a search found the place.

behind : {X : Type 0} (place : X → ℕ) (x : X) (xs : List X) (n i : ℕ) → Around place n (suc i) (suc i) (x ∷ xs) → Around place n i i xs
behind place x xs n i around = record {
  below = λ k y lt. around.below (suc k) y (omega arith);
  above = λ k y le lt. around.above (suc k) y (omega arith) (omega arith);
}

-- an item takes the place of the one that is there
pub with_item-found : {X : Type 0} (place : X → ℕ) (xs : List X) (x : X) (least i : ℕ) → Ascends place least xs → IsFoundAt place (place x) xs (Ok i) → with_item place x xs ≡ set xs i x
with_item-found place [] x least i h found = absurd (omega (arith, found.0))
with_item-found place (y ∷ ys) x least zero h found = with_item-same place x y ys (sym (found.1 x))
with_item-found place (y ∷ ys) x least (suc i) h found =
    let within : i < length ys = omega (arith, found.0) in
    let above = place-get place ys (place y + 1) i x h.1 within in
    let there : place (get_or ys i x) ≡ place x = found.1 x in
    with_item-after place x y ys (omega arith) ∙ ap (λ zs. y ∷ zs) (with_item-found place ys x (place y + 1) i h.1 (within, λ z. found.1 z))

-- one at a new place goes between those before and those after it
pub with_item-absent : {X : Type 0} (place : X → ℕ) (xs : List X) (x : X) (i : ℕ) → IsFoundAt place (place x) xs (Err i) → with_item place x xs ≡ insert xs i x
with_item-absent place [] x zero found = refl
with_item-absent place [] x (suc i) found = absurd (omega (arith, found.0))
with_item-absent place (y ∷ ys) x zero found = with_item-before place x y ys (found.1.above 0 x (omega arith) (omega arith))
with_item-absent place (y ∷ ys) x (suc i) found =
    with_item-after place x y ys (found.1.below 0 x (omega arith)) ∙ ap (λ zs. y ∷ zs) (with_item-absent place ys x i (omega (arith, found.0), behind place y ys (place x) i found.1))

pub at_place-found : {X : Type 0} (place : X → ℕ) (xs : List X) (n least i : ℕ) (d : X) → Ascends place least xs → IsFoundAt place n xs (Ok i) → at_place place n xs ≡ Some (get_or xs i d)
at_place-found place [] n least i d h found = absurd (omega (arith, found.0))
at_place-found place (y ∷ ys) n least zero d h found = at_place-same place n y ys (found.1 d)
at_place-found place (y ∷ ys) n least (suc i) d h found =
    let within : i < length ys = omega (arith, found.0) in
    let above = place-get place ys (place y + 1) i d h.1 within in
    let there : place (get_or ys i d) ≡ n = found.1 d in
    at_place-other place n y ys (omega arith) ∙ at_place-found place ys n (place y + 1) i d h.1 (within, λ z. found.1 z)

pub at_place-absent : {X : Type 0} (place : X → ℕ) (xs : List X) (n i : ℕ) → IsFoundAt place n xs (Err i) → at_place place n xs ≡ None
at_place-absent place [] n i found = refl
at_place-absent place (y ∷ ys) n zero found =
    let above = found.1.above 0 y (omega arith) (omega arith) in
    at_place-other place n y ys (omega arith) ∙ at_place-absent place ys n zero (
      omega arith,
      record {
        below = λ k z lt. absurd (omega arith);
        above = λ k z le lt. found.1.above (suc k) z (omega arith) (omega arith);
      },
    )
at_place-absent place (y ∷ ys) n (suc i) found =
    let below = found.1.below 0 y (omega arith) in
    at_place-other place n y ys (omega arith) ∙ at_place-absent place ys n i (omega (arith, found.0), behind place y ys n i found.1)

-- what was found is taken out
pub without_place-found : {X : Type 0} (place : X → ℕ) (xs : List X) (n least i : ℕ) → Ascends place least xs → IsFoundAt place n xs (Ok i) → without_place place n xs ≡ remove xs i
without_place-found place [] n least i h found = absurd (omega (arith, found.0))
without_place-found place (y ∷ ys) n least zero h found =
    let same : place y ≡ n = found.1 y in
    without-skips place n y ys same ∙ without_place-absent place n ys (at_place-below place ys n (place y + 1) h.1 (omega arith))
without_place-found place (y ∷ ys) n least (suc i) h found =
    let within : i < length ys = omega (arith, found.0) in
    let above = place-get place ys (place y + 1) i y h.1 within in
    let there : place (get_or ys i y) ≡ n = found.1 y in
    without-keeps place n y ys (omega arith) ∙ ap (λ zs. y ∷ zs) (without_place-found place ys n (place y + 1) i h.1 (within, λ z. found.1 z))

-- ---- A search by halves

-- where the item in the middle stands below, all up to it do
pub Around-above_middle : {X : Type 0} (place : X → ℕ) (xs : List X) (n low high middle : ℕ) → Ascends place 0 xs → Around place n low high xs → middle < length xs → ((x : X) → place (get_or xs middle x) < n) → Around place n (middle + 1) high xs
Around-above_middle place xs n low high middle h around within below = record {
  below = λ k x lt. elim (cases_lt k middle) [
    | inl before ↦ omega (arith, places-rise place xs 0 k middle x h before within, below x)
    | inr after ↦ let same : k ≡ middle = omega arith in omega (arith, ap (λ j. place (get_or xs j x)) same, below x)
  ];
  above = around.above;
}

-- where it stands above, all from it on do
pub Around-below_middle : {X : Type 0} (place : X → ℕ) (xs : List X) (n low high middle : ℕ) → Ascends place 0 xs → Around place n low high xs → middle < length xs → ((x : X) → n < place (get_or xs middle x)) → Around place n low middle xs
Around-below_middle place xs n low high middle h around within above = record {
  below = around.below;
  above = λ k x le lt. elim (cases_lt middle k) [
    | inl after ↦ omega (arith, places-rise place xs 0 middle k x h after lt, above x)
    | inr before ↦ let same : k ≡ middle = omega arith in omega (arith, ap (λ j. place (get_or xs j x)) same, above x)
  ];
}

-- what a read gives does not depend on what it gives past the end
pub place-read : {X : Type 0} (place : X → ℕ) (xs : List X) (i : ℕ) (read : X) → i < length xs → read ≡ get_or xs i read → (x : X) → place (get_or xs i x) ≡ place read
place-read place xs i read within is x = ap place (get_or_default xs i x read within ∙ sym is)

pub less_than : (x y : ℕ) → Less ≡ nat_cmp x y → x < y
less_than x y e =
    elim (cases_lt x y) [
      | inl lt ↦ lt
      | inr ge ↦ elim (cases_lt y x) [
        | inl gt ↦ let other = nat_cmp_is x y Greater gt in absurd cc
        | inr le ↦ let other = nat_cmp_is x y Equal (omega arith) in absurd cc
      ]
    ]

pub more_than : (x y : ℕ) → Greater ≡ nat_cmp x y → y < x
more_than x y e =
    elim (cases_lt y x) [
      | inl gt ↦ gt
      | inr ge ↦ elim (cases_lt x y) [
        | inl lt ↦ let other = nat_cmp_is x y Less lt in absurd cc
        | inr le ↦ let other = nat_cmp_is x y Equal (omega arith) in absurd cc
      ]
    ]

pub same_as : (x y : ℕ) → Equal ≡ nat_cmp x y → x ≡ y
same_as x y e =
    elim (cases_lt x y) [
      | inl lt ↦ let other = nat_cmp_is x y Less lt in absurd cc
      | inr ge ↦ elim (cases_lt y x) [
        | inl gt ↦ let other = nat_cmp_is x y Greater gt in absurd cc
        | inr le ↦ omega arith
      ]
    ]
