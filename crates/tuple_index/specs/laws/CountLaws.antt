-- How many different numbers a list has: a list of the same numbers has as many, and a run of one number counts as one.
use Rattle.std.proofs.Common.{◌≡◌, ◌≢◌, ◌==◌, ℕ, zero, suc, ◌+◌, ◌<◌, ◌≤◌, true, false, not, ◌||◌, List, [], ◌∷◌, length, length-drop, get_or, map, drop, refl, sym, ap, ◌∙◌, arith, inl, inr}
use Rattle.std.proofs.lemmas.Bool.{cases_Bool, cases_eq, cond-true, cond-false, eq-eqb, ne_eqb, or_left, not_from_true, not_from_false}
use Rattle.std.proofs.lemmas.List.{get_or-drop, drop_more}
use Rattle.of_types.specs.Membership.{is_among}
use Rattle.flow_table.specs.Sorted.{without_place}
use Rattle.tuple_index.specs.Groups.{different}

-- the list without a number
abbrev without : ℕ → List ℕ → List ℕ
without n ns = without_place (λ m. m) n ns

has-here : (n : ℕ) (ns : List ℕ) → is_among n (n ∷ ns) ≡ true
has-here n ns = or_left (n == n) (is_among n ns) (eq-eqb n n refl)

has-there : (n m : ℕ) (ns : List ℕ) → m ≢ n → is_among n (m ∷ ns) ≡ is_among n ns
has-there n m ns other = ap (λ b. b || is_among n ns) (ne_eqb m n other)

different-again : (n : ℕ) (ns : List ℕ) → is_among n ns ≡ true → different (n ∷ ns) ≡ different ns
different-again n ns is = cond-true (is_among n ns) (different ns) (different ns + 1) is

different-new : (n : ℕ) (ns : List ℕ) → is_among n ns ≡ false → different (n ∷ ns) ≡ different ns + 1
different-new n ns none = cond-false (is_among n ns) (different ns) (different ns + 1) none

without-here : (n : ℕ) (ns : List ℕ) → without n (n ∷ ns) ≡ without n ns
without-here n ns = cond-false (not (n == n)) (n ∷ without n ns) (without n ns) (not_from_true (n == n) (eq-eqb n n refl))

without-there : (n m : ℕ) (ns : List ℕ) → m ≢ n → without n (m ∷ ns) ≡ m ∷ without n ns
without-there n m ns other = cond-true (not (m == n)) (m ∷ without n ns) (without n ns) (not_from_false (m == n) (ne_eqb m n other))

without-absent : (n : ℕ) (ns : List ℕ) → is_among n ns ≡ false → without n ns ≡ ns
without-absent n [] none = refl
without-absent n (m ∷ ns) none =
    elim (cases_eq m n) [
      | inl here ↦ absurd cc (or_left (m == n) (is_among n ns) (eq-eqb m n here), none)
      | inr there ↦ without-there n m ns there ∙ ap (λ xs. m ∷ xs) (without-absent n ns (sym (has-there n m ns there) ∙ none))
    ]

has-without-same : (n : ℕ) (ns : List ℕ) → is_among n (without n ns) ≡ false
has-without-same n [] = refl
has-without-same n (m ∷ ns) =
    elim (cases_eq m n) [
      | inl here ↦ rw here (ap (is_among n) (without-here n ns) ∙ has-without-same n ns)
      | inr there ↦ ap (is_among n) (without-there n m ns there) ∙ has-there n m (without n ns) there ∙ has-without-same n ns
    ]

has-without-other : (n m : ℕ) (ns : List ℕ) → m ≢ n → is_among m (without n ns) ≡ is_among m ns
has-without-other n m [] other = refl
has-without-other n m (k ∷ ns) other =
    elim (cases_eq k n) [
      | inl here ↦ rw here (ap (is_among m) (without-here n ns) ∙ has-without-other n m ns other ∙ sym (has-there m n ns (λ is. other (sym is))))
      | inr there ↦ ap (is_among m) (without-there n k ns there) ∙ ap (λ b. (k == m) || b) (has-without-other n m ns other)
    ]

different-without : (n : ℕ) (ns : List ℕ) → is_among n ns ≡ true → different ns ≡ different (without n ns) + 1
different-without n [] is = absurd cc
different-without n (m ∷ ns) is =
    elim (cases_eq m n) [
      | inl here ↦ rw here (elim (cases_Bool (is_among n ns)) [
        | inl again ↦ different-again n ns again ∙ different-without n ns again ∙ ap (λ xs. different xs + 1) (sym (without-here n ns))
        | inr new ↦ different-new n ns new ∙ ap (λ xs. different xs + 1) (sym (without-here n ns ∙ without-absent n ns new))
      ])
      | inr there ↦
          let rest = different-without n ns (sym (has-there n m ns there) ∙ is) in
          let same = has-without-other n m ns there in
          let list = ap different (without-there n m ns there) in
          elim (cases_Bool (is_among m ns)) [
            | inl again ↦
                let first = different-again m ns again in
                let second = different-again m (without n ns) (same ∙ again) in
                omega arith
            | inr new ↦
                let first = different-new m ns new in
                let second = different-new m (without n ns) (same ∙ new) in
                omega arith
          ]
    ]

none-of_none : (ys : List ℕ) → ((n : ℕ) → is_among n ys ≡ false) → ys ≡ []
none-of_none [] none = refl
none-of_none (y ∷ ys) none = absurd cc (has-here y ys, none y)

-- lists of the same numbers have as many different ones
pub different-same : (xs ys : List ℕ) → ((n : ℕ) → is_among n xs ≡ is_among n ys) → different xs ≡ different ys
different-same [] ys same = ap different (sym (none-of_none ys (λ n. sym (same n))))
different-same (x ∷ xs) ys same =
    elim (cases_Bool (is_among x xs)) [
      | inl again ↦ different-again x xs again ∙ different-same xs ys (λ n. elim (cases_eq x n) [
        | inl here ↦ rw (sym here) (again ∙ sym (has-here x xs) ∙ same x)
        | inr there ↦ sym (has-there n x xs there) ∙ same n
      ])
      | inr new ↦
          let rest = different-same xs (without x ys) (λ n. elim (cases_eq x n) [
            | inl here ↦ rw (sym here) (new ∙ sym (has-without-same x ys))
            | inr there ↦ sym (has-there n x xs there) ∙ same n ∙ sym (has-without-other x n ys (λ is. there (sym is)))
          ]) in
          different-new x xs new ∙ ap (λ n. n + 1) rest ∙ sym (different-without x ys (sym (same x) ∙ has-here x xs))
    ]

-- ---- A run of one number

differs : {X : Type 0} (f : X → ℕ) (xs : List X) (w : ℕ) → ((i : ℕ) (d : X) → i < length xs → f (get_or xs i d) ≢ w) → is_among w (map f xs) ≡ false
differs f [] w other = refl
differs f (x ∷ xs) w other = has-there w (f x) (map f xs) (other 0 x (omega arith)) ∙ differs f xs w (λ i d within. other (suc i) d (omega arith))

-- where a number runs from one place to another and comes no more behind, it counts as one
pub different-run : {X : Type 0} (f : X → ℕ) (xs : List X) (w n from : ℕ) → from + suc n ≤ length xs → ((i : ℕ) (d : X) → from ≤ i → i < from + suc n → f (get_or xs i d) ≡ w)
    → ((i : ℕ) (d : X) → from + suc n ≤ i → i < length xs → f (get_or xs i d) ≢ w) → (d : X) → different (map f (drop from xs)) ≡ different (map f (drop (from + suc n) xs)) + 1
different-run f xs w zero from within run after d =
    let here = run from d (omega arith) (omega arith) in
    let rest : is_among (f (get_or xs from d)) (map f (drop (from + 1) xs)) ≡ false = rw here (differs f (drop (from + 1) xs) w (λ i e inside. rw (get_or-drop (from + 1) xs i e) (after (from + 1 + i) e (omega arith) (omega (arith, length-drop (from + 1) xs))))) in
    ap (λ ys. different (map f ys)) (drop_more xs from d (omega arith)) ∙ different-new (f (get_or xs from d)) (map f (drop (from + 1) xs)) rest
different-run f xs w (suc n) from within run after d =
    let here = run from d (omega arith) (omega arith) in
    let there = run (from + 1) d (omega arith) (omega arith) in
    let second : map f (drop (from + 1) xs) ≡ f (get_or xs (from + 1) d) ∷ map f (drop (from + 1 + 1) xs) = ap (map f) (drop_more xs (from + 1) d (omega arith)) in
    let again : is_among (f (get_or xs from d)) (map f (drop (from + 1) xs)) ≡ true =
    ap (is_among (f (get_or xs from d))) second
    ∙ or_left (f (get_or xs (from + 1) d) == f (get_or xs from d)) (is_among (f (get_or xs from d)) (map f (drop (from + 1 + 1) xs))) (eq-eqb (f (get_or xs (from + 1) d)) (f (get_or xs from d)) (there ∙ sym here)) in
    let end : from + 1 + suc n ≡ from + suc (suc n) = omega arith in
    ap (λ ys. different (map f ys)) (drop_more xs from d (omega arith)) ∙ different-again (f (get_or xs from d)) (map f (drop (from + 1) xs)) again
    ∙ different-run f xs w n (from + 1) (omega arith) (λ i e first last. run i e (omega arith) (omega arith)) (λ i e first last. after i e (omega arith) last) d
    ∙ ap (λ m. different (map f (drop m xs)) + 1) end
