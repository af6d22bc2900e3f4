-- The inverses that were sent stand in the order of the log: of the switches that did not fail all of them.
use Rattle.std.specs.Prelude.{◌≡◌, ◌==◌, ℕ, ◌+◌, ◌≤◌, Bool, true, false, not, ◌&&◌, List, [], ◌∷◌, ◌++◌, length, map, filter, if◌then◌else◌, refl}
use Rattle.std.proofs.Common.{sym, ap, ◌∙◌, subst, eq-eqb, inl, inr, arith}
use Rattle.std.proofs.lemmas.Bool.{cases_Bool, ne_eqb}
use Rattle.of_match.specs.declared.key.Key.{Key}
use Rattle.flow_table.specs.View.{TableView}
use Rattle.net_txn.specs.Undos.{Part, Inverse, BarrierPassed, Stuck, parts_of, is_stuck, inverses_of, is_served, inverse_in, sent_in, IsThinned, keys_of}
use Rattle.net_txn.specs.Views.{is_viewed}

-- ---- Thinned lists with the same keys of each switch that counts

le_both : (here : Bool) (k : Key) (ks ls : List Key) → length ks ≤ length ls → length (if here then k ∷ ks else ks) ≤ length (if here then k ∷ ls else ls)
le_both true k ks ls le = omega (arith, le)
le_both false k ks ls le = le

le_more : (here : Bool) (n : ℕ) (k : Key) (ks : List Key) → n ≤ length ks → n ≤ length (if here then k ∷ ks else ks)
le_more true n k ks le = omega (arith, le)
le_more false n k ks le = le

fewer : (d : ℕ) (xs ys : List (ℕ × Key)) → IsThinned xs ys → length (keys_of d xs) ≤ length (keys_of d ys)
fewer d [] ys is = omega arith
fewer d (x ∷ xs) [] is = absurd is
fewer d (x ∷ xs) (y ∷ ys) (inl is) =
    subst (λ (z : ℕ × Key). length (keys_of d (x ∷ xs)) ≤ length (keys_of d (z ∷ ys))) is.0 (le_both (x.0 == d) x.1 (keys_of d xs) (keys_of d ys) (fewer d xs ys is.1))
fewer d (x ∷ xs) (y ∷ ys) (inr is) = le_more (y.0 == d) (length (keys_of d (x ∷ xs))) y.1 (keys_of d ys) (fewer d (x ∷ xs) ys is)

abbrev SameKeys : (ℕ → Bool) → List (ℕ × Key) → List (ℕ × Key) → Type 0
SameKeys counts xs ys = (d : ℕ) → counts d ≡ true → keys_of d xs ≡ keys_of d ys

-- a key of a switch that counts is not left out
left_out : (counts : ℕ → Bool) (xs : List (ℕ × Key)) (y : ℕ × Key) (ys : List (ℕ × Key)) → IsThinned xs ys → SameKeys counts xs (y ∷ ys) → counts y.0 ≡ false
left_out counts xs y ys is same = elim (cases_Bool (counts y.0)) [
  | inl counted ↦
      (let here : keys_of y.0 xs ≡ keys_of y.0 (y ∷ ys) = same y.0 counted in
      let all : keys_of y.0 xs ≡ y.1 ∷ keys_of y.0 ys = rw (eq-eqb y.0 y.0 refl) at here in
      let few = fewer y.0 xs ys is in
      let long : length (keys_of y.0 xs) ≡ length (keys_of y.0 ys) + 1 = ap length all ∙ omega arith in
      absurd (omega (arith, few, long)))
  | inr other ↦ other
]

same_rest : (counts : ℕ → Bool) (xs : List (ℕ × Key)) (y : ℕ × Key) (ys : List (ℕ × Key)) → counts y.0 ≡ false → SameKeys counts xs (y ∷ ys) → SameKeys counts xs ys
same_rest counts xs y ys none same d counted = let here : keys_of d xs ≡ keys_of d (y ∷ ys) = same d counted in rw (ne_eqb y.0 d apart) at here
  where
    both : (b : Bool) → b ≡ false → b ≡ true → ⊥
    both b none is = cc

    apart : y.0 ≡ d → ⊥
    apart is = both (counts d) (sym (ap counts is) ∙ none) counted

same_tail : (here : Bool) (k : Key) (ks ls : List Key) → (if here then k ∷ ks else ks) ≡ (if here then k ∷ ls else ls) → ks ≡ ls
same_tail true k ks ls is = cc
same_tail false k ks ls is = is

filter_both : (here : Bool) (x : ℕ × Key) (xs ys : List (ℕ × Key)) → xs ≡ ys → (if here then x ∷ xs else xs) ≡ (if here then x ∷ ys else ys)
filter_both true x xs ys is = ap (λ (zs : List (ℕ × Key)). x ∷ zs) is
filter_both false x xs ys is = is

same_counted : (counts : ℕ → Bool) (xs ys : List (ℕ × Key)) → IsThinned xs ys → SameKeys counts xs ys → filter (λ p. counts p.0) xs ≡ filter (λ p. counts p.0) ys
same_counted counts [] [] is same = refl
same_counted counts [] (y ∷ ys) is same =
    let none = left_out counts [] y ys tt same in
    rw none (same_counted counts [] ys tt (same_rest counts [] y ys none same))
same_counted counts (x ∷ xs) [] is same = absurd is
same_counted counts (x ∷ xs) (y ∷ ys) (inl is) same =
    let here : SameKeys counts (x ∷ xs) (x ∷ ys) = subst (λ (z : ℕ × Key). SameKeys counts (x ∷ xs) (z ∷ ys)) (sym is.0) same in
    let rest = same_counted counts xs ys is.1 (λ d counted. same_tail (x.0 == d) x.1 (keys_of d xs) (keys_of d ys) (here d counted)) in
    subst (λ (z : ℕ × Key). filter (λ p. counts p.0) (x ∷ xs) ≡ filter (λ p. counts p.0) (z ∷ ys)) is.0 (filter_both (counts x.0) x (filter (λ p. counts p.0) xs) (filter (λ p. counts p.0) ys) rest)
same_counted counts (x ∷ xs) (y ∷ ys) (inr is) same =
    let none = left_out counts (x ∷ xs) y ys is same in
    rw none (same_counted counts (x ∷ xs) ys is (same_rest counts (x ∷ xs) y ys none same))

-- ---- The keys that were sent to a switch

part_keys : (d c : ℕ) (p : Part) (older : List (ℕ × Part)) → keys_of d (sent_in older) ≡ map (λ q. q.1) (inverses_of (parts_of d older))
    → (here : Bool) → (c == d) ≡ here → keys_of d (inverse_in c p ++ sent_in older) ≡ map (λ q. q.1) (inverses_of (if here then p ∷ parts_of d older else parts_of d older))
part_keys d c (Inverse xid k) older rest true is = rw is (ap (λ (ks : List Key). k ∷ ks) rest)
part_keys d c (Inverse xid k) older rest false is = rw is rest
part_keys d c (BarrierPassed xid got) older rest true is = rest
part_keys d c (BarrierPassed xid got) older rest false is = rest
part_keys d c (Stuck xid fault steps) older rest true is = rest
part_keys d c (Stuck xid fault steps) older rest false is = rest

sent_keys : (d : ℕ) (parts : List (ℕ × Part)) → keys_of d (sent_in parts) ≡ map (λ q. q.1) (inverses_of (parts_of d parts))
sent_keys d [] = refl
sent_keys d (p ∷ older) = part_keys d p.0 p.1 older (sent_keys d older) (p.0 == d) refl

-- ---- The whole

both_is : (a b : Bool) → (a && not b) ≡ true → (a ≡ true) × (b ≡ false)
both_is true true is = absurd cc
both_is true false is = (refl, refl)
both_is false b is = absurd cc

pub served_all : (views : List TableView) (parts : List (ℕ × Part)) (all : List (ℕ × Key)) → IsThinned (sent_in parts) all
    → ((d : ℕ) → is_viewed d views ≡ true → is_stuck (parts_of d parts) ≡ false → map (λ q. q.1) (inverses_of (parts_of d parts)) ≡ keys_of d all)
    → filter (λ p. is_served views parts p.0) (sent_in parts) ≡ filter (λ p. is_served views parts p.0) all
served_all views parts all is keys = same_counted (is_served views parts) (sent_in parts) all is same
  where
    same : SameKeys (is_served views parts) (sent_in parts) all
    same d counted = let so = both_is (is_viewed d views) (is_stuck (parts_of d parts)) counted in sent_keys d parts ∙ keys d so.0 so.1
