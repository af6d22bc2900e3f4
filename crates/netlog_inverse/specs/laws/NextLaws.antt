-- What follows about the next key of which a message is sought: the spots of an index, from the first one behind a key on, lead to it.
use Rattle.std.proofs.Common.{◌≡◌, ◌≢◌, ◌==◌, ℕ, zero, suc, ◌+◌, ◌-◌, ◌*◌, ◌^◌, ◌<◌, ◌≤◌, Bool, true, false, List, [], ◌∷◌, ◌++◌, length, get_or, drop, Option, Some, None, refl, sym, ap, ap₂, subst, ◌∙◌, arith, ◌⊎◌, inl, inr}
use Rattle.std.specs.Prelude.{slice_get}
use Rattle.std.proofs.lemmas.Bool.{cases_lt, cases_Bool, eqb-true, and_parts}
use Rattle.std.proofs.lemmas.List.{get_or-drop}
use Rattle.of_match.specs.declared.key.Key.{Key}
use Rattle.of_match.specs.Key.{key_number}
use Rattle.flow_table.specs.declared.view.ViewRow.{ViewRow}
use Rattle.flow_table.specs.Corrected.{row_at}
use Rattle.netlog_inverse.specs.declared.image.Image.{Image}
use Rattle.netlog_inverse.specs.declared.image.Logged.{Logged}
use Rattle.netlog_inverse.specs.declared.image.PutBack.{PutBack}
use Rattle.netlog_inverse.specs.declared.image.PutBack.TheVariants.{Row}
use Rattle.netlog_inverse.specs.declared.index.Spot.{Spot}
use Rattle.netlog_inverse.specs.declared.sending.Wanted.{Wanted}
use Rattle.netlog_inverse.specs.Index.{key_in_put, key_place, rank_of, rank, IsIndex, IsBound, dpid_rank, start_rank}
use Rattle.netlog_inverse.specs.Log.{logged_at}
use Rattle.netlog_inverse.specs.Marks.{IsFirstAt, IsImageAt}
use Rattle.netlog_inverse.specs.Meaning.{is_at, is_image_of, first_at}
use Rattle.netlog_inverse.specs.Next.{IsFirstFrom, wants, wants_put, Sought, image_for, is_sought, place_after, NoneFrom, NoneBetween, IsNextFrom, IsNext, ArePassed, AreAll, IsFoundFor}
use Rattle.netlog_inverse.specs.laws.FirstLaws.{first_at-takes, first_at-skips}
use Rattle.netlog_inverse.specs.laws.IndexLaws.{with-row, key_number-lt, key_place-same, rank-at, rank-le}
use Rattle.netlog_inverse.specs.laws.MarkLaws.{first-number, option_cases}
use Rattle.netlog_inverse.specs.laws.MendKeyLaws.{first-within}
use Rattle.netlog_inverse.specs.laws.SpotLaws.{spot-there, image-there, image-behind, rank-low, rank-high}

-- ---- Keys of one number

pub sought-number : (s : Sought) (k l : Key) → key_number k ≡ key_number l → is_sought s l ≡ is_sought s k
sought-number s k l same = ap₂ (λ (o : Option Image) (r : Option ViewRow). wants s.kind o r) (first-number s.dpid k l (drop s.mark s.log) same) (row-number k l s.rows same)
  where
    row-number : (k l : Key) (rows : List ViewRow) → key_number k ≡ key_number l → row_at l rows ≡ row_at k rows
    row-number k l rows same = rw same refl

-- ---- A key that is sought has a spot

some-image : (d : ℕ) (k : Key) (log : List Logged) (i : Image) → first_at d k log ≡ Some i → (q : ℕ) × IsImageAt d k q log
some-image d k [] i found = absurd cc
some-image d k (l ∷ log) i found =
    elim (cases_Bool (is_image_of d k l)) [
      | inl is ↦ (0, is)
      | inr other ↦ let (q, is) = some-image d k log i (sym (first_at-skips d k l log other) ∙ found) in (suc q, is)
    ]

image-of : (s : Sought) (k : Key) → is_sought s k ≡ true → (i : Image) × (image_for s k ≡ Some i)
image-of s k sought =
    elim (option_cases (image_for s k)) [
      | inl found ↦ found
      | inr none ↦ let bad : false ≡ true = sym (ap (λ (o : Option Image). wants s.kind o (row_at k s.rows)) none) ∙ sought in absurd cc
    ]

image-small : (q : ℕ) (log : List Logged) (d : ℕ) (k : Key) → IsImageAt d k q log → q < length log
image-small q [] d k is = absurd is
image-small zero (l ∷ log) d k is = omega arith
image-small (suc q) (l ∷ log) d k is = omega (arith, image-small q log d k is)

-- the spots of keys behind a key stand from its rank on
start-le : (d : ℕ) (after : Option Key) (k : Key) (n : ℕ) → place_after after ≤ key_number k → start_rank d after ≤ rank_of d k n
unfolding dpid_rank key_place
start-le d None k n le = omega arith
start-le d (Some a) k n le = omega arith

start-behind : (d : ℕ) (after : Option Key) (k : Key) (n : ℕ) → n < 2 ^ 64 - 1 → start_rank d after ≤ rank_of d k n → place_after after ≤ key_number k
unfolding key_place
start-behind d None k n small le = omega arith
start-behind d (Some a) k n small le = omega arith

pub sought-spot : (s : Sought) (index : List Spot) (after : Option Key) (start : ℕ) (k : Key) (x : Spot) → IsIndex s.log index → length s.log < 2 ^ 64 → IsBound (start_rank s.dpid after) index start → place_after after ≤ key_number k → is_sought s k ≡ true
    → (j : ℕ) × (start ≤ j) × (j < length index) × ((get_or index j x).dpid ≡ s.dpid) × (key_number (get_or index j x).key ≡ key_number k)
sought-spot s index after start k x h small bound behind sought =
    let (i, found) = image-of s k sought in
    let (q, is) = some-image s.dpid k (drop s.mark s.log) i found in
    let image = image-behind s.dpid k s.mark q s.log is in
    let (j, inside, at) = image-there s.log index (s.mark + q) s.dpid k x h small image in
    let t : Spot = get_or index j x in
    let there = spot-there s.log index j x h inside in
    let low = image-small (s.mark + q) s.log s.dpid k image in
    let place = rank-at (key_place t.dpid t.key) (key_place s.dpid k) t.at (s.mark + q) (omega (arith, there.0)) (omega arith) at in
    let same = key_place-same t.dpid s.dpid t.key k place.0 in
    let from : start ≤ j = (elim (cases_lt j start) [
      | inl lt ↦ let less = bound.1.below j x lt in let le = start-le s.dpid after k (s.mark + q) behind in absurd (omega arith)
      | inr ge ↦ ge
    ]) in
    (j, from, inside, same.0, same.1)

-- ---- What the loop over the spots has found

least-rank : (d : ℕ) (after : Option Key) → dpid_rank d ≤ start_rank d after
unfolding dpid_rank key_place
least-rank d None = omega arith
least-rank d (Some a) = omega arith

-- the spots behind one of a greater switch are of none smaller
pub others-behind : (log : List Logged) (index : List Spot) (d : ℕ) (after : Option Key) (start e : ℕ) (x : Spot) → IsIndex log index → length log < 2 ^ 64 → IsBound (start_rank d after) index start → start ≤ e → e < length index → (get_or index e x).dpid ≢ d
    → (j : ℕ) → e ≤ j → j < length index → (get_or index j x).dpid ≢ d
others-behind log index d after start e x h small bound from inside other j le within same =
    let a : Spot = get_or index e x in
    let b : Spot = get_or index j x in
    let above = bound.1.above e x from inside in
    let rise = rank-le index e j x h.in_order le within in
    let least = least-rank d after in
    let first = spot-there log index e x h inside in
    let second = spot-there log index j x h within in
    elim (cases_lt a.dpid d) [
      | inl lt ↦ let low = rank-low a d (omega (arith, first.0)) lt in omega arith
      | inr ge ↦
          let gt : d < a.dpid = omega arith in
          let low = rank-low b a.dpid (omega (arith, second.0)) (omega arith) in
          let high = rank-high a a.dpid (omega arith) in
          omega arith
    ]

pub next-none : (s : Sought) (index : List Spot) (after : Option Key) (start e : ℕ) (x : Spot) → IsIndex s.log index → length s.log < 2 ^ 64 → IsBound (start_rank s.dpid after) index start
    → ((j : ℕ) → start ≤ j → j < e → is_sought s (get_or index j x).key ≡ false) → ((j : ℕ) → e ≤ j → j < length index → (get_or index j x).dpid ≢ s.dpid) → NoneFrom s (place_after after)
next-none s index after start e x h small bound passed rest k behind =
    elim (cases_Bool (is_sought s k)) [
      | inr none ↦ none
      | inl sought ↦
          let (j, from, inside, dpid, number) = sought-spot s index after start k x h small bound behind sought in
          elim (cases_lt j e) [
            | inl lt ↦ let no = passed j from lt in let same = sought-number s k (get_or index j x).key (sym number) in absurd cc
            | inr ge ↦ absurd (rest j ge inside dpid)
          ]
    ]

-- of one switch, a lower key has a lower rank
below : (a b : Spot) → a.dpid ≡ b.dpid → b.at < 2 ^ 64 → key_number b.key < key_number a.key → rank a ≤ rank b → ⊥
unfolding key_place
below a b same small lt le = let whole = ap (λ (d : ℕ). d * 256 ^ 42) same in omega arith

pub next-some : (s : Sought) (index : List Spot) (after : Option Key) (start e : ℕ) (x : Spot) (w : Wanted) → IsIndex s.log index → length s.log < 2 ^ 64 → IsBound (start_rank s.dpid after) index start → start ≤ e → e < length index → (get_or index e x).dpid ≡ s.dpid
    → ((j : ℕ) → start ≤ j → j < e → is_sought s (get_or index j x).key ≡ false) → IsFoundFor s (get_or index e x).key (Some w) → IsNextFrom s (place_after after) w
next-some s index after start e x w h small bound from inside dpid passed found =
    let t : Spot = get_or index e x in
    let there = spot-there s.log index e x h inside in
    let above = bound.1.above e x from inside in
    let place : rank t ≡ rank_of s.dpid t.key t.at = ap (λ (d : ℕ). rank_of d t.key t.at) dpid in
    let behind = start-behind s.dpid after t.key t.at (omega (arith, there.0)) (omega arith) in
    let number : key_number w.key ≡ key_number t.key = found.1 in
    record {
      behind = omega arith;
      passed = λ k least most. elim (cases_Bool (is_sought s k)) [
        | inr none ↦ none
        | inl sought ↦
            let (j, low, within, same, one) = sought-spot s index after start k x h small bound least sought in
            elim (cases_lt j e) [
              | inl lt ↦ let no = passed j low lt in let both = sought-number s k (get_or index j x).key (sym one) in absurd cc
              | inr ge ↦
                  let b : Spot = get_or index j x in
                  let other = spot-there s.log index j x h within in
                  let rise = rank-le index e j x h.in_order ge within in
                  absurd (below t b (dpid ∙ sym same) (omega (arith, other.0)) (omega arith) rise)
            ]
      ];
      sought = sought-number s t.key w.key (sym number) ∙ found.0;
      found = found.2;
    }

-- ---- All of a kind

none-both : (s : Sought) (from middle to : ℕ) → NoneBetween s from middle → NoneBetween s middle to → NoneBetween s from to
none-both s from middle to first rest k least most =
    elim (cases_lt (key_number k) middle) [
      | inl lt ↦ first k least lt
      | inr ge ↦ rest k ge most
    ]

-- one more
pub passed-more : (s : Sought) (from to : ℕ) (ws : List Wanted) (w : Wanted) → ArePassed s from ws to → IsNextFrom s to w → ArePassed s from (ws ++ w ∷ []) (key_number w.key + 1)
passed-more s from to [] w passed next = (
  record {
    behind = omega (arith, passed.0, next.behind);
    passed = none-both s from to (key_number w.key) passed.1 next.passed;
    sought = next.sought;
    found = next.found;
  },
  (omega arith, λ k least most. absurd (omega arith)),
)
passed-more s from to (v ∷ ws) w passed next = (passed.0, passed-more s (key_number v.key + 1) to ws w passed.1 next)

-- no more
pub passed-all : (s : Sought) (from to : ℕ) (ws : List Wanted) → ArePassed s from ws to → NoneFrom s to → AreAll s from ws
passed-all s from to [] passed none = λ k least. elim (cases_lt (key_number k) to) [
  | inl lt ↦ passed.1 k least lt
  | inr ge ↦ none k ge
]
passed-all s from to (v ∷ ws) passed none = (passed.0, passed-all s (key_number v.key + 1) to ws passed.1 none)

-- ---- What is found of one key

first-there : (d : ℕ) (k : Key) (p : ℕ) (log : List Logged) (x : Logged) → IsFirstAt d k p log → (first_at d k log ≡ Some (get_or log p x).image) × (is_image_of d k (get_or log p x) ≡ true) × (p < length log)
first-there d k p [] x is = absurd is
first-there d k zero (l ∷ log) x is = (first_at-takes d k l log is, is, omega arith)
first-there d k (suc p) (l ∷ log) x is = let rest = first-there d k p log x is.1 in (first_at-skips d k l log is.0 ∙ rest.0, rest.1, omega (arith, rest.2))

abbrev IsThere : Sought → Key → ℕ → Logged → Type 0
IsThere s k at x = (image_for s k ≡ Some x.image) × (is_image_of s.dpid k x ≡ true) × (slice_get s.log at ≡ Some (logged_at s.dpid x.image))

one-dpid : (d : ℕ) (k : Key) (x : Logged) → is_image_of d k x ≡ true → x.dpid ≡ d
one-dpid d k x is = let both = and_parts (x.dpid == d) (is_at k x.image.put) is in eqb-true x.dpid d both.0

get-there : (log : List Logged) (at : ℕ) (x : Logged) → at < length log → slice_get log at ≡ Some (get_or log at x)
get-there [] at x lt = absurd (omega arith)
get-there (l ∷ log) zero x lt = refl
get-there (l ∷ log) (suc at) x lt = get-there log at x (omega arith)

found-there : (s : Sought) (k : Key) (at : ℕ) (x d : Logged) → IsFirstFrom s.dpid k s.mark s.log (Some at) → x ≡ get_or s.log at d → IsThere s k at x
found-there s k at x d first is =
    let (image, of, within) = first-there s.dpid k (at - s.mark) (drop s.mark s.log) d first.1 in
    let sum : s.mark + (at - s.mark) ≡ at = omega (arith, first.0) in
    let same : get_or (drop s.mark s.log) (at - s.mark) d ≡ x = get_or-drop s.mark s.log (at - s.mark) d ∙ ap (λ (n : ℕ). get_or s.log n d) sum ∙ sym is in
    let here : is_image_of s.dpid k x ≡ true = ap (is_image_of s.dpid k) (sym same) ∙ of in
    let dpid : x.dpid ≡ s.dpid = one-dpid s.dpid k x here in (
      image ∙ ap (λ (y : Logged). Some y.image) same,
      here,
      get-there s.log at d (first-within s.dpid k s.mark at s.log first) ∙ ap (λ (y : Logged). Some y) (sym is) ∙ ap (λ (n : ℕ). Some (logged_at n x.image)) dpid,
    )

pub found-not : (s : Sought) (k : Key) (at : ℕ) (x d : Logged) → IsFirstFrom s.dpid k s.mark s.log (Some at) → x ≡ get_or s.log at d → wants_put s.kind x.image.stands x.image.put (row_at k s.rows) ≡ false → is_sought s k ≡ false
found-not s k at x d first is not_one = let there = found-there s k at x d first is in ap (λ (o : Option Image). wants s.kind o (row_at k s.rows)) there.0 ∙ not_one

key-number : (d : ℕ) (k l : Key) (x : Logged) → is_image_of d k x ≡ true → key_in_put x.image.put ≡ Some l → key_number l ≡ key_number k
key-number d k l x is key =
    let both = and_parts (x.dpid == d) (is_at k x.image.put) is in
    let (row, lost, put) = with-row x.image.put l key in
    let at : (key_number l == key_number k) ≡ true = rw put at both.1 in
    eqb-true (key_number l) (key_number k) at

pub found-wanted : (s : Sought) (k : Key) (w : Wanted) (x d : Logged) → IsFirstFrom s.dpid k s.mark s.log (Some w.at) → x ≡ get_or s.log w.at d → wants_put s.kind x.image.stands x.image.put (row_at k s.rows) ≡ true → key_in_put x.image.put ≡ Some w.key → IsFoundFor s k (Some w)
found-wanted s k w x d first is wanted key =
    let there = found-there s k w.at x d first is in
    let number = key-number s.dpid k w.key x there.1 key in (
      ap (λ (o : Option Image). wants s.kind o (row_at k s.rows)) there.0 ∙ wanted,
      number,
      (x.image, (first-number s.dpid k w.key (drop s.mark s.log) (sym number) ∙ there.0, key, there.2)),
    )
