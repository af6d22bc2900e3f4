-- What follows about the index of a log: by it a key's image since a mark is found, and each change of the log is one of the index.
use Rattle.std.proofs.Common.{◌≡◌, ◌≢◌, ◌==◌, ◌&&◌, ℕ, zero, suc, ◌+◌, ◌-◌, ◌*◌, ◌^◌, ◌<◌, ◌≤◌, Bool, true, false, List, [], ◌∷◌, ◌++◌, length, get_or, drop, Option, Some, None, Ok, Err, refl, sym, ap, subst, ◌∙◌, arith, ◌⊎◌, inl, inr}
use Rattle.std.proofs.Math.Nat.{mul-le-mul_right}
use Rattle.std.proofs.lemmas.Bool.{cases_lt, cases_eq, cases_Bool, eq-eqb, eqb-true, and_parts, or_cases, or_left, or_right}
use Rattle.std.proofs.lemmas.List.{append-nil, append_assoc, length-append, get_or_default}
use Rattle.std.specs.List.{list_any, insert}
use Rattle.std.specs.Option.{is_some}
use Rattle.std.specs.Ordering.{nat_cmp, ordering_then}
use Rattle.of_match.specs.declared.key.Key.{Key}
use Rattle.of_match.specs.Key.{number, key_number}
use Rattle.of_match.specs.laws.KeyLaws.{digits-cmp, match-number-lt}
use Rattle.flow_table.specs.declared.lost.Lost.{Lost}
use Rattle.flow_table.specs.declared.view.ViewRow.{ViewRow}
use Rattle.flow_table.specs.Sorted.{Ascends, at_place, with_item, without_place, IsFoundAt}
use Rattle.flow_table.specs.laws.SortedLaws.{places-rise, Ascends-with_item, Ascends-without_place, at_place-same, at_place-other, at_place-with_item-same, at_place-with_item-other, at_place-without-same, at_place-without-other, length-with_item-new, length-without_place, with_item-absent, at_place-found}
use Rattle.netlog_inverse.specs.declared.image.Logged.{Logged}
use Rattle.netlog_inverse.specs.declared.image.PutBack.{PutBack}
use Rattle.netlog_inverse.specs.declared.image.PutBack.TheVariants.{Row, Config, Settings}
use Rattle.netlog_inverse.specs.declared.index.Spot.{Spot}
use Rattle.netlog_inverse.specs.Log.{is_one_place, is_of, mended, changed_at, with_lost_row}
use Rattle.netlog_inverse.specs.Index.{key_place, rank_of, rank, is_spot_of, spot_at, spots, IsIndex, Parts, IsBound, IsHere, key_in_put}

-- ---- Numbers of two digits

digits-unique : (p q m n base : ℕ) → m < base → n < base → p * base + m ≡ q * base + n → (p ≡ q) × (m ≡ n)
digits-unique p q m n base hm hn same =
    elim (cases_lt p q) [
      | inl lt ↦ absurd (omega (arith, mul-le-mul_right {m = suc p} {n = q} base lt))
      | inr le ↦ elim (cases_lt q p) [
        | inl gt ↦ absurd (omega (arith, mul-le-mul_right {m = suc q} {n = p} base gt))
        | inr ge ↦ let e : p ≡ q = omega arith in (e, omega (arith, ap (λ k. k * base) e))
      ]
    ]

two_digits : (a b base : ℕ) → a ≤ 65535 → b < base → a * base + b < 65536 * base
two_digits a b base ha hb = omega (arith, mul-le-mul_right {m = a} {n = 65535} base ha)

pub key_number-lt : (k : Key) → key_number k < 256 ^ 42
unfolding key_number
key_number-lt k =
    let power : 65536 * 256 ^ 40 ≡ 256 ^ 42 = refl in
    subst (λ n. (65535 - k.priority) * 256 ^ 40 + number k.matching.bytes < n) power (two_digits (65535 - k.priority) (number k.matching.bytes) (256 ^ 40) (omega arith) (match-number-lt k.matching))

pub key_place-same : (d e : ℕ) (k l : Key) → key_place d k ≡ key_place e l → (d ≡ e) × (key_number k ≡ key_number l)
unfolding key_place
key_place-same d e k l same = digits-unique d e (key_number k) (key_number l) (256 ^ 42) (key_number-lt k) (key_number-lt l) same

pub key_place-from : (d e : ℕ) (k l : Key) → d ≡ e → key_number k ≡ key_number l → key_place d k ≡ key_place e l
unfolding key_place
key_place-from d e k l a b = rw (a, b) refl

pub rank-cmp : (d e : ℕ) (k l : Key) (i j : ℕ) → i < 2 ^ 64 → j < 2 ^ 64 → nat_cmp (rank_of d k i) (rank_of e l j) ≡ ordering_then (ordering_then (nat_cmp d e) (nat_cmp (key_number k) (key_number l))) (nat_cmp i j)
unfolding key_place
rank-cmp d e k l i j hi hj =
    digits-cmp (d * 256 ^ 42 + key_number k) (e * 256 ^ 42 + key_number l) i j (2 ^ 64) hi hj
    ∙ ap (λ o. ordering_then o (nat_cmp i j)) (digits-cmp d e (key_number k) (key_number l) (256 ^ 42) (key_number-lt k) (key_number-lt l))

-- ---- Lists and what stands at places

append-some : {X : Type 0} (place : X → ℕ) (n : ℕ) (xs ys : List X) (x : X) → at_place place n xs ≡ Some x → at_place place n (xs ++ ys) ≡ Some x
append-some place n [] ys x found = absurd cc
append-some place n (z ∷ zs) ys x found =
    elim (cases_eq (place z) n) [
      | inl here ↦ at_place-same place n z (zs ++ ys) here ∙ sym (at_place-same place n z zs here) ∙ found
      | inr there ↦ at_place-other place n z (zs ++ ys) there ∙ append-some place n zs ys x (sym (at_place-other place n z zs there) ∙ found)
    ]

append-none : {X : Type 0} (place : X → ℕ) (n : ℕ) (xs ys : List X) → at_place place n xs ≡ None → at_place place n (xs ++ ys) ≡ at_place place n ys
append-none place n [] ys none = refl
append-none place n (z ∷ zs) ys none =
    elim (cases_eq (place z) n) [
      | inl here ↦ let some = sym (at_place-same place n z zs here) ∙ none in absurd cc
      | inr there ↦ at_place-other place n z (zs ++ ys) there ∙ append-none place n zs ys (sym (at_place-other place n z zs there) ∙ none)
    ]

pub option_cases : {X : Type 0} (o : Option X) → ((x : X) × (o ≡ Some x)) ⊎ (o ≡ None)
option_cases None = inr refl
option_cases (Some x) = inl (x, refl)

-- what is found stands somewhere
pub stands : {X : Type 0} (place : X → ℕ) (n : ℕ) (xs : List X) (d : X) → is_some (at_place place n xs) ≡ true → (j : ℕ) × (j < length xs) × (place (get_or xs j d) ≡ n)
stands place n [] d some = absurd cc
stands place n (x ∷ xs) d some =
    elim (cases_eq (place x) n) [
      | inl here ↦ (0, omega arith, here)
      | inr there ↦
          let (j, within, at) = stands place n xs d (ap is_some (sym (at_place-other place n x xs there)) ∙ some) in
          (suc j, omega arith, at)
    ]

-- what stands at a position is found at its place
pub found_there : (index : List Spot) (i : ℕ) (s : Spot) → Ascends rank 0 index → i < length index → at_place rank (rank (get_or index i s)) index ≡ Some (get_or index i s)
found_there index i s h within =
    at_place-found rank index (rank (get_or index i s)) 0 i s h (within, λ x. ap rank (get_or_default index i x s within))

-- ---- The spots of a log

pub cases_put : (put : PutBack) → ((k : Key) × (row : Option ViewRow) × (lost : Option Lost) × (put ≡ Row k row lost)) ⊎ (((i d : ℕ) → spot_at i d put ≡ []) × ((k : Key) (row : Option ViewRow) (lost : Option Lost) → is_one_place put (Row k row lost) ≡ false))
cases_put (Row k row lost) = inl (k, row, lost, refl)
cases_put (Config port config) = inr (λ i d. refl, λ k row lost. refl)
cases_put (Settings flags len) = inr (λ i d. refl, λ k row lost. refl)

abbrev pub spot : ℕ → ℕ → Key → Spot
spot i d k = record { dpid = d; key = k; at = i }

pub spots-row : (i : ℕ) (l : Logged) (log : List Logged) (k : Key) (row : Option ViewRow) (lost : Option Lost) → l.image.put ≡ Row k row lost → spots i (l ∷ log) ≡ record { dpid = l.dpid; key = k; at = i } ∷ spots (i + 1) log
spots-row i l log k row lost is = ap (λ (put : PutBack). spot_at i l.dpid put ++ spots (i + 1) log) is

pub spots-none : (i : ℕ) (l : Logged) (log : List Logged) → ((j d : ℕ) → spot_at j d l.image.put ≡ []) → spots i (l ∷ log) ≡ spots (i + 1) log
spots-none i l log none = ap (λ (x : List Spot). x ++ spots (i + 1) log) (none i l.dpid)

pub spots-snoc : (i : ℕ) (log : List Logged) (l : Logged) → spots i (log ++ l ∷ []) ≡ spots i log ++ spot_at (i + length log) l.dpid l.image.put
spots-snoc i [] l = append-nil (spot_at i l.dpid l.image.put) ∙ ap (λ (n : ℕ). spot_at n l.dpid l.image.put) same
  where
    same : i ≡ i + 0
    same = omega arith
spots-snoc i (x ∷ log) l =
    ap (λ (ss : List Spot). spot_at i x.dpid x.image.put ++ ss) (spots-snoc (i + 1) log l ∙ ap (λ (n : ℕ). spots (i + 1) log ++ spot_at n l.dpid l.image.put) same)
    ∙ sym (append_assoc (spot_at i x.dpid x.image.put) (spots (i + 1) log) (spot_at (i + suc (length log)) l.dpid l.image.put))
  where
    same : i + 1 + length log ≡ i + suc (length log)
    same = omega arith

length-spot_at : (i d : ℕ) (put : PutBack) → length (spot_at i d put) ≤ 1
length-spot_at i d (Row k row lost) = omega arith
length-spot_at i d (Config port config) = omega arith
length-spot_at i d (Settings flags len) = omega arith

pub length-spots : (i : ℕ) (log : List Logged) → length (spots i log) ≤ length log
length-spots i [] = omega arith
length-spots i (l ∷ log) = omega (arith, length-append (spot_at i l.dpid l.image.put) (spots (i + 1) log), length-spot_at i l.dpid l.image.put, length-spots (i + 1) log)

pub length-index : (log : List Logged) (index : List Spot) → IsIndex log index → length index ≤ length log
length-index log index h = omega (arith, h.long, length-spots 0 log)

some_at : (s t : Spot) → Some s ≡ Some t → s.at ≡ t.at
some_at s t is = ap (λ (o : Option Spot). at_in o) is
  where
    at_in : Option Spot → ℕ
    at_in None = 0
    at_in (Some x) = x.at

spots-within : (n i : ℕ) (log : List Logged) (s : Spot) → at_place rank n (spots i log) ≡ Some s → (i ≤ s.at) × (s.at < i + length log)
spots-within n i [] s found = absurd cc
spots-within n i (l ∷ log) s found =
    elim (cases_put l.image.put) [
      | inr none ↦
          let rest = spots-within n (i + 1) log s (ap (at_place rank n) (sym (spots-none i l log none.0)) ∙ found) in
          (omega (arith, rest.0), omega (arith, rest.1))
      | inl (k, row, lost, is) ↦
          let here : Spot = record { dpid = l.dpid; key = k; at = i } in
          let all : at_place rank n (here ∷ spots (i + 1) log) ≡ Some s = ap (at_place rank n) (sym (spots-row i l log k row lost is)) ∙ found in
          elim (cases_eq (rank here) n) [
            | inl same ↦
                let at : i ≡ s.at = some_at here s (sym (at_place-same rank n here (spots (i + 1) log) same) ∙ all) in
                (omega arith, omega arith)
            | inr other ↦
                let rest = spots-within n (i + 1) log s (sym (at_place-other rank n here (spots (i + 1) log) other) ∙ all) in
                (omega (arith, rest.0), omega (arith, rest.1))
          ]
    ]

-- the position of a spot is told by its rank
pub rank-at : (p q i j : ℕ) → i < 2 ^ 64 → j < 2 ^ 64 → p * 2 ^ 64 + i ≡ q * 2 ^ 64 + j → (p ≡ q) × (i ≡ j)
rank-at p q i j hi hj same = (omega arith, omega arith)

-- nothing of the log stands at a later position
not-later : (n : ℕ) (log : List Logged) (d : ℕ) (k : Key) → length log < 2 ^ 64 → rank_of d k (length log) ≡ n → at_place rank n (spots 0 log) ≡ None
not-later n log d k small is =
    elim (option_cases (at_place rank n (spots 0 log))) [
      | inr none ↦ none
      | inl (s, found) ↦
          let within = spots-within n 0 log s found in
          let place = found_rank n (spots 0 log) s found in
          let same = rank-at (key_place s.dpid s.key) (key_place d k) s.at (length log) (omega (arith, within.1)) small (place ∙ sym is) in
          absurd (omega (arith, within.1, same.1))
    ]
  where
    found_rank : (n : ℕ) (xs : List Spot) (s : Spot) → at_place rank n xs ≡ Some s → rank s ≡ n
    found_rank n [] s found = absurd cc
    found_rank n (x ∷ xs) s found =
        elim (cases_eq (rank x) n) [
          | inl here ↦ let is : x ≡ s = some_spot x s (sym (at_place-same rank n x xs here) ∙ found) in ap rank (sym is) ∙ here
          | inr there ↦ found_rank n xs s (sym (at_place-other rank n x xs there) ∙ found)
        ]
      where
        some_spot : (s t : Spot) → Some s ≡ Some t → s ≡ t
        some_spot s t is = cc

-- ---- A key's image since a mark

one_key : (d : ℕ) (l : Logged) (k m : Key) (row other : Option ViewRow) (lost more : Option Lost) → l.image.put ≡ Row m other more → is_of d (Row k row lost) l ≡ true → (l.dpid ≡ d) × (key_number m ≡ key_number k)
one_key d l k m row other lost more is of =
    let both : (l.dpid == d && key_number m == key_number k) ≡ true = rw is at of in
    let parts = and_parts (l.dpid == d) (key_number m == key_number k) both in
    (eqb-true l.dpid d parts.0, eqb-true (key_number m) (key_number k) parts.1)

key_is_of : (d : ℕ) (l : Logged) (k m : Key) (row other : Option ViewRow) (lost more : Option Lost) → l.image.put ≡ Row m other more → l.dpid ≡ d → key_number m ≡ key_number k → is_of d (Row k row lost) l ≡ true
key_is_of d l k m row other lost more is a b = rw (is, eq-eqb l.dpid d a, eq-eqb (key_number m) (key_number k) b) refl

other_row : (d : ℕ) (l : Logged) (k : Key) (row : Option ViewRow) (lost : Option Lost) → is_one_place l.image.put (Row k row lost) ≡ false → is_of d (Row k row lost) l ≡ false
other_row d l k row lost other = no_second (l.dpid == d) (is_one_place l.image.put (Row k row lost)) other
  where
    no_second : (a b : Bool) → b ≡ false → (a && b) ≡ false
    no_second true b other = other
    no_second false b other = refl

-- one image more in front
pub later : (i : ℕ) (l : Logged) (log : List Logged) (d : ℕ) (k : Key) (q : ℕ) → i + suc q < 2 ^ 64 → is_some (at_place rank (rank_of d k (i + 1 + q)) (spots (i + 1) log)) ≡ true → is_some (at_place rank (rank_of d k (i + suc q)) (spots i (l ∷ log))) ≡ true
later i l log d k q small some =
    let next : i + suc q ≡ i + 1 + q = omega arith in
    rw next (elim (cases_put l.image.put) [
      | inr none ↦ ap (λ (ss : List Spot). is_some (at_place rank (rank_of d k (i + 1 + q)) ss)) (spots-none i l log none.0) ∙ some
      | inl (m, other, more, is) ↦
          ap (λ (ss : List Spot). is_some (at_place rank (rank_of d k (i + 1 + q)) ss)) (spots-row i l log m other more is)
          ∙ ap is_some (at_place-other rank (rank_of d k (i + 1 + q)) (spot i l.dpid m) (spots (i + 1) log)
          (λ same. let at = rank-at (key_place l.dpid m) (key_place d k) i (i + 1 + q) (omega arith) (omega arith) same in omega (arith, at.1)))
          ∙ some
    ])

-- what is logged of a key since a mark has a spot
any-spot : (i m : ℕ) (log : List Logged) (d : ℕ) (k : Key) (row : Option ViewRow) (lost : Option Lost) → i + length log < 2 ^ 64 → list_any (is_of d (Row k row lost)) (drop m log) ≡ true
    → (q : ℕ) × (m ≤ q) × (q < length log) × (is_some (at_place rank (rank_of d k (i + q)) (spots i log)) ≡ true)
any-spot i zero [] d k row lost small any = absurd cc
any-spot i (suc m) [] d k row lost small any = absurd cc
any-spot i zero (l ∷ log) d k row lost small any =
    elim (or_cases (is_of d (Row k row lost) l) (list_any (is_of d (Row k row lost)) log) any) [
      | inl here ↦ elim (cases_put l.image.put) [
        | inr none ↦ let apart = other_row d l k row lost (none.1 k row lost) in absurd cc
        | inl (m, other, more, is) ↦
            let both = one_key d l k m row other lost more is here in
            let place : rank (spot i l.dpid m) ≡ rank_of d k (i + 0) = omega (arith, key_place-from l.dpid d m k both.0 both.1) in
            let all = ap (at_place rank (rank_of d k (i + 0))) (spots-row i l log m other more is) in
            (0, omega arith, omega arith, ap is_some (all ∙ at_place-same rank (rank_of d k (i + 0)) (spot i l.dpid m) (spots (i + 1) log) place))
      ]
      | inr behind ↦
          let (q, from, below, some) = any-spot (i + 1) zero log d k row lost (omega arith) behind in
          (suc q, omega arith, omega arith, later i l log d k q (omega arith) some)
    ]
any-spot i (suc m) (l ∷ log) d k row lost small any =
    let (q, from, below, some) = any-spot (i + 1) m log d k row lost (omega arith) any in
    (suc q, omega arith, omega arith, later i l log d k q (omega arith) some)

pub some_is : (s t : Spot) → Some s ≡ Some t → s ≡ t
some_is s t is = cc

-- a spot is of what is logged at its position
spot-any : (i m : ℕ) (log : List Logged) (n : ℕ) (s : Spot) (d : ℕ) (k : Key) (row : Option ViewRow) (lost : Option Lost) → at_place rank n (spots i log) ≡ Some s → s.dpid ≡ d → key_number s.key ≡ key_number k → i + m ≤ s.at
    → list_any (is_of d (Row k row lost)) (drop m log) ≡ true
spot-any i m [] n s d k row lost found dpid key from = absurd cc
spot-any i zero (l ∷ log) n s d k row lost found dpid key from =
    elim (cases_put l.image.put) [
      | inr none ↦
          let rest : at_place rank n (spots (i + 1) log) ≡ Some s = ap (at_place rank n) (sym (spots-none i l log none.0)) ∙ found in
          let within = spots-within n (i + 1) log s rest in
          or_right (is_of d (Row k row lost) l) (list_any (is_of d (Row k row lost)) log) (spot-any (i + 1) zero log n s d k row lost rest dpid key (omega (arith, within.0)))
      | inl (m, other, more, is) ↦
          let all : at_place rank n (spot i l.dpid m ∷ spots (i + 1) log) ≡ Some s = ap (at_place rank n) (sym (spots-row i l log m other more is)) ∙ found in
          elim (cases_eq (rank (spot i l.dpid m)) n) [
            | inl here ↦
                let this : spot i l.dpid m ≡ s = some_is (spot i l.dpid m) s (sym (at_place-same rank n (spot i l.dpid m) (spots (i + 1) log) here) ∙ all) in
                or_left (is_of d (Row k row lost) l) (list_any (is_of d (Row k row lost)) log)
                (key_is_of d l k m row other lost more is (ap (λ (x : Spot). x.dpid) this ∙ dpid) (ap (λ (x : Spot). key_number x.key) this ∙ key))
            | inr there ↦
                let rest : at_place rank n (spots (i + 1) log) ≡ Some s = sym (at_place-other rank n (spot i l.dpid m) (spots (i + 1) log) there) ∙ all in
                let within = spots-within n (i + 1) log s rest in
                or_right (is_of d (Row k row lost) l) (list_any (is_of d (Row k row lost)) log) (spot-any (i + 1) zero log n s d k row lost rest dpid key (omega (arith, within.0)))
          ]
    ]
spot-any i (suc m) (l ∷ log) n s d k row lost found dpid key from =
    elim (cases_put l.image.put) [
      | inr none ↦ spot-any (i + 1) m log n s d k row lost (ap (at_place rank n) (sym (spots-none i l log none.0)) ∙ found) dpid key (omega arith)
      | inl (o, other, more, is) ↦
          let all : at_place rank n (spot i l.dpid o ∷ spots (i + 1) log) ≡ Some s = ap (at_place rank n) (sym (spots-row i l log o other more is)) ∙ found in
          elim (cases_eq (rank (spot i l.dpid o)) n) [
            | inl here ↦
                let at : i ≡ s.at = some_at (spot i l.dpid o) s (sym (at_place-same rank n (spot i l.dpid o) (spots (i + 1) log) here) ∙ all) in
                absurd (omega arith)
            | inr there ↦ spot-any (i + 1) m log n s d k row lost (sym (at_place-other rank n (spot i l.dpid o) (spots (i + 1) log) there) ∙ all) dpid key (omega arith)
          ]
    ]

-- a spot of the index is of a position within the log
index-within : (log : List Logged) (index : List Spot) (i : ℕ) (s : Spot) → IsIndex log index → i < length index → (get_or index i s).at < length log
index-within log index i s h within =
    let t : Spot = get_or index i s in
    let found : at_place rank (rank t) (spots 0 log) ≡ Some t = sym (h.same (rank t)) ∙ found_there index i s h.in_order within in
    omega (arith, (spots-within (rank t) 0 log t found).1)

-- the ranks do not fall
pub rank-le : (index : List Spot) (i j : ℕ) (s : Spot) → Ascends rank 0 index → i ≤ j → j < length index → rank (get_or index i s) ≤ rank (get_or index j s)
rank-le index i j s h le within =
    elim (cases_lt i j) [
      | inl lt ↦ omega (arith, places-rise rank index 0 i j s h lt within)
      | inr ge ↦ let same : i ≡ j = omega arith in omega (arith, ap (λ n. rank (get_or index n s)) same)
    ]

is_of_key : (d : ℕ) (k : Key) (s : Spot) → key_place s.dpid s.key ≡ key_place d k → is_spot_of d k s ≡ true
is_of_key d k s same =
    let both = key_place-same s.dpid d s.key k same in
    rw (eq-eqb s.dpid d both.0, eq-eqb (key_number s.key) (key_number k) both.1) refl

-- between two ranks of one place all are of that place
between : (p q a m n : ℕ) → a < 2 ^ 64 → n < 2 ^ 64 → p * 2 ^ 64 + m ≤ q * 2 ^ 64 + a → q * 2 ^ 64 + a ≤ p * 2 ^ 64 + n → q ≡ p
between p q a m n ha hn from to = omega arith

pub has-image : (log : List Logged) (index : List Spot) (mark d : ℕ) (k : Key) (row : Option ViewRow) (lost : Option Lost) (i : ℕ) (here : Bool) → IsIndex log index → length log < 2 ^ 64
    → IsBound (rank_of d k mark) index i → IsHere d k i index here → list_any (is_of d (Row k row lost)) (drop mark log) ≡ here
has-image log index mark d k row lost i true h small bound here =
    let any : Spot = spot 0 d k in
    let s : Spot = get_or index i any in
    let found : at_place rank (rank s) (spots 0 log) ≡ Some s = sym (h.same (rank s)) ∙ found_there index i any h.in_order here.0 in
    let both = and_parts (s.dpid == d) (key_number s.key == key_number k) (here.1 any) in
    let dpid : s.dpid ≡ d = eqb-true s.dpid d both.0 in
    let key : key_number s.key ≡ key_number k = eqb-true (key_number s.key) (key_number k) both.1 in
    let place : key_place s.dpid s.key ≡ key_place d k = key_place-from s.dpid d s.key k dpid key in
    let above : rank_of d k mark ≤ rank s = bound.1.above i any (omega arith) here.0 in
    spot-any 0 mark log (rank s) s d k row lost found dpid key (omega (arith, above, place))
has-image log index mark d k row lost i false h small bound here =
    elim (cases_Bool (list_any (is_of d (Row k row lost)) (drop mark log))) [
      | inr none ↦ none
      | inl some_is ↦
          let any : Spot = spot 0 d k in
          let (q, from, below, some) = any-spot 0 mark log d k row lost (omega arith) some_is in
          let n : ℕ = rank_of d k (0 + q) in
          let (j, within, at) = stands rank n index any (ap is_some (h.same n) ∙ some) in
          elim (cases_lt j i) [
            | inl lt ↦ let less = bound.1.below j any lt in absurd (omega arith)
            | inr le ↦
                let s : Spot = get_or index i any in
                let inside : i < length index = omega arith in
                let above : rank_of d k mark ≤ rank s = bound.1.above i any (omega arith) inside in
                let under : rank s ≤ rank (get_or index j any) = rank-le index i j any h.in_order le within in
                let low = index-within log index i any h inside in
                let place : key_place s.dpid s.key ≡ key_place d k = between (key_place d k) (key_place s.dpid s.key) s.at mark (0 + q) (omega arith) (omega arith) above (omega arith) in
                let yes_here = is_of_key d k s place in
                let no_here = here any inside in
                absurd cc
          ]
    ]

-- ---- An image that is logged

same-none : (n : ℕ) (log : List Logged) (new : Spot) → rank new ≢ n → at_place rank n (spots 0 log) ≡ at_place rank n (spots 0 log ++ new ∷ [])
same-none n log new other =
    elim (option_cases (at_place rank n (spots 0 log))) [
      | inl (s, found) ↦ found ∙ sym (append-some rank n (spots 0 log) (new ∷ []) s found)
      | inr none ↦ none ∙ sym (append-none rank n (spots 0 log) (new ∷ []) none ∙ at_place-other rank n new [] other)
    ]

pub with-row : (put : PutBack) (k : Key) → key_in_put put ≡ Some k → (row : Option ViewRow) × (lost : Option Lost) × (put ≡ Row k row lost)
with-row (Row m row lost) k is = let same : m ≡ k = key_is m k is in (row, lost, ap (λ (x : Key). Row x row lost) same)
  where
    key_is : (a b : Key) → Some a ≡ Some b → a ≡ b
    key_is a b is = cc
with-row (Config port config) k is = absurd cc
with-row (Settings flags len) k is = absurd cc

spots-new : (log : List Logged) (l : Logged) (k : Key) → key_in_put l.image.put ≡ Some k → spots 0 (log ++ l ∷ []) ≡ spots 0 log ++ spot (length log) l.dpid k ∷ []
spots-new log l k is =
    let (row, lost, put) = with-row l.image.put k is in
    let at : 0 + length log ≡ length log = omega arith in
    spots-snoc 0 log l ∙ ap (λ (p : PutBack). spots 0 log ++ spot_at (0 + length log) l.dpid p) put ∙ ap (λ (n : ℕ). spots 0 log ++ spot n l.dpid k ∷ []) at

spots-other : (log : List Logged) (l : Logged) → key_in_put l.image.put ≡ None → spots 0 (log ++ l ∷ []) ≡ spots 0 log
spots-other log l is = spots-snoc 0 log l ∙ ap (λ (ss : List Spot). spots 0 log ++ ss) (no_spot (0 + length log) l.dpid l.image.put is) ∙ append-nil (spots 0 log)
  where
    no_spot : (i d : ℕ) (put : PutBack) → key_in_put put ≡ None → spot_at i d put ≡ []
    no_spot i d (Row k row lost) is = absurd cc
    no_spot i d (Config port config) is = refl
    no_spot i d (Settings flags len) is = refl

pub index-other : (log : List Logged) (l : Logged) (index : List Spot) → key_in_put l.image.put ≡ None → IsIndex log index → IsIndex (log ++ l ∷ []) index
index-other log l index is h = record {
  in_order = h.in_order;
  same = λ n. h.same n ∙ ap (at_place rank n) (sym (spots-other log l is));
  long = h.long ∙ ap length (sym (spots-other log l is));
}

-- the spot of a new image goes before the first one that does not stand below the mark's
goes-there : (log : List Logged) (index : List Spot) (mark d : ℕ) (k : Key) (i : ℕ) → IsIndex log index → length log < 2 ^ 64 → mark ≤ length log → IsBound (rank_of d k mark) index i → IsHere d k i index false
    → IsFoundAt rank (rank_of d k (length log)) index (Err i)
goes-there log index mark d k i h small le bound here = (
  bound.0,
  record {
    below = λ j s lt. let less = bound.1.below j s lt in omega arith;
    above = λ j s from within.
        let t : Spot = get_or index i s in
        let inside : i < length index = omega arith in
        let first : rank_of d k mark ≤ rank t = bound.1.above i s (omega arith) inside in
        let low = index-within log index i s h inside in
        let later = rank-le index i j s h.in_order from within in
        elim (cases_eq (key_place t.dpid t.key) (key_place d k)) [
          | inl same ↦ let is_one = is_of_key d k t same in let is_none = here s inside in absurd cc
          | inr other ↦ omega (arith, first, low, later, other)
        ];
  },
)

pub index-pushed : (log : List Logged) (index : List Spot) (mark d : ℕ) (k : Key) (i : ℕ) (l : Logged) → IsIndex log index → length log < 2 ^ 64 → mark ≤ length log → IsBound (rank_of d k mark) index i → IsHere d k i index false
    → l.dpid ≡ d → key_in_put l.image.put ≡ Some k → IsIndex (log ++ l ∷ []) (insert index i (record { dpid = d; key = k; at = length log }))
index-pushed log index mark d k i l h small le bound here dpid is =
    let new : Spot = spot (length log) d k in
    let place = goes-there log index mark d k i h small le bound here in
    let all : spots 0 (log ++ l ∷ []) ≡ spots 0 log ++ new ∷ [] = spots-new log l k is ∙ ap (λ (e : ℕ). spots 0 log ++ spot (length log) e k ∷ []) dpid in
    let inserted : with_item rank new index ≡ insert index i new = with_item-absent rank index new i place in
    let none : at_place rank (rank new) (spots 0 log) ≡ None = not-later (rank new) log d k small refl in
    subst (λ (xs : List Spot). IsIndex (log ++ l ∷ []) xs) inserted (record {
      in_order = Ascends-with_item rank index new h.in_order;
      same = λ n. elim (cases_eq (rank new) n) [
        | inl same ↦
            ap (λ (m : ℕ). at_place rank m (with_item rank new index)) (sym same) ∙ at_place-with_item-same rank index new
            ∙ sym (ap (at_place rank n) all ∙ append-none rank n (spots 0 log) (new ∷ []) (not-later n log d k small same) ∙ at_place-same rank n new [] same)
        | inr other ↦ at_place-with_item-other rank index new n other ∙ h.same n ∙ same-none n log new other ∙ ap (at_place rank n) (sym all)
      ];
      long = omega (arith, length-with_item-new rank index new (h.same (rank new) ∙ none), h.long, ap length all, length-append (spots 0 log) (new ∷ []));
    })

-- ---- An image that is taken out

pub popped-there : (log : List Logged) (l : Logged) (index : List Spot) (k : Key) → key_in_put l.image.put ≡ Some k → length log < 2 ^ 64 → IsIndex (log ++ l ∷ []) index → at_place rank (rank_of l.dpid k (length log)) index ≡ Some (record { dpid = l.dpid; key = k; at = length log })
popped-there log l index k is small h =
    let new : Spot = spot (length log) l.dpid k in
    let n : ℕ = rank new in
    h.same n ∙ ap (at_place rank n) (spots-new log l k is) ∙ append-none rank n (spots 0 log) (new ∷ []) (not-later n log l.dpid k small refl) ∙ at_place-same rank n new [] refl

pub index-popped : (log : List Logged) (l : Logged) (index : List Spot) (k : Key) → key_in_put l.image.put ≡ Some k → length log < 2 ^ 64 → IsIndex (log ++ l ∷ []) index → IsIndex log (without_place rank (rank_of l.dpid k (length log)) index)
index-popped log l index k is small h =
    let new : Spot = spot (length log) l.dpid k in
    let all = spots-new log l k is in
    let found = popped-there log l index k is small h in
    record {
      in_order = Ascends-without_place rank (rank new) index h.in_order;
      same = λ n. elim (cases_eq (rank new) n) [
        | inl same ↦ ap (λ (m : ℕ). at_place rank n (without_place rank m index)) same ∙ at_place-without-same rank n index ∙ sym (not-later n log l.dpid k small same)
        | inr other ↦ at_place-without-other rank (rank new) n index other ∙ h.same n ∙ ap (at_place rank n) all ∙ sym (same-none n log new other)
      ];
      long = omega (arith, length-without_place rank (rank new) index new 0 h.in_order found, h.long, ap length all, length-append (spots 0 log) (new ∷ []));
    }

pub index-popped-other : (log : List Logged) (l : Logged) (index : List Spot) → key_in_put l.image.put ≡ None → IsIndex (log ++ l ∷ []) index → IsIndex log index
index-popped-other log l index is h = record {
  in_order = h.in_order;
  same = λ n. h.same n ∙ ap (at_place rank n) (spots-other log l is);
  long = h.long ∙ ap length (spots-other log l is);
}

-- what stands in the index stands at its bound
pub found-at-bound : (index : List Spot) (n i : ℕ) → Ascends rank 0 index → IsBound n index i → is_some (at_place rank n index) ≡ true → IsFoundAt rank n index (Ok i)
found-at-bound [] n i h bound some = absurd cc
found-at-bound (x ∷ xs) n i h bound some =
    let index : List Spot = x ∷ xs in
    let (j, within, at) = stands rank n index x some in
    let le : i ≤ j = (elim (cases_lt j i) [
      | inl lt ↦ let less = bound.1.below j x lt in absurd (omega arith)
      | inr ge ↦ ge
    ]) in
    let inside : i < length index = omega arith in (
      inside,
      λ s.
          let above = bound.1.above i s (omega arith) inside in
          let under = rank-le index i j s h le within in
          let there = ap rank (get_or_default index j s x within) in
          omega arith,
    )

-- ---- An image that is set right

pub spots-mended : (i at : ℕ) (lost : Option Lost) (hard : ℕ) (stands : Bool) (log : List Logged) → spots i (changed_at at (mended lost hard stands) log) ≡ spots i log
unfolding mended
spots-mended i at lost hard stands [] = refl
spots-mended i zero lost hard stands (l ∷ log) = ap (λ (ss : List Spot). ss ++ spots (i + 1) log) (same_spot l.image.put)
  where
    same_spot : (put : PutBack) → spot_at i l.dpid (with_lost_row lost put) ≡ spot_at i l.dpid put
    same_spot (Row k row before) = refl
    same_spot (Config port config) = refl
    same_spot (Settings flags len) = refl
spots-mended i (suc at) lost hard stands (l ∷ log) = ap (λ (ss : List Spot). spot_at i l.dpid l.image.put ++ ss) (spots-mended (i + 1) at lost hard stands log)

pub index-mended : (at : ℕ) (lost : Option Lost) (hard : ℕ) (stands : Bool) (log : List Logged) (index : List Spot) → IsIndex log index → IsIndex (changed_at at (mended lost hard stands) log) index
index-mended at lost hard stands log index h =
    let same = spots-mended 0 at lost hard stands log in
    record { in_order = h.in_order; same = λ n. h.same n ∙ ap (at_place rank n) (sym same); long = h.long ∙ ap length (sym same) }

-- ---- A search by halves

pub Parts-above_middle : (index : List Spot) (n low high middle : ℕ) → Ascends rank 0 index → Parts n low high index → middle < length index → ((s : Spot) → rank (get_or index middle s) < n) → Parts n (middle + 1) high index
Parts-above_middle index n low high middle h parts within below = record {
  below = λ k s lt. let le = rank-le index k middle s h (omega arith) within in omega (arith, below s);
  above = parts.above;
}

pub Parts-below_middle : (index : List Spot) (n low high middle : ℕ) → Ascends rank 0 index → Parts n low high index → ((s : Spot) → n ≤ rank (get_or index middle s)) → Parts n low middle index
Parts-below_middle index n low high middle h parts above = record {
  below = parts.below;
  above = λ k s le within. let more = rank-le index middle k s h le within in omega (arith, above s);
}
