-- What follows about the spots of a log: each image of a key has one, and each spot is of an image of its key. So the first image of a key from
-- a position on is found by halves, and so is each key of which a message is sought.
use Rattle.std.proofs.Common.{add-zero, ◌≡◌, ◌≢◌, ◌==◌, ◌&&◌, ℕ, zero, suc, ◌+◌, ◌-◌, ◌*◌, ◌^◌, ◌<◌, ◌≤◌, Bool, true, false, List, [], ◌∷◌, ◌++◌, length, get_or, drop, Option, Some, None, refl, sym, ap, subst, ◌∙◌, arith, ◌⊎◌, inl, inr}
use Rattle.std.proofs.Math.Nat.{mul-le-mul_right}
use Rattle.std.proofs.lemmas.Bool.{cases_lt, cases_eq, cases_Bool, eq-eqb, eqb-true, and_parts}
use Rattle.std.specs.Option.{is_some}
use Rattle.of_match.specs.declared.key.Key.{Key}
use Rattle.of_match.specs.Key.{key_number}
use Rattle.flow_table.specs.declared.lost.Lost.{Lost}
use Rattle.flow_table.specs.declared.view.ViewRow.{ViewRow}
use Rattle.flow_table.specs.Sorted.{Ascends, at_place}
use Rattle.flow_table.specs.laws.SortedLaws.{at_place-same, at_place-other}
use Rattle.netlog_inverse.specs.declared.image.Logged.{Logged}
use Rattle.netlog_inverse.specs.declared.image.PutBack.{PutBack}
use Rattle.netlog_inverse.specs.declared.image.PutBack.TheVariants.{Row, Config, Settings}
use Rattle.netlog_inverse.specs.declared.index.Spot.{Spot}
use Rattle.netlog_inverse.specs.Index.{key_place, rank_of, rank, is_spot_of, spot_at, spots, IsIndex, IsBound, IsHere, dpid_rank, start_rank}
use Rattle.netlog_inverse.specs.Marks.{IsFirstAt, IsImageAt}
use Rattle.netlog_inverse.specs.Meaning.{is_at, is_image_of, first_at}
use Rattle.netlog_inverse.specs.Next.{IsFirstFrom}
use Rattle.netlog_inverse.specs.laws.FirstLaws.{first_at-takes, first_at-skips}
use Rattle.netlog_inverse.specs.laws.IndexLaws.{some_is, key_number-lt, key_place-same, key_place-from, stands, found_there, cases_put, spot, spots-row, spots-none, rank-at, later, rank-le}

-- ---- Spots and images

row-is : (d : ℕ) (k m : Key) (l : Logged) (row : Option ViewRow) (lost : Option Lost) → l.image.put ≡ Row m row lost → is_image_of d k l ≡ true → (l.dpid ≡ d) × (key_number m ≡ key_number k)
row-is d k m l row lost put is =
    let both : (l.dpid == d && key_number m == key_number k) ≡ true = rw put at is in
    let parts = and_parts (l.dpid == d) (key_number m == key_number k) both in
    (eqb-true l.dpid d parts.0, eqb-true (key_number m) (key_number k) parts.1)

is-row : (d : ℕ) (k m : Key) (l : Logged) (row : Option ViewRow) (lost : Option Lost) → l.image.put ≡ Row m row lost → l.dpid ≡ d → key_number m ≡ key_number k → is_image_of d k l ≡ true
is-row d k m l row lost put a b = rw (put, eq-eqb l.dpid d a, eq-eqb (key_number m) (key_number k) b) refl

cases_at : (put : PutBack) → ((k : Key) × (row : Option ViewRow) × (lost : Option Lost) × (put ≡ Row k row lost)) ⊎ (((i d : ℕ) → spot_at i d put ≡ []) × ((k : Key) → is_at k put ≡ false))
cases_at (Row k row lost) = inl (k, row, lost, refl)
cases_at (Config port config) = inr (λ i d. refl, λ k. refl)
cases_at (Settings flags len) = inr (λ i d. refl, λ k. refl)

not-at : (d : ℕ) (k : Key) (l : Logged) → is_at k l.image.put ≡ false → is_image_of d k l ≡ false
not-at d k l other = second (l.dpid == d) (is_at k l.image.put) other
  where
    second : (a b : Bool) → b ≡ false → (a && b) ≡ false
    second true b other = other
    second false b other = refl

-- an image of a key has a spot of its position
image-spot : (i q : ℕ) (log : List Logged) (d : ℕ) (k : Key) → i + length log < 2 ^ 64 → IsImageAt d k q log → is_some (at_place rank (rank_of d k (i + q)) (spots i log)) ≡ true
image-spot i q [] d k small is = absurd is
image-spot i zero (l ∷ log) d k small is =
    elim (cases_at l.image.put) [
      | inr none ↦ let apart = not-at d k l (none.1 k) in absurd cc
      | inl (m, row, lost, put) ↦
          let both = row-is d k m l row lost put is in
          let place : rank (spot i l.dpid m) ≡ rank_of d k (i + 0) = omega (arith, key_place-from l.dpid d m k both.0 both.1) in
          ap is_some (ap (at_place rank (rank_of d k (i + 0))) (spots-row i l log m row lost put) ∙ at_place-same rank (rank_of d k (i + 0)) (spot i l.dpid m) (spots (i + 1) log) place)
    ]
image-spot i (suc q) (l ∷ log) d k small is =
    later i l log d k q (omega (arith, image-within q log d k is)) (image-spot (i + 1) q log d k (omega arith) is)
  where
    image-within : (q : ℕ) (log : List Logged) (d : ℕ) (k : Key) → IsImageAt d k q log → q < length log
    image-within q [] d k is = absurd is
    image-within zero (l ∷ log) d k is = omega arith
    image-within (suc q) (l ∷ log) d k is = omega (arith, image-within q log d k is)

one-behind : (i : ℕ) (l : Logged) (log : List Logged) (s : Spot) → ((q : ℕ) × (s.at ≡ i + 1 + q) × (q < length log) × IsImageAt s.dpid s.key q log)
    → (q : ℕ) × (s.at ≡ i + q) × (q < length (l ∷ log)) × IsImageAt s.dpid s.key q (l ∷ log)
one-behind i l log s (q, at, within, is) = (suc q, omega arith, omega arith, is)

-- a spot is of the image at its position
spot-image : (i n : ℕ) (log : List Logged) (s : Spot) → at_place rank n (spots i log) ≡ Some s → (q : ℕ) × (s.at ≡ i + q) × (q < length log) × IsImageAt s.dpid s.key q log
spot-image i n [] s found = absurd cc
spot-image i n (l ∷ log) s found =
    elim (cases_at l.image.put) [
      | inr none ↦ one-behind i l log s (spot-image (i + 1) n log s (ap (at_place rank n) (sym (spots-none i l log none.0)) ∙ found))
      | inl (m, row, lost, put) ↦
          let all : at_place rank n (spot i l.dpid m ∷ spots (i + 1) log) ≡ Some s = ap (at_place rank n) (sym (spots-row i l log m row lost put)) ∙ found in
          elim (cases_eq (rank (spot i l.dpid m)) n) [
            | inl here ↦
                let this : spot i l.dpid m ≡ s = some_is (spot i l.dpid m) s (sym (at_place-same rank n (spot i l.dpid m) (spots (i + 1) log) here) ∙ all) in (
                  0,
                  sym (ap (λ (x : Spot). x.at) this) ∙ sym (add-zero i),
                  omega arith,
                  is-row s.dpid s.key m l row lost put (ap (λ (x : Spot). x.dpid) this) (ap (λ (x : Spot). key_number x.key) this),
                )
            | inr there ↦ one-behind i l log s (spot-image (i + 1) n log s (sym (at_place-other rank n (spot i l.dpid m) (spots (i + 1) log) there) ∙ all))
          ]
    ]

-- the spot at a position of the index is of an image
pub spot-there : (log : List Logged) (index : List Spot) (j : ℕ) (x : Spot) → IsIndex log index → j < length index
    → ((get_or index j x).at < length log) × IsImageAt (get_or index j x).dpid (get_or index j x).key (get_or index j x).at log
spot-there log index j x h within =
    let t : Spot = get_or index j x in
    let found : at_place rank (rank t) (spots 0 log) ≡ Some t = sym (h.same (rank t)) ∙ found_there index j x h.in_order within in
    let (q, at, below, is) = spot-image 0 (rank t) log t found in
    let same : t.at ≡ q = omega arith in
    (omega arith, subst (λ (n : ℕ). IsImageAt t.dpid t.key n log) (sym same) is)

-- and each image has a spot in it
pub image-there : (log : List Logged) (index : List Spot) (q d : ℕ) (k : Key) (x : Spot) → IsIndex log index → length log < 2 ^ 64 → IsImageAt d k q log
    → (j : ℕ) × (j < length index) × (rank (get_or index j x) ≡ rank_of d k q)
image-there log index q d k x h small is =
    let n : ℕ = rank_of d k (0 + q) in
    let (j, within, at) = stands rank n index x (ap is_some (h.same n) ∙ image-spot 0 q log d k (omega arith) is) in
    (j, within, omega arith)

-- ---- The first image of a key from a position on

first-none : (d : ℕ) (k : Key) (log : List Logged) → ((q : ℕ) → IsImageAt d k q log → ⊥) → first_at d k log ≡ None
first-none d k [] none = refl
first-none d k (l ∷ log) none =
    elim (cases_Bool (is_image_of d k l)) [
      | inl is ↦ absurd (none 0 is)
      | inr other ↦ first_at-skips d k l log other ∙ first-none d k log (λ q is. none (suc q) is)
    ]

first-here : (d : ℕ) (k : Key) (p : ℕ) (log : List Logged) → IsImageAt d k p log → ((q : ℕ) → q < p → IsImageAt d k q log → ⊥) → IsFirstAt d k p log
first-here d k p [] is none = absurd is
first-here d k zero (l ∷ log) is none = is
first-here d k (suc p) (l ∷ log) is none =
    elim (cases_Bool (is_image_of d k l)) [
      | inl here ↦ absurd (none 0 (omega arith) here)
      | inr other ↦ (other, first-here d k p log is (λ q lt at. none (suc q) (omega arith) at))
    ]

pub image-behind : (d : ℕ) (k : Key) (m q : ℕ) (log : List Logged) → IsImageAt d k q (drop m log) → IsImageAt d k (m + q) log
image-behind d k zero q log is = let same : q ≡ 0 + q = omega arith in subst (λ (n : ℕ). IsImageAt d k n log) same is
image-behind d k (suc m) q [] is = absurd is
image-behind d k (suc m) q (l ∷ log) is = let same : suc (m + q) ≡ suc m + q = omega arith in subst (λ (n : ℕ). IsImageAt d k n (l ∷ log)) same (image-behind d k m q log is)

image-from : (d : ℕ) (k : Key) (m q : ℕ) (log : List Logged) → m ≤ q → IsImageAt d k q log → IsImageAt d k (q - m) (drop m log)
image-from d k zero q log le is = let same : q ≡ q - 0 = omega arith in subst (λ (n : ℕ). IsImageAt d k n log) same is
image-from d k (suc m) q [] le is = absurd is
image-from d k (suc m) zero (l ∷ log) le is = absurd (omega arith)
image-from d k (suc m) (suc q) (l ∷ log) le is = let same : q - m ≡ suc q - suc m = omega arith in subst (λ (n : ℕ). IsImageAt d k n (drop m log)) same (image-from d k m q log (omega arith) is)

-- images of keys of one number are of both
pub image-number : (d e : ℕ) (k l : Key) (q : ℕ) (log : List Logged) → d ≡ e → key_number k ≡ key_number l → IsImageAt d k q log → IsImageAt e l q log
image-number d e k l q [] same number is = absurd is
image-number d e k l zero (x ∷ log) same number is =
    elim (cases_at x.image.put) [
      | inr none ↦ let apart = not-at d k x (none.1 k) in absurd cc
      | inl (m, row, lost, put) ↦ let both = row-is d k m x row lost put is in is-row e l m x row lost put (both.0 ∙ same) (both.1 ∙ number)
    ]
image-number d e k l (suc q) (x ∷ log) same number is = image-number d e k l q log same number is

spot-of : (d : ℕ) (k : Key) (s : Spot) → is_spot_of d k s ≡ true → (s.dpid ≡ d) × (key_number s.key ≡ key_number k)
spot-of d k s is =
    let both = and_parts (s.dpid == d) (key_number s.key == key_number k) is in
    (eqb-true s.dpid d both.0, eqb-true (key_number s.key) (key_number k) both.1)

-- the spot at the bound is of the key: it is that of the first image
pub first-found : (log : List Logged) (index : List Spot) (from d : ℕ) (k : Key) (i : ℕ) (x : Spot) → IsIndex log index → length log < 2 ^ 64 → IsBound (rank_of d k from) index i → i < length index
    → is_spot_of d k (get_or index i x) ≡ true → IsFirstFrom d k from log (Some (get_or index i x).at)
first-found log index from d k i x h small bound within here =
    let s : Spot = get_or index i x in
    let both = spot-of d k s here in
    let place : key_place s.dpid s.key ≡ key_place d k = key_place-from s.dpid d s.key k both.0 both.1 in
    let above : rank_of d k from ≤ rank s = bound.1.above i x (omega arith) within in
    let there = spot-there log index i x h within in
    let behind : from ≤ s.at = omega arith in
    let image : IsImageAt d k s.at log = image-number s.dpid d s.key k s.at log both.0 both.1 there.1 in (
      behind,
      first-here d k (s.at - from) (drop from log) (image-from d k from s.at log behind image) (λ q lt is.
          let (j, inside, at) = image-there log index (from + q) d k x h small (image-behind d k from q log is) in
          elim (cases_lt j i) [
            | inl low ↦ let less = bound.1.below j x low in omega arith
            | inr high ↦ let rise = rank-le index i j x h.in_order high inside in omega arith
          ]),
    )

pub first-absent : (log : List Logged) (index : List Spot) (from d : ℕ) (k : Key) (i : ℕ) → IsIndex log index → length log < 2 ^ 64 → IsBound (rank_of d k from) index i
    → ((x : Spot) → i < length index → is_spot_of d k (get_or index i x) ≡ false) → IsFirstFrom d k from log None
first-absent log index from d k i h small bound other =
    first-none d k (drop from log) (λ q is.
    let x : Spot = spot 0 d k in
    let image = image-behind d k from q log is in
    let (j, inside, at) = image-there log index (from + q) d k x h small image in
    elim (cases_lt j i) [
      | inl low ↦ let less = bound.1.below j x low in omega arith
      | inr high ↦
          let s : Spot = get_or index i x in
          let within : i < length index = omega arith in
          let rise = rank-le index i j x h.in_order high inside in
          let above : rank_of d k from ≤ rank s = bound.1.above i x (omega arith) within in
          let there = spot-there log index i x h within in
          let small_at = image-small (from + q) log d k image in
          let place : key_place s.dpid s.key ≡ key_place d k = between (key_place d k) (key_place s.dpid s.key) s.at from (from + q) (omega arith) (omega arith) above (omega arith) in
          let same = key_place-same s.dpid d s.key k place in
          let bad : is_spot_of d k s ≡ true = rw (eq-eqb s.dpid d same.0, eq-eqb (key_number s.key) (key_number k) same.1) refl in
          let good = other x within in
          absurd cc
    ])
  where
    between : (p q a m n : ℕ) → a < 2 ^ 64 → n < 2 ^ 64 → p * 2 ^ 64 + m ≤ q * 2 ^ 64 + a → q * 2 ^ 64 + a ≤ p * 2 ^ 64 + n → q ≡ p
    between p q a m n ha hn from to = omega arith

    image-small : (q : ℕ) (log : List Logged) (d : ℕ) (k : Key) → IsImageAt d k q log → q < length log
    image-small q [] d k is = absurd is
    image-small zero (l ∷ log) d k is = omega arith
    image-small (suc q) (l ∷ log) d k is = omega (arith, image-small q log d k is)

-- ---- Where the spots of a switch begin

pub rank-low : (s : Spot) (d : ℕ) → s.at < 2 ^ 64 → s.dpid < d → rank s < dpid_rank d
unfolding dpid_rank key_place
rank-low s d small lt =
    let number = key_number-lt s.key in
    let whole = mul-le-mul_right {m = suc s.dpid} {n = d} (256 ^ 42) lt in
    let place : s.dpid * 256 ^ 42 + key_number s.key + 1 ≤ d * 256 ^ 42 = omega arith in
    omega arith

pub rank-high : (s : Spot) (d : ℕ) → d ≤ s.dpid → dpid_rank d ≤ rank s
unfolding dpid_rank key_place
rank-high s d le =
    let whole = mul-le-mul_right {m = d} {n = s.dpid} (256 ^ 42) le in
    let place : d * 256 ^ 42 ≤ s.dpid * 256 ^ 42 + key_number s.key = omega arith in
    omega arith
