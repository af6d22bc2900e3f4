-- Laws of numbers at offsets: a number that was written is read again, and the bytes of one that was read are those that were there.
use Rattle.std.proofs.Common.{◌≡◌, ℕ, zero, suc, ◌+◌, ◌*◌, ◌/◌, ◌^◌, ◌<◌, ◌≤◌, ◌-◌, List, [], ◌∷◌, ◌++◌, length, take, drop, refl, sym, ap, ◌∙◌, arith}
use Rattle.std.specs.Int.{byte_at, bytes_high_first}
use Rattle.std.proofs.Common.{inl, inr}
use Rattle.std.proofs.lemmas.Bool.{cases_lt}
use Rattle.std.proofs.lemmas.List.{append-nil, drop_at, drop-drop, drop-take, take-take, take-append-drop, length-take, length-drop, get_or-drop, get_or-take, get_or_past, nil_from_length}
use Rattle.std.proofs.lemmas.Nat.{mod_below, same_from_place}
use Rattle.byteorder.specs.Endian.{big_from, big_number}
use Rattle.byteorder.specs.Numbers.{length-bytes_high_first, big_number-reads_back, big_from-lt, big_from-cons, big_from-take}
use Rattle.of_types.specs.Fields.{number_at, number_bytes, piece, with_field, IsBytes}

pub length-number_bytes : (n x : ℕ) → length (number_bytes n x) ≡ n
unfolding number_bytes
length-number_bytes n x = length-bytes_high_first n x

pub number_at-number_bytes : (n at x : ℕ) (front rest : List ℕ) → length front ≡ at → x < 256 ^ n → number_at n at (front ++ (number_bytes n x ++ rest)) ≡ x
unfolding number_at number_bytes
number_at-number_bytes n at x front rest len lt =
    ap (λ (bytes : List ℕ). big_number n bytes) (drop_at front (number_bytes n x ++ rest) at len) ∙ big_number-reads_back n x rest lt

pub number_at-lt : (n at : ℕ) (bytes : List ℕ) → IsBytes bytes → number_at n at bytes < 256 ^ n
unfolding number_at
number_at-lt n at bytes h = big_from-lt 0 n (drop at bytes) (λ k. rw get_or-drop (h (at + k)))

byte_at-lt : (k x : ℕ) → byte_at k x < 256
byte_at-lt zero x = mod_below x 256 (omega arith)
byte_at-lt (suc k) x = mod_below (x / 256 ^ suc k) 256 (omega arith)

IsBytes-high_first : (n x : ℕ) → IsBytes (bytes_high_first n x)
IsBytes-high_first zero x i = omega arith
IsBytes-high_first (suc n) x zero = byte_at-lt n x
IsBytes-high_first (suc n) x (suc i) = IsBytes-high_first n x i

-- bytes of one length that spell one number are the same
same_from_number : (n : ℕ) (xs ys : List ℕ) → length xs ≡ n → length ys ≡ n → IsBytes xs → IsBytes ys → big_from 0 n xs ≡ big_from 0 n ys → xs ≡ ys
same_from_number zero xs ys p q h g e = nil_from_length xs p ∙ sym (nil_from_length ys q)
same_from_number (suc n) [] ys p q h g e = absurd (omega arith)
same_from_number (suc n) (x ∷ xs) [] p q h g e = absurd (omega arith)
same_from_number (suc n) (x ∷ xs) (y ∷ ys) p q h g e =
    let moved : x * 256 ^ n + big_from 0 n xs ≡ y * 256 ^ n + big_from 0 n ys = ap (λ (r : ℕ). x * 256 ^ n + r) (sym (big_from-cons 0 n x xs)) ∙ e ∙ ap (λ (r : ℕ). y * 256 ^ n + r) (big_from-cons 0 n y ys) in
    let below = big_from-lt 0 n xs (λ i. h (suc i)) in
    let below' = big_from-lt 0 n ys (λ i. g (suc i)) in
    let same = same_from_place x (big_from 0 n xs) y (big_from 0 n ys) (256 ^ n) below below' moved in
    let tails : xs ≡ ys = same_from_number n xs ys (omega arith) (omega arith) (λ i. h (suc i)) (λ i. g (suc i)) same.1 in
    rw (same.0, tails) refl

pub IsBytes-drop : (n : ℕ) (bytes : List ℕ) → IsBytes bytes → IsBytes (drop n bytes)
IsBytes-drop n bytes h i = rw get_or-drop (h (n + i))

pub IsBytes-take : (n : ℕ) (bytes : List ℕ) → IsBytes bytes → IsBytes (take n bytes)
IsBytes-take n bytes h i =
    elim (cases_lt i n) [
      | inl lt ↦ rw (get_or-take n bytes i 0 lt) (h i)
      | inr le ↦ rw (get_or_past (take n bytes) i 0 (omega (arith, length-take n bytes))) (omega arith)
    ]

pub IsBytes-piece : (n at : ℕ) (bytes : List ℕ) → IsBytes bytes → IsBytes (piece n at bytes)
IsBytes-piece n at bytes h = IsBytes-take n (drop at bytes) (IsBytes-drop at bytes h)

pub number_bytes-number_at : (n at : ℕ) (bytes : List ℕ) → IsBytes bytes → at + n ≤ length bytes → number_bytes n (number_at n at bytes) ≡ piece n at bytes
unfolding number_at number_bytes
number_bytes-number_at n at bytes h within =
    let v = big_from 0 n (drop at bytes) in
    let lt : v < 256 ^ n = big_from-lt 0 n (drop at bytes) (λ k. rw get_or-drop (h (at + k))) in
    let written : big_from 0 n (bytes_high_first n v) ≡ v = ap (big_from 0 n) (sym (append-nil (bytes_high_first n v))) ∙ big_number-reads_back n v [] lt in
    let there : big_from 0 n (piece n at bytes) ≡ v = big_from-take 0 n n (drop at bytes) (omega arith) in
    same_from_number n (bytes_high_first n v) (piece n at bytes) (length-bytes_high_first n v) (omega (arith, length-take n (drop at bytes), length-drop at bytes)) (IsBytes-high_first n v) (IsBytes-piece n at bytes h) (written ∙ sym there)

-- a field that is written at an offset is read there
pub number_at-with_field : (n at x : ℕ) (bytes : List ℕ) → at + n ≤ length bytes → x < 256 ^ n → number_at n at (with_field at (number_bytes n x) bytes) ≡ x
number_at-with_field n at x bytes within lt =
    number_at-number_bytes n at x (take at bytes) (drop (at + length (number_bytes n x)) bytes) (omega (arith, length-take at bytes)) lt

-- what a front holds
pub number_at-take : (n at m : ℕ) (bytes : List ℕ) → at + n ≤ m → number_at n at (take m bytes) ≡ number_at n at bytes
unfolding number_at
number_at-take n at m bytes within =
    let parts : m ≡ at + (m - at) = omega arith in
    rw (parts, drop-take at (m - at) bytes) (big_from-take 0 n (m - at) (drop at bytes) (omega arith))

-- what a rest holds
pub number_at-drop : (n at k : ℕ) (bytes : List ℕ) → number_at n at (drop k bytes) ≡ number_at n (k + at) bytes
unfolding number_at
number_at-drop n at k bytes = ap (λ (b : List ℕ). big_number n b) (drop-drop at k bytes)

pub piece-drop : (n at k : ℕ) (bytes : List ℕ) → piece n at (drop k bytes) ≡ piece n (k + at) bytes
piece-drop n at k bytes = ap (λ (b : List ℕ). take n b) (drop-drop at k bytes)

pub length-piece : (n at : ℕ) (bytes : List ℕ) → at + n ≤ length bytes → length (piece n at bytes) ≡ n
length-piece n at bytes within = omega (arith, length-take n (drop at bytes), length-drop at bytes)

-- two pieces that meet are one
pub piece-append : (m n at : ℕ) (bytes : List ℕ) → piece m at bytes ++ piece n (at + m) bytes ≡ piece (m + n) at bytes
piece-append m n at bytes =
    ap (λ (xs : List ℕ). take m (drop at bytes) ++ take n xs) (sym (drop-drop m at bytes)) ∙ sym (take_parts m n (drop at bytes))
  where
    take_parts : (i k : ℕ) (xs : List ℕ) → take (i + k) xs ≡ take i xs ++ take k (drop i xs)
    take_parts i k xs = sym (take-append-drop i (take (i + k) xs)) ∙ ap (λ (front : List ℕ). front ++ drop i (take (i + k) xs)) (take-take i (i + k) xs (omega arith)) ∙ ap (λ (back : List ℕ). take i xs ++ back) (drop-take i k xs)
