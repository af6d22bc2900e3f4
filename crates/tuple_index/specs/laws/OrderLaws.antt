-- What follows about the order of groups: it tells keys apart as key order does, and wildcards ascend in it.
use Rattle.std.proofs.Common.{◌≡◌, ℕ, suc, ◌+◌, ◌-◌, ◌*◌, ◌%◌, ◌^◌, ◌<◌, ◌≤◌, List, [], ◌∷◌, length, get_or, refl, sym, ap, arith, inl, inr}
use Rattle.std.proofs.lemmas.Bool.{cases_lt}
use Rattle.std.proofs.lemmas.Nat.{same_from_place}
use Rattle.std.proofs.Math.Nat.{mul-le-mul_right, pow-suc}
use Rattle.of_match.specs.declared.flow_match.Match.{Match}
use Rattle.of_match.specs.declared.key.Key.{Key}
use Rattle.of_match.specs.Fields.{word_in}
use Rattle.of_match.specs.Key.{number, key_number}
use Rattle.of_match.specs.laws.FieldsLaws.{AreBytes}
use Rattle.of_match.specs.laws.KeyLaws.{match-number-lt, key_number-injective}
use Rattle.of_match.specs.laws.MatchLaws.{match-length, match-AreBytes}
use Rattle.flow_table.specs.Sorted.{Ascends}
use Rattle.flow_table.specs.laws.SortedLaws.{places-rise}
use Rattle.tuple_index.specs.Groups.{wildcards, spot}

pub spot-parts : (a b : Key) → spot a ≡ spot b → (number a.matching.bytes ≡ number b.matching.bytes) × (65535 - a.priority ≡ 65535 - b.priority)
unfolding spot
spot-parts a b same = same_from_place (number a.matching.bytes) (65535 - a.priority) (number b.matching.bytes) (65535 - b.priority) 65536 (omega arith) (omega arith) same

pub key_number-from_spot : (a b : Key) → spot a ≡ spot b → key_number a ≡ key_number b
unfolding key_number
key_number-from_spot a b same = let (bytes, priority) = spot-parts a b same in rw (bytes, priority) refl

pub spot-from_key_number : (a b : Key) → key_number a ≡ key_number b → spot a ≡ spot b
unfolding key_number spot
spot-from_key_number a b same =
    let (priority, bytes) = same_from_place (65535 - a.priority) (number a.matching.bytes) (65535 - b.priority) (number b.matching.bytes) (256 ^ 40) (match-number-lt a.matching) (match-number-lt b.matching) same in
    rw (bytes, priority) refl

-- of two keys with one match the later one has the lesser priority
pub priority-falls : (a b : Key) → number a.matching.bytes ≡ number b.matching.bytes → spot a < spot b → b.priority < a.priority
unfolding spot
priority-falls a b bytes lt = let there = ap (λ n. n * 65536) bytes in omega arith

pub number-rises : (a b : Key) → spot a ≤ spot b → number a.matching.bytes ≤ number b.matching.bytes
unfolding spot
number-rises a b le =
    elim (cases_lt (number b.matching.bytes) (number a.matching.bytes)) [
      | inl above ↦ absurd (omega arith)
      | inr below ↦ below
    ]

-- ---- The wildcards are the first four bytes.

rest_below : (bytes : List ℕ) (n : ℕ) → length bytes ≡ n → AreBytes bytes → number bytes < 256 ^ n
unfolding number
rest_below [] n len h = rw (sym len) (omega arith)
rest_below (b ∷ bytes) n len h =
    let more : b ≤ 255 = omega (arith, h.0) in
    rw (sym len, pow-suc 256 (length bytes)) (omega (arith, mul-le-mul_right {m = b} {n = 255} (256 ^ length bytes) more, rest_below bytes (length bytes) refl h.1))

-- four digits are one number
four : (a b c d r base : ℕ) → a * (256 * (256 * (256 * base))) + (b * (256 * (256 * base)) + (c * (256 * base) + (d * base + r))) ≡ (65536 * (256 * a + b) + (256 * c + d)) * base + r
four a b c d r base = omega arith

record FourFirst (n word : ℕ) : Type 0 where
  rest : ℕ
  below : rest < 256 ^ 36
  is : n ≡ word * 256 ^ 36 + rest

four_first : (bytes : List ℕ) → length bytes ≡ 40 → AreBytes bytes → FourFirst (number bytes) (word_in bytes 0)
unfolding number
four_first [] len h = absurd (omega arith)
four_first (_ ∷ []) len h = absurd (omega arith)
four_first (_ ∷ _ ∷ []) len h = absurd (omega arith)
four_first (_ ∷ _ ∷ _ ∷ []) len h = absurd (omega arith)
four_first (a ∷ b ∷ c ∷ d ∷ bytes) len h =
    let many : length bytes ≡ 36 = omega arith in
    let a-is : a % 256 ≡ a = omega (arith, h.0) in
    let b-is : b % 256 ≡ b = omega (arith, h.1.0) in
    let c-is : c % 256 ≡ c = omega (arith, h.1.1.0) in
    let d-is : d % 256 ≡ d = omega (arith, h.1.1.1.0) in
    record {
      rest = number bytes;
      below = rest_below bytes 36 many h.1.1.1.1;
      is = rw (a-is, b-is, c-is, d-is, many) (four a b c d (number bytes) (256 ^ 36));
    }

first_digit-le : (w v r s base : ℕ) → s < base → w * base + r ≤ v * base + s → w ≤ v
first_digit-le w v r s base lt le =
    elim (cases_lt v w) [
      | inl above ↦ absurd (omega (arith, mul-le-mul_right {m = suc v} {n = w} base above))
      | inr below ↦ below
    ]

pub wildcards-rise : (m n : Match) → number m.bytes ≤ number n.bytes → wildcards m ≤ wildcards n
wildcards-rise m n le =
    let first = four_first m.bytes (match-length m) (match-AreBytes m) in
    let second = four_first n.bytes (match-length n) (match-AreBytes n) in
    first_digit-le (wildcards m) (wildcards n) first.rest second.rest (256 ^ 36) second.below (rw (← first.is, ← second.is) le)

-- ---- Places in an index

pub spots-rise : (ks : List Key) (i j : ℕ) (d : Key) → Ascends spot 0 ks → i ≤ j → j < length ks → spot (get_or ks i d) ≤ spot (get_or ks j d)
spots-rise ks i j d h le within =
    elim (cases_lt i j) [
      | inl before ↦ let rises = places-rise spot ks 0 i j d h before within in omega arith
      | inr after ↦ let same : i ≡ j = omega arith in rw same (omega arith)
    ]

-- between two keys of a group all are of it
pub group-between : (ks : List Key) (i j k : ℕ) (d : Key) → Ascends spot 0 ks → i ≤ j → j ≤ k → k < length ks → wildcards (get_or ks k d).matching ≡ wildcards (get_or ks i d).matching
    → wildcards (get_or ks j d).matching ≡ wildcards (get_or ks i d).matching
group-between ks i j k d h first second within same =
    let low = wildcards-rise (get_or ks i d).matching (get_or ks j d).matching (number-rises (get_or ks i d) (get_or ks j d) (spots-rise ks i j d h first (omega arith))) in
    let high = wildcards-rise (get_or ks j d).matching (get_or ks k d).matching (number-rises (get_or ks j d) (get_or ks k d) (spots-rise ks j k d h second within)) in
    omega arith

abbrev least_key : Match → Key
least_key m = record { priority = 0; matching = m }

least_key-number : (m n : Match) → number m.bytes ≡ number n.bytes → key_number (least_key m) ≡ key_number (least_key n)
unfolding key_number
least_key-number m n same = rw same refl

-- matches with one number are one match
pub match-from_number : (m n : Match) → number m.bytes ≡ number n.bytes → m ≡ n
match-from_number m n same =
    let within : 0 < 2 ^ 16 = omega arith in
    ap (λ (k : Key). k.matching) (key_number-injective (least_key m) (least_key n) (record { priority = within }) (record { priority = within }) (least_key-number m n same))
