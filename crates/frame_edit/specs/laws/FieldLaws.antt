-- Laws of a field that is written at a place: the length stays, and so does all that stands elsewhere.
use Rattle.std.proofs.Common.{◌≡◌, ℕ, ◌+◌, ◌-◌, ◌<◌, ◌≤◌, List, ◌++◌, length, get_or, take, drop, refl, sym, ap, ◌∙◌, append_assoc, arith}
use Rattle.std.proofs.lemmas.List.{take_at, drop_at, drop-drop, length-append, length-take, length-drop, get_or-drop, get_or-take}
use Rattle.of_types.specs.Fields.{number_at, number_bytes, with_field}
use Rattle.of_types.specs.laws.FieldLaws.{number_at-take, length-number_bytes}

pub length-with_field : (at : ℕ) (field bytes : List ℕ) → at + length field ≤ length bytes → length (with_field at field bytes) ≡ length bytes
length-with_field at field bytes within =
    omega (arith, length-append (take at bytes) (field ++ drop (at + length field) bytes), length-append field (drop (at + length field) bytes), length-take at bytes, length-drop (at + length field) bytes)

pub take-with_field : (at : ℕ) (field bytes : List ℕ) → at ≤ length bytes → take at (with_field at field bytes) ≡ take at bytes
take-with_field at field bytes within = take_at (take at bytes) (field ++ drop (at + length field) bytes) at (omega (arith, length-take at bytes))

pub drop-with_field : (at : ℕ) (field bytes : List ℕ) → at + length field ≤ length bytes → drop (at + length field) (with_field at field bytes) ≡ drop (at + length field) bytes
drop-with_field at field bytes within =
    ap (λ (xs : List ℕ). drop (at + length field) xs) (sym (append_assoc (take at bytes) field (drop (at + length field) bytes)))
    ∙ drop_at (take at bytes ++ field) (drop (at + length field) bytes) (at + length field) (omega (arith, length-append (take at bytes) field, length-take at bytes))

-- a number that ends before the field
pub number_at-with_field_later : (n p at : ℕ) (field bytes : List ℕ) → p + n ≤ at → at ≤ length bytes → number_at n p (with_field at field bytes) ≡ number_at n p bytes
number_at-with_field_later n p at field bytes before within =
    sym (number_at-take n p at (with_field at field bytes) before)
    ∙ ap (number_at n p) (take-with_field at field bytes within)
    ∙ number_at-take n p at bytes before

-- the second field at a place is the one that stays
pub with_field-with_field : (at : ℕ) (field other bytes : List ℕ) → length field ≡ length other → at + length other ≤ length bytes → with_field at field (with_field at other bytes) ≡ with_field at field bytes
with_field-with_field at field other bytes same within =
    rw (take-with_field at other bytes (omega arith), same, drop-with_field at other bytes within) refl

pub with_field_again : (at value other : ℕ) (bytes : List ℕ) → at + 2 ≤ length bytes → with_field at (number_bytes 2 value) (with_field at (number_bytes 2 other) bytes) ≡ with_field at (number_bytes 2 value) bytes
with_field_again at value other bytes within =
    with_field-with_field at (number_bytes 2 value) (number_bytes 2 other) bytes (length-number_bytes 2 value ∙ sym (length-number_bytes 2 other)) (omega (arith, length-number_bytes 2 other))

-- a number that begins behind the field
pub number_at-with_field_earlier : (n p at : ℕ) (field bytes : List ℕ) → at + length field ≤ p → at + length field ≤ length bytes → number_at n p (with_field at field bytes) ≡ number_at n p bytes
unfolding number_at
number_at-with_field_earlier n p at field bytes behind within =
    let parts : p ≡ (at + length field) + (p - (at + length field)) = omega arith in
    let past : (xs : List ℕ) → drop p xs ≡ drop (p - (at + length field)) (drop (at + length field) xs) = λ xs. ap (λ (i : ℕ). drop i xs) parts ∙ sym (drop-drop (p - (at + length field)) (at + length field) xs) in
    ap (number_at n 0) (past (with_field at field bytes) ∙ ap (drop (p - (at + length field))) (drop-with_field at field bytes within) ∙ sym (past bytes))

pub get_or-with_field_later : (i at : ℕ) (field bytes : List ℕ) → i < at → at ≤ length bytes → get_or (with_field at field bytes) i 0 ≡ get_or bytes i 0
get_or-with_field_later i at field bytes before within =
    sym (get_or-take at (with_field at field bytes) i 0 before)
    ∙ ap (λ (xs : List ℕ). get_or xs i 0) (take-with_field at field bytes within)
    ∙ get_or-take at bytes i 0 before

pub get_or-with_field_earlier : (i at : ℕ) (field bytes : List ℕ) → at + length field ≤ i → at + length field ≤ length bytes → get_or (with_field at field bytes) i 0 ≡ get_or bytes i 0
get_or-with_field_earlier i at field bytes behind within =
    let past = at + length field in
    let parts : past + (i - past) ≡ i = omega arith in
    let there : (xs : List ℕ) → get_or (drop past xs) (i - past) 0 ≡ get_or xs i 0 = λ xs. get_or-drop past xs (i - past) 0 ∙ ap (λ (k : ℕ). get_or xs k 0) parts in
    sym (there (with_field at field bytes)) ∙ ap (λ (xs : List ℕ). get_or xs (i - past) 0) (drop-with_field at field bytes within) ∙ there bytes
