-- A field that is written at an offset, through the part of the bytes from that place on.
use Rattle.std.proofs.Common.{◌≡◌, ℕ, ◌+◌, ◌-◌, ◌≤◌, List, [], ◌++◌, length, take, drop, refl, ap, append_assoc, arith}
use Rattle.std.proofs.lemmas.List.{append-nil, take_rest, drop-drop, drop_all, length-take, length-drop, length-append, take_at}
use Rattle.std.proofs.Common.{suc, get_or, set, ◌%◌, ◌<◌, add-zero, ◌∙◌}
use Rattle.std.proofs.Math.Nat.{mod-eq_of_lt}
use Rattle.std.proofs.lemmas.List.{get_or-drop, set_split}
use borrow.Rule.Slice.PartMut.{put_mid}
use Rattle.of_types.specs.Fields.{number_at, number_bytes, with_field}

pub put_mid-with_field : (at n : ℕ) (xs ys field : List ℕ) → length field ≡ n → at + n ≤ length xs → ys ≡ field ++ drop n (take (length xs - at) (drop at xs)) → put_mid at (length xs - at) xs ys ≡ with_field at field xs
put_mid-with_field at n xs ys field len within e =
    let past : drop (length xs - at) (drop at xs) ≡ [] = drop_all (length xs - at) (drop at xs) (omega (arith, length-drop at xs)) in
    let rest : drop n (take (length xs - at) (drop at xs)) ≡ drop (at + length field) xs = rw (take_rest xs at, drop-drop n at xs, len) refl in
    rw (past, e, rest) (ap (λ (zs : List ℕ). take at xs ++ zs) (append-nil (field ++ drop (at + length field) xs)))

pub take-with_field : (at n : ℕ) (xs field : List ℕ) → length field ≡ n → at ≤ length xs → take (at + n) (with_field at field xs) ≡ take at xs ++ field
take-with_field at n xs field len within =
    let front : length (take at xs ++ field) ≡ at + n = omega (arith, length-append (take at xs) field, length-take at xs) in
    rw (← append_assoc (take at xs) field (drop (at + length field) xs)) (take_at (take at xs ++ field) (drop (at + length field) xs) (at + n) front)

pub number_at-byte : (at : ℕ) (bytes : List ℕ) → get_or bytes at 0 ≡ number_at 1 at bytes
unfolding number_at
number_at-byte at bytes =
    let e : get_or (drop at bytes) 0 0 ≡ get_or bytes at 0 = get_or-drop at bytes 0 0 ∙ ap (λ (i : ℕ). get_or bytes i 0) (add-zero at) in
    omega (arith, e)

pub set-with_field : (at x : ℕ) (bytes : List ℕ) → at < length bytes → x < 256 → set bytes at x ≡ with_field at (number_bytes 1 x) bytes
unfolding number_bytes
set-with_field at x bytes within lt =
    let byte : x % 256 ≡ x = mod-eq_of_lt lt in
    let next : at + 1 ≡ suc at = omega arith in
    rw (byte, next) (set_split bytes at x within)
