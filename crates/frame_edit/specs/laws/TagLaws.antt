-- Bytes put in, and taken out, one after the other at one place.
use Rattle.std.proofs.Common.{◌≡◌, ℕ, suc, ◌+◌, ◌≤◌, List, ◌∷◌, ◌++◌, length, take, drop, refl, sym, ap, ◌∙◌, arith}
use Rattle.std.specs.List.{insert, remove}
use Rattle.std.proofs.lemmas.List.{take_at, drop_at, drop-drop, length-take}

pub insert_here : (at x : ℕ) (bytes more : List ℕ) → at ≤ length bytes → insert (take at bytes ++ more) at x ≡ take at bytes ++ x ∷ more
insert_here at x bytes more within =
    let len : length (take at bytes) ≡ at = omega (arith, length-take at bytes) in
    rw (take_at (take at bytes) more at len, drop_at (take at bytes) more at len) refl

pub remove_here : (at next : ℕ) (bytes : List ℕ) → at ≤ length bytes → remove (take at bytes ++ drop next bytes) at ≡ take at bytes ++ drop (suc next) bytes
remove_here at next bytes within =
    let len : length (take at bytes) ≡ at = omega (arith, length-take at bytes) in
    let later : suc at ≡ at + 1 = omega arith in
    let next_later : next + 1 ≡ suc next = omega arith in
    let rest : drop (suc at) (take at bytes ++ drop next bytes) ≡ drop (suc next) bytes =
    ap (λ (n : ℕ). drop n (take at bytes ++ drop next bytes)) later
    ∙ sym (drop-drop 1 at (take at bytes ++ drop next bytes))
    ∙ ap (λ (xs : List ℕ). drop 1 xs) (drop_at (take at bytes) (drop next bytes) at len)
    ∙ drop-drop 1 next bytes
    ∙ ap (λ (n : ℕ). drop n bytes) next_later in
    rw (take_at (take at bytes) (drop next bytes) at len, rest) refl
