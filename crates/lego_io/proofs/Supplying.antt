-- Bytes that a read moves from memory.
use Rattle.std.proofs.Common.{◌≡◌, ℕ, ◌+◌, ◌-◌, List, ◌++◌, length, take, drop, sym, ap, ◌∙◌, take-append-drop}
use Rattle.std.proofs.lemmas.List.{drop-drop, take_rest}

-- what was left are the bytes that were moved and the bytes behind them
pub moved : (left bytes memory filled : List ℕ) (at n : ℕ) → drop at bytes ≡ left → memory ≡ bytes → take n filled ≡ take n (take (length memory - at) (drop at memory)) → left ≡ take n filled ++ drop (at + n) bytes
moved left bytes memory filled at n viewed is front =
    let source : take n filled ≡ take n left = front ∙ ap (take n) (take_rest memory at ∙ ap (drop at) is ∙ viewed) in
    let rest : drop (at + n) bytes ≡ drop n left = sym (drop-drop n at bytes) ∙ ap (drop n) viewed in
    rw (source, rest) (sym (take-append-drop n left))
