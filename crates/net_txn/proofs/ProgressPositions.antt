-- Steps of a loop that looks for the newest entry of a switch.
use Rattle.std.proofs.Common.{◌≡◌, ◌==◌, ℕ, suc, ◌+◌, ◌<◌, false, List, ◌∷◌, length, get_or, drop, sym, ap, ◌∙◌, subst, arith}
use Rattle.std.proofs.Math.Seq.{drop-cons}
use Rattle.net_txn.specs.declared.logged.Logged.{Logged}
use Rattle.net_txn.specs.Undos.{IsProgressAt}

abbrev pub ProgressPositions : ℕ → List Logged → ℕ → Type 0
ProgressPositions d es i = (j : ℕ) → IsProgressAt d (drop i es) j → IsProgressAt d es (i + j)

front : (xs : List Logged) (i : ℕ) (x : Logged) → i < length xs → x ≡ get_or xs i x → drop i xs ≡ x ∷ drop (i + 1) xs
front xs i x lt is =
    let next : suc i ≡ i + 1 = omega arith in
    drop-cons xs i x lt ∙ ap (λ (y : Logged). y ∷ drop (suc i) xs) (sym is) ∙ ap (λ (n : ℕ). x ∷ drop n xs) next

pub progress_more : (d : ℕ) (es : List Logged) (i : ℕ) (e : Logged) → i < length es → e ≡ get_or es i e → (e.dpid == d) ≡ false → ProgressPositions d es i → ProgressPositions d es (i + 1)
progress_more d es i e lt is other before j h =
    let here : IsProgressAt d (drop i es) (suc j) = subst (λ (xs : List Logged). IsProgressAt d xs (suc j)) (sym (front es i e lt is)) (other, h) in
    let same : i + suc j ≡ i + 1 + j = omega arith in
    subst (IsProgressAt d es) same (before (suc j) here)

pub progress_stop : (d : ℕ) (es : List Logged) (i : ℕ) (e : Logged) → i < length es → e ≡ get_or es i e → e.dpid ≡ d → ProgressPositions d es i → IsProgressAt d es i
progress_stop d es i e lt is same_dpid before =
    let here : IsProgressAt d (drop i es) 0 = subst (λ (xs : List Logged). IsProgressAt d xs 0) (sym (front es i e lt is)) same_dpid in
    let same : i + 0 ≡ i = omega arith in
    subst (IsProgressAt d es) same (before 0 here)
