-- Rows read one after the other, as a loop does.
use Rattle.std.proofs.Common.{◌≡◌, ℕ, suc, ◌+◌, ◌-◌, ◌*◌, ◌<◌, List, [], ◌∷◌, ◌++◌, take, drop, sym, ap, ◌∙◌, append_assoc, arith}
use Rattle.std.proofs.lemmas.List.{drop-drop}
use Rattle.of_types.specs.Fields.{number_at}
use Rattle.machine_apps.specs.Learn.{Rows}
use Rattle.machine_apps.specs.Checkpoint.{rows_in}

abbrev pub row_of : List ℕ → List ℕ × ℕ
row_of bytes = (take 14 bytes, number_at 2 14 bytes)

pub rows_go_on : (front : Rows) (count i : ℕ) (bytes : List ℕ) (total : Rows) → i < count → front ++ rows_in (count - i) (drop (16 * i) bytes) ≡ total
    → (front ++ row_of (drop (16 * i) bytes) ∷ []) ++ rows_in (count - (i + 1)) (drop (16 * (i + 1)) bytes) ≡ total
rows_go_on front count i bytes total lt so_far =
    let steps : count - i ≡ suc (count - (i + 1)) = omega arith in
    let place : 16 * i + 16 ≡ 16 * (i + 1) = omega arith in
    let next : drop 16 (drop (16 * i) bytes) ≡ drop (16 * (i + 1)) bytes = drop-drop 16 (16 * i) bytes ∙ ap (λ (n : ℕ). drop n bytes) place in
    let one : rows_in (count - i) (drop (16 * i) bytes) ≡ row_of (drop (16 * i) bytes) ∷ rows_in (count - (i + 1)) (drop (16 * (i + 1)) bytes) =
    ap (λ (n : ℕ). rows_in n (drop (16 * i) bytes)) steps ∙ ap (λ (b : List ℕ). row_of (drop (16 * i) bytes) ∷ rows_in (count - (i + 1)) b) next in
    append_assoc front (row_of (drop (16 * i) bytes) ∷ []) (rows_in (count - (i + 1)) (drop (16 * (i + 1)) bytes)) ∙ ap (λ (rows : Rows). front ++ rows) (sym one) ∙ so_far
