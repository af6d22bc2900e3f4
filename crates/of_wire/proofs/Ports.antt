-- Ports read one after the other, as a loop does.
use Rattle.std.proofs.Common.{◌≡◌, ℕ, suc, ◌+◌, ◌-◌, ◌*◌, ◌<◌, List, [], ◌∷◌, ◌++◌, drop, sym, ap, ◌∙◌, append_assoc, arith}
use Rattle.std.proofs.lemmas.List.{drop-drop}
use Rattle.of_types.specs.declared.port_desc.PortDesc.{PortDesc}
use Rattle.of_wire.specs.Reading.{port_of, ports_of}

pub ports_go_on : (front : List PortDesc) (count i at : ℕ) (bytes : List ℕ) (total : List PortDesc) → i < count → front ++ ports_of (count - i) (drop (at + 48 * i) bytes) ≡ total
    → (front ++ port_of (drop (at + 48 * i) bytes) ∷ []) ++ ports_of (count - (i + 1)) (drop (at + 48 * (i + 1)) bytes) ≡ total
ports_go_on front count i at bytes total lt so_far =
    let steps : count - i ≡ suc (count - (i + 1)) = omega arith in
    let place : (at + 48 * i) + 48 ≡ at + 48 * (i + 1) = omega arith in
    let next : drop 48 (drop (at + 48 * i) bytes) ≡ drop (at + 48 * (i + 1)) bytes = drop-drop 48 (at + 48 * i) bytes ∙ ap (λ (n : ℕ). drop n bytes) place in
    let one : ports_of (count - i) (drop (at + 48 * i) bytes) ≡ port_of (drop (at + 48 * i) bytes) ∷ ports_of (count - (i + 1)) (drop (at + 48 * (i + 1)) bytes) =
    ap (λ (n : ℕ). ports_of n (drop (at + 48 * i) bytes)) steps ∙ ap (λ (b : List ℕ). port_of (drop (at + 48 * i) bytes) ∷ ports_of (count - (i + 1)) b) next in
    append_assoc front (port_of (drop (at + 48 * i) bytes) ∷ []) (ports_of (count - (i + 1)) (drop (at + 48 * (i + 1)) bytes)) ∙ ap (λ (ports : List PortDesc). front ++ ports) (sym one) ∙ so_far
