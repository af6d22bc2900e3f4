-- What follows about how many ports there are.
use Rattle.std.proofs.Common.{◌≡◌, ◌==◌, ℕ, suc, ◌≤◌, not, List, [], ◌∷◌, length, nat_lt, refl, ap, arith}
use Rattle.std.proofs.lemmas.Bool.{cond_both}
use Rattle.std.proofs.lemmas.List.Sums.{length-filter, count_by-le-length}
use Rattle.flow_table.specs.Switch.{PortState, insert_port}
use Rattle.flow_table.specs.Step.{without_port}

pub length-insert_port : (p : PortState) (ps : List PortState) → length (insert_port p ps) ≡ suc (length ps)
length-insert_port p [] = refl
length-insert_port p (q ∷ qs) =
    cond_both (nat_lt p.number q.number) (p ∷ q ∷ qs) (q ∷ insert_port p qs) (λ (xs : List PortState). length xs ≡ suc (suc (length qs)))
    (λ _. refl)
    (λ _. ap suc (length-insert_port p qs))

pub length-without_port : (number : ℕ) (ps : List PortState) → length (without_port number ps) ≤ length ps
length-without_port number ps =
    omega (arith, length-filter (λ p. not (p.number == number)) ps, count_by-le-length (λ p. not (p.number == number)) ps)
