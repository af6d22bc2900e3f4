-- Where the known ports of a switch stand among those of others.
use Rattle.std.specs.Prelude.{◌≡◌, ◌==◌, ℕ, ◌+◌, ◌<◌, false, List, [], ◌∷◌, length, refl}
use Rattle.std.proofs.Common.{zero, suc, get_or, set, drop, sym, ap, ◌∙◌, subst, arith, eq-eqb}
use Rattle.std.proofs.Math.Seq.{drop-cons}
use Rattle.std.proofs.lemmas.List.{drop_all}
use Rattle.of_types.specs.declared.port_desc.PortDesc.{PortDesc}
use Rattle.of_wire.specs.declared.bodies.PortStatus.{PortStatus as Status}
use Rattle.net_txn.specs.declared.ports.KnownPorts.{KnownPorts}
use Rattle.net_txn.specs.Arriving.{ports_after, known_after, IsKnownAt, IsNoKnown}

pub known_after-none : (d : ℕ) (s : Status) (ks : List KnownPorts) → IsNoKnown d ks → known_after d s ks ≡ ks
known_after-none d s [] none = refl
known_after-none d s (k ∷ ks) none = rw none.0 (ap (λ (rest : List KnownPorts). k ∷ rest) (known_after-none d s ks none.1))

known_after-at : (d : ℕ) (s : Status) (ks : List KnownPorts) (i : ℕ) (k : KnownPorts) → IsKnownAt d ks i → known_after d s ks ≡ set ks i (record (get_or ks i k) { ports = ports_after s (get_or ks i k).ports })
known_after-at d s [] i k is = absurd is
known_after-at d s (x ∷ xs) zero k is = rw (eq-eqb _ _ is) refl
known_after-at d s (x ∷ xs) (suc i) k is = rw is.0 (ap (λ (rest : List KnownPorts). x ∷ rest) (known_after-at d s xs i k is.1))

pub known_placed : (d : ℕ) (s : Status) (ks seen : List KnownPorts) (i : ℕ) (k : KnownPorts) (new : List PortDesc) → seen ≡ ks → IsKnownAt d seen i → k ≡ get_or ks i k → new ≡ ports_after s k.ports
    → set ks i (record { dpid = k.dpid; ports = new }) ≡ known_after d s ks
known_placed d s ks seen i k new e is at changed =
    let there = subst (λ (xs : List KnownPorts). IsKnownAt d xs i) e is in
    rw changed (ap (λ (w : KnownPorts). set ks i (record { dpid = w.dpid; ports = ports_after s w.ports })) at ∙ sym (known_after-at d s ks i k there))

pub IsKnownAt-within : (d : ℕ) (ks : List KnownPorts) (i : ℕ) → IsKnownAt d ks i → i < length ks
IsKnownAt-within d [] i is = absurd is
IsKnownAt-within d (k ∷ ks) zero is = omega arith
IsKnownAt-within d (k ∷ ks) (suc i) is = omega (arith, IsKnownAt-within d ks i is.1)

-- ---- Steps of a loop that looks for them

pub record Looked (d : ℕ) (ks : List KnownPorts) (i : ℕ) : Type 0 where
  pub places : (j : ℕ) → IsKnownAt d (drop i ks) j → IsKnownAt d ks (i + j)
  pub none : IsNoKnown d (drop i ks) → IsNoKnown d ks

front : (ks : List KnownPorts) (i : ℕ) (k : KnownPorts) → i < length ks → k ≡ get_or ks i k → drop i ks ≡ k ∷ drop (i + 1) ks
front ks i k lt is =
    let next : suc i ≡ i + 1 = omega arith in
    drop-cons ks i k lt ∙ ap (λ (y : KnownPorts). y ∷ drop (suc i) ks) (sym is) ∙ ap (λ (n : ℕ). k ∷ drop n ks) next

pub looked_none : (d : ℕ) (ks : List KnownPorts) → Looked d ks 0
looked_none d ks = record { places = λ j h. (let same : j ≡ 0 + j = omega arith in subst (IsKnownAt d ks) same h); none = λ h. h }

pub looked_more : (d : ℕ) (ks : List KnownPorts) (i : ℕ) (k : KnownPorts) → i < length ks → k ≡ get_or ks i k → (k.dpid == d) ≡ false → Looked d ks i → Looked d ks (i + 1)
looked_more d ks i k lt is other before = record {
  places = λ j h. (
      let here : IsKnownAt d (drop i ks) (suc j) = subst (λ (xs : List KnownPorts). IsKnownAt d xs (suc j)) (sym (front ks i k lt is)) (other, h) in
      let same : i + suc j ≡ i + 1 + j = omega arith in
      subst (IsKnownAt d ks) same (before.places (suc j) here));
  none = λ h. before.none (subst (λ (xs : List KnownPorts). IsNoKnown d xs) (sym (front ks i k lt is)) (other, h));
}

pub looked_stop : (d : ℕ) (ks : List KnownPorts) (i : ℕ) (k : KnownPorts) → i < length ks → k ≡ get_or ks i k → k.dpid ≡ d → Looked d ks i → IsKnownAt d ks i
looked_stop d ks i k lt is here before =
    let first : IsKnownAt d (drop i ks) 0 = subst (λ (xs : List KnownPorts). IsKnownAt d xs 0) (sym (front ks i k lt is)) here in
    let same : i + 0 ≡ i = omega arith in
    subst (IsKnownAt d ks) same (before.places 0 first)

pub looked_all : (d : ℕ) (ks : List KnownPorts) (i : ℕ) → length ks ≡ i → Looked d ks i → IsNoKnown d ks
looked_all d ks i is before =
    let nothing : drop i ks ≡ [] = drop_all i ks (omega arith) in
    before.none (subst (λ (xs : List KnownPorts). IsNoKnown d xs) (sym nothing) tt)
