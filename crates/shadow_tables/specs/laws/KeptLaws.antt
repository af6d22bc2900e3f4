-- What is kept of one switch is found and changed by itself.
use Rattle.std.proofs.Common.{◌≡◌, ◌==◌, ℕ, zero, suc, ◌+◌, ◌<◌, ◌≤◌, List, [], ◌∷◌, length, get_or, set, Some, None, Ok, Err, if◌then◌else◌, refl, sym, ap, subst, ◌∙◌, arith, inl, inr}
use Rattle.std.proofs.lemmas.Bool.{cases_eq, cond-true, cond-false, eq-eqb, ne_eqb}
use Rattle.flow_table.specs.Sorted.{Ascends, at_place, with_item, IsFoundAt}
use Rattle.flow_table.specs.laws.SortedLaws.{places-rise, with_item-found, at_place-with_item-same, at_place-with_item-other, at_place-found, at_place-absent}
use Rattle.shadow_tables.specs.Known.{Known, changed_at}
use Rattle.shadow_tables.specs.Kept.{Kept, AreKept, kept_place, kept_at, ports_at, known, room_in, spare_at, KeepsRoom, Changes, Keeps}

-- ---- One switch among others

above_same : (d : ℕ) (change : Known → Known) (xs : List Kept) (least : ℕ) → Ascends kept_place least xs → d < least → changed_at d change (known xs) ≡ known xs
above_same d change [] least h lt = refl
above_same d change (x ∷ xs) least h lt =
    let other : (if x.known.dpid == d then change x.known else x.known) ≡ x.known = cond-false _ (change x.known) x.known (ne_eqb x.known.dpid d (λ same. omega (arith, h.0))) in
    rw other (ap (λ (ks : List Known). x.known ∷ ks) (above_same d change xs (x.known.dpid + 1) h.1 (omega (arith, h.0))))

changed_there : (d : ℕ) (change : Known → Known) (xs : List Kept) (least i : ℕ) (x y : Kept) → Ascends kept_place least xs → IsFoundAt kept_place d xs (Ok i) → x ≡ get_or xs i x → y.known ≡ change x.known
    → known (set xs i y) ≡ changed_at d change (known xs)
changed_there d change [] least i x y h found is new = absurd (omega (arith, found.0))
changed_there d change (z ∷ zs) least zero x y h found is new =
    let same : z.known.dpid ≡ d = found.1 z in
    let here : (if z.known.dpid == d then change z.known else z.known) ≡ change z.known = cond-true _ (change z.known) z.known (eq-eqb z.known.dpid d same) in
    let changed : y.known ≡ change z.known = new ∙ ap (λ (k : Kept). change k.known) is in
    rw (here, changed, above_same d change zs (z.known.dpid + 1) h.1 (omega arith)) refl
changed_there d change (z ∷ zs) least (suc i) x y h found is new =
    let within : i < length zs = omega (arith, found.0) in
    let rises = places-rise kept_place (z ∷ zs) least 0 (suc i) z h (omega arith) found.0 in
    let there : kept_place (get_or zs i z) ≡ d = found.1 z in
    let other : (if z.known.dpid == d then change z.known else z.known) ≡ z.known = cond-false _ (change z.known) z.known (ne_eqb z.known.dpid d (λ same. omega arith)) in
    rw other (ap (λ (ks : List Known). z.known ∷ ks) (changed_there d change zs (z.known.dpid + 1) i x y h.1 (within, λ w. found.1 w) is new))

known_there : (xs : List Kept) (i : ℕ) (x y : Kept) → i < length xs → x ≡ get_or xs i x → y.known ≡ x.known → known (set xs i y) ≡ known xs
known_there [] i x y within is same = absurd (omega arith)
known_there (z ∷ zs) zero x y within is same = ap (λ (k : Known). k ∷ known zs) (same ∙ ap (λ (w : Kept). w.known) is)
known_there (z ∷ zs) (suc i) x y within is same = ap (λ (ks : List Known). z.known ∷ ks) (known_there zs i x y (omega arith) is same)

-- a switch stands where it was found
pub kept_found : (d : ℕ) (xs : List Kept) (i : ℕ) (x : Kept) → AreKept xs → IsFoundAt kept_place d xs (Ok i) → x ≡ get_or xs i x → kept_at d xs ≡ Some x
kept_found d xs i x h found is = at_place-found kept_place xs d 0 i x h found ∙ ap Some (sym is)

replaced : (d : ℕ) (xs : List Kept) (i : ℕ) (y : Kept) → AreKept xs → IsFoundAt kept_place d xs (Ok i) → kept_place y ≡ d → with_item kept_place y xs ≡ set xs i y
replaced d xs i y h found same = with_item-found kept_place xs y 0 i h (subst (λ n. IsFoundAt kept_place n xs (Ok i)) (sym same) found)

number_there : (d : ℕ) (xs : List Kept) (i : ℕ) (x : Kept) → IsFoundAt kept_place d xs (Ok i) → x ≡ get_or xs i x → kept_place x ≡ d
number_there d xs i x found is = ap kept_place is ∙ found.1 x

room_there : (d : ℕ) (xs : List Kept) (i : ℕ) (x y : Kept) → AreKept xs → IsFoundAt kept_place d xs (Ok i) → x ≡ get_or xs i x → kept_place y ≡ kept_place x → KeepsRoom x y
    → (e : ℕ) → room_in (kept_at e xs) ≤ room_in (kept_at e (set xs i y))
room_there d xs i x y h found is same keeps e =
    let number : kept_place y ≡ d = same ∙ number_there d xs i x found is in
    rw (sym (replaced d xs i y h found number)) (elim (cases_eq d e) [
      | inl here ↦
          let new : kept_at e (with_item kept_place y xs) ≡ Some y = subst (λ n. at_place kept_place n (with_item kept_place y xs) ≡ Some y) (number ∙ here) (at_place-with_item-same kept_place xs y) in
          let old : kept_at e xs ≡ Some x = subst (λ n. kept_at n xs ≡ Some x) here (kept_found d xs i x h found is) in
          rw (new, old) keeps
      | inr there ↦ rw (at_place-with_item-other kept_place xs y e (λ at. there (sym number ∙ at))) (omega arith)
    ])

pub Changes-set : (d : ℕ) (change : Known → Known) (xs : List Kept) (i : ℕ) (x y : Kept) → AreKept xs → IsFoundAt kept_place d xs (Ok i) → x ≡ get_or xs i x → y.known ≡ change x.known → kept_place y ≡ kept_place x → KeepsRoom x y
    → Changes d change xs (set xs i y)
Changes-set d change xs i x y h found is new same keeps = record {
  known = changed_there d change xs 0 i x y h found is new;
  room = room_there d xs i x y h found is same keeps;
}

pub Keeps-set : (d : ℕ) (xs : List Kept) (i : ℕ) (x y : Kept) → AreKept xs → IsFoundAt kept_place d xs (Ok i) → x ≡ get_or xs i x → y.known ≡ x.known → KeepsRoom x y → Keeps xs (set xs i y)
Keeps-set d xs i x y h found is same keeps = record {
  known = known_there xs i x y found.0 is same;
  room = room_there d xs i x y h found is (ap (λ (k : Known). k.dpid) same) keeps;
}

pub spare-set : (d : ℕ) (xs : List Kept) (i : ℕ) (x y : Kept) → AreKept xs → IsFoundAt kept_place d xs (Ok i) → x ≡ get_or xs i x → kept_place y ≡ kept_place x → spare_at d (set xs i y) ≡ y.spare
spare-set d xs i x y h found is same =
    let number : kept_place y ≡ d = same ∙ number_there d xs i x found is in
    let new : kept_at d (with_item kept_place y xs) ≡ Some y = subst (λ n. at_place kept_place n (with_item kept_place y xs) ≡ Some y) number (at_place-with_item-same kept_place xs y) in
    rw (sym (replaced d xs i y h found number), new) refl

-- ---- What a change of rows does to the room for more

-- ---- A switch that leaves

pub ports_found : (d : ℕ) (xs : List Kept) (i : ℕ) (x : Kept) → AreKept xs → IsFoundAt kept_place d xs (Ok i) → x ≡ get_or xs i x → Some x.known.ports ≡ ports_at d xs
ports_found d xs i x h found is = rw (kept_found d xs i x h found is) refl

pub ports_absent : (d : ℕ) (xs : List Kept) (i : ℕ) → IsFoundAt kept_place d xs (Err i) → None ≡ ports_at d xs
ports_absent d xs i found = rw (at_place-absent kept_place xs d i found) refl
