-- Each switch that is lost in an undo is lost once, and one that is not stuck is not lost; and a part that failed has the cause of its fault.
use Rattle.std.proofs.Common.{◌≡◌, ◌≢◌, ◌==◌, ℕ, Bool, true, false, ◌||◌, List, [], ◌∷◌, ◌++◌, Some, refl, sym, ap, ap₂, ◌∙◌, subst, inl, inr, true≢false}
use Rattle.std.proofs.lemmas.Bool.{cases_Bool, eq-eqb, ne_eqb, or_parts}
use Rattle.std.proofs.lemmas.List.{append-nil}
use Rattle.std.proofs.lemmas.List.Folds.{list_any-append}
use Rattle.of_match.specs.declared.key.Key.{Key}
use Rattle.outside.specs.declared.step.WorldStep.{WorldStep}
use Rattle.outside.specs.Seen.{Counts}
use Rattle.lego_model.specs.declared.fault.TxnFault.{TxnFault}
use Rattle.net_txn.specs.declared.halt.Halt.TheVariants.{Lost, Fault}
use Rattle.of_types.specs.Membership.{is_among}
use Rattle.net_txn.specs.Undos.{Part, Inverse, BarrierPassed, Stuck, IsFaultOf, part_steps, parts_of, fault_in, is_stuck, lost_in, lost_parts, inverses_of, IsRun}
use Rattle.std.proofs.Math.Bool.{or-false}

-- ---- Which numbers are in a list

pub not_first : (d e : ℕ) (ds : List ℕ) → is_among e (d ∷ ds) ≡ false → (e ≢ d) × (is_among e ds ≡ false)
not_first d e ds none =
    let n = or_parts (d == e) (is_among e ds) none in
    (λ same. true≢false (sym (eq-eqb d e (sym same)) ∙ n.0), n.1)

pub among-append : (e : ℕ) (ds es : List ℕ) → is_among e (ds ++ es) ≡ (is_among e ds || is_among e es)
among-append e ds es = list_any-append (λ (d : ℕ). d == e) ds es

pub among-last : (e d : ℕ) (ds : List ℕ) → is_among e (ds ++ d ∷ []) ≡ (is_among e ds || (d == e))
among-last e d ds = among-append e ds (d ∷ []) ∙ ap (λ (b : Bool). is_among e ds || b) (or-false (d == e))

-- each stands once
abbrev pub Distinct : List ℕ → Type 0
Distinct [] = Unit {0}
Distinct (d ∷ ds) = (is_among d ds ≡ false) × Distinct ds

-- ---- The switches that are lost in an undo

run-older : (old new : Counts) (d : ℕ) (p : Part) (older : List Part) → IsRun old new d (p ∷ older) → (is_stuck older ≡ false) × IsRun old new d older
run-older old new d (Inverse xid k) older run = (run.2, run.3)
run-older old new d (BarrierPassed xid got) older run = (run.1, run.2)
run-older old new d (Stuck xid halt steps) older run = (run.1, run.2)

-- no part that is not stuck loses its switch
free-loses : (d : ℕ) (p : Part) (older : List Part) → is_stuck (p ∷ older) ≡ false → lost_in d p ≡ []
free-loses d (Inverse xid k) older free = refl
free-loses d (BarrierPassed xid got) older free = refl
free-loses d (Stuck xid halt steps) older free = absurd (true≢false free)

pub lost-other : (d e : ℕ) (p : Part) → (e == d) ≡ false → is_among d (lost_in e p) ≡ false
lost-other d e (Inverse xid k) other = refl
lost-other d e (BarrierPassed xid got) other = refl
lost-other d e (Stuck xid Lost steps) other = rw other refl
lost-other d e (Stuck xid (Fault fault) steps) other = refl

-- a switch that is not stuck was not lost
pub free-among : (old new : Counts) (d : ℕ) (parts : List (ℕ × Part)) → IsRun old new d (parts_of d parts) → is_stuck (parts_of d parts) ≡ false → is_among d (lost_parts parts) ≡ false
free-among old new d [] run free = refl
free-among old new d (p ∷ older) run free =
    among-append d (lost_parts older) (lost_in p.0 p.1) ∙ elim (cases_Bool (p.0 == d)) [
      | inl here ↦
          let run_here : IsRun old new d (p.1 ∷ parts_of d older) = rw here at run in
          let free_here : is_stuck (p.1 ∷ parts_of d older) ≡ false = rw here at free in
          let before = run-older old new d p.1 (parts_of d older) run_here in
          ap₂ (λ (a b : Bool). a || b) (free-among old new d older before.1 before.0) (ap (is_among d) (free-loses p.0 p.1 (parts_of d older) free_here))
      | inr other ↦
          let run_there : IsRun old new d (parts_of d older) = rw other at run in
          let free_there : is_stuck (parts_of d older) ≡ false = rw other at free in
          ap₂ (λ (a b : Bool). a || b) (free-among old new d older run_there free_there) (lost-other d p.0 p.1 other)
    ]

distinct-last : (ds : List ℕ) (d : ℕ) → Distinct ds → is_among d ds ≡ false → Distinct (ds ++ d ∷ [])
distinct-last [] d apart none = (refl, tt)
distinct-last (e ∷ es) d apart none =
    let n = not_first e d es none in
    (among-last e d es ∙ ap₂ (λ (a b : Bool). a || b) apart.0 (ne_eqb d e n.0), distinct-last es d apart.1 n.1)

-- each part behind another, one switch at a time
runs-older : (old new : Counts) (p : ℕ × Part) (older : List (ℕ × Part)) → ((d : ℕ) → IsRun old new d (parts_of d (p ∷ older))) → (d : ℕ) → IsRun old new d (parts_of d older)
runs-older old new p older runs d = run-behind old new d p older (runs d)
  where
    run-behind : (old new : Counts) (d : ℕ) (p : ℕ × Part) (older : List (ℕ × Part)) → IsRun old new d (parts_of d (p ∷ older)) → IsRun old new d (parts_of d older)
    run-behind old new d p older run =
        elim (cases_Bool (p.0 == d)) [
          | inl here ↦ (let run_here : IsRun old new d (p.1 ∷ parts_of d older) = rw here at run in (run-older old new d p.1 (parts_of d older) run_here).1)
          | inr other ↦ rw other at run
        ]

-- the switch of the newest part was not lost before
first-lost : (old new : Counts) (p : ℕ × Part) (older : List (ℕ × Part)) → IsRun old new p.0 (parts_of p.0 (p ∷ older)) → is_among p.0 (lost_parts older) ≡ false
first-lost old new p older run =
    let same : (p.0 == p.0) ≡ true = eq-eqb p.0 p.0 refl in
    let run_here : IsRun old new p.0 (p.1 ∷ parts_of p.0 older) = rw same at run in
    let before = run-older old new p.0 p.1 (parts_of p.0 older) run_here in
    free-among old new p.0 older before.1 before.0

distinct-more : (ds : List ℕ) (d : ℕ) (p : Part) → Distinct ds → is_among d ds ≡ false → Distinct (ds ++ lost_in d p)
distinct-more ds d (Inverse xid k) apart none = subst Distinct (sym (append-nil ds)) apart
distinct-more ds d (BarrierPassed xid got) apart none = subst Distinct (sym (append-nil ds)) apart
distinct-more ds d (Stuck xid Lost steps) apart none = distinct-last ds d apart none
distinct-more ds d (Stuck xid (Fault fault) steps) apart none = subst Distinct (sym (append-nil ds)) apart

pub lost-distinct : (old new : Counts) (parts : List (ℕ × Part)) → ((d : ℕ) → IsRun old new d (parts_of d parts)) → Distinct (lost_parts parts)
lost-distinct old new [] runs = tt
lost-distinct old new (p ∷ older) runs =
    distinct-more (lost_parts older) p.0 p.1 (lost-distinct old new older (runs-older old new p older runs)) (first-lost old new p older (runs p.0))

-- ---- A part that failed by a fault

pub record FaultyPart (d : ℕ) (sent : List (ℕ × Key)) (old new : Counts) (p : Part) (fault : TxnFault) : Type 0 where
  pub steps : List WorldStep
  pub steps_is : part_steps d p ≡ steps
  pub cause : IsFaultOf d sent old new steps fault

pub faulty : (d : ℕ) (old new : Counts) (p : Part) (older : List Part) (fault : TxnFault) → IsRun old new d (p ∷ older) → fault_in p ≡ Some fault → FaultyPart d (inverses_of older) old new p fault
faulty d old new (Inverse xid k) older fault run is = absurd cc
faulty d old new (BarrierPassed xid got) older fault run is = absurd cc
faulty d old new (Stuck xid Lost steps) older fault run is = absurd cc
faulty d old new (Stuck xid (Fault why) steps) older fault run is = record {
  steps = steps;
  steps_is = refl;
  cause = subst (λ (f : TxnFault). IsFaultOf d (inverses_of older) old new steps f) (one_fault why fault is) run.0.cause;
}
  where
    one_fault : (a b : TxnFault) → Some a ≡ Some b → a ≡ b
    one_fault a b h = cc
