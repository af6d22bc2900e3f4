-- What follows about declared switches in their places: which switch stands at a number, and what becomes of them where one changes.
use Rattle.std.proofs.Common.{◌≡◌, ◌≢◌, ◌==◌, ℕ, ◌+◌, ◌≤◌, true, false, List, [], ◌∷◌, Option, None, refl, sym, ap, ap₂, ◌∙◌, arith, inl, inr}
use Rattle.std.proofs.lemmas.Bool.{cases_Bool, eqb-true, eqb-false}
use Rattle.flow_table.specs.Switch.{Declared, SwitchState}
use Rattle.outside.specs.Seen.{is_declared}
use Rattle.outside.specs.Conforming.{AreDeclaredFrom}
use Rattle.lego_model.specs.Places.{switch_at, with_place}
use Rattle.switch_laws.specs.Shown.{places}

pub switch_at-declared : (f : ℕ → Option SwitchState) (d : ℕ) (ds : List Declared) → is_declared d ds ≡ true → switch_at d (places f ds) ≡ f d
switch_at-declared f d [] is = absurd cc
switch_at-declared f d (x ∷ xs) is =
    elim (cases_Bool (x.dpid == d)) [
      | inl here ↦ rw here (ap f (eqb-true x.dpid d here))
      | inr other ↦ rw other (switch_at-declared f d xs (rw other at is))
    ]

pub switch_at-undeclared : (f : ℕ → Option SwitchState) (d : ℕ) (ds : List Declared) → is_declared d ds ≡ false → switch_at d (places f ds) ≡ None
switch_at-undeclared f d [] is = refl
switch_at-undeclared f d (x ∷ xs) is =
    elim (cases_Bool (x.dpid == d)) [
      | inl here ↦ absurd (true_is_not (rw here at is))
      | inr other ↦ rw other (switch_at-undeclared f d xs (rw other at is))
    ]
  where
    true_is_not : true ≡ false → ⊥
    true_is_not e = cc

-- where all switches are the same, all places are
pub places-same : (f g : ℕ → Option SwitchState) → ((d : ℕ) → f d ≡ g d) → (ds : List Declared) → places f ds ≡ places g ds
places-same f g same [] = refl
places-same f g same (d ∷ ds) = ap₂ (λ (s : Option SwitchState) ps. record { declared = d; switch = s } ∷ ps) (same d.dpid) (places-same f g same ds)

-- above a number all stand the same where those do that are not below it
pub places-above : (f g : ℕ → Option SwitchState) (least : ℕ) (ds : List Declared) → AreDeclaredFrom least ds → ((e : ℕ) → least ≤ e → g e ≡ f e) → places f ds ≡ places g ds
places-above f g least [] are same = refl
places-above f g least (x ∷ xs) are same =
    ap₂ (λ (s : Option SwitchState) ps. record { declared = x; switch = s } ∷ ps) (sym (same x.dpid are.0))
    (places-above f g (x.dpid + 1) xs are.2 (λ e le. same e (omega (arith, le, are.0))))

pub with_place-places : (f g : ℕ → Option SwitchState) (d : ℕ) (change : Option SwitchState → Option SwitchState) (least : ℕ) (ds : List Declared) → AreDeclaredFrom least ds → is_declared d ds ≡ true → g d ≡ change (f d)
    → ((e : ℕ) → e ≢ d → g e ≡ f e) → with_place d change (places f ds) ≡ places g ds
with_place-places f g d change least [] are is here others = absurd cc
with_place-places f g d change least (x ∷ xs) are is here others =
    elim (cases_Bool (x.dpid == d)) [
      | inl this ↦
          let e : x.dpid ≡ d = eqb-true x.dpid d this in
          rw this
          (ap₂ (λ (s : Option SwitchState) ps. record { declared = x; switch = s } ∷ ps) (ap (λ n. change (f n)) e ∙ sym here ∙ ap g (sym e))
          (places-above f g (x.dpid + 1) xs are.2 (λ n le. others n (λ same. omega (arith, le, e, same)))))
      | inr other ↦
          rw other
          (ap₂ (λ (s : Option SwitchState) ps. record { declared = x; switch = s } ∷ ps) (sym (others x.dpid (eqb-false x.dpid d other)))
          (with_place-places f g d change (x.dpid + 1) xs are.2 (rw other at is) here others))
    ]
