-- What follows about actions that are the same: they are one, and lists that differ somewhere are not the same.
use Rattle.std.proofs.Common.{◌≡◌, ◌==◌, ◌&&◌, ℕ, zero, suc, ◌<◌, Bool, true, false, List, [], ◌∷◌, length, get_or, refl, sym, ap, ap₂, ◌∙◌, arith}
use Rattle.std.proofs.lemmas.Bool.{eqb-true, and_parts}
use Rattle.std.specs.Cmp.Lexicographic.{pointwise, same_text}
use Rattle.of_action.specs.declared.action.Action.{Action}
use Rattle.of_action.specs.declared.action.Action.TheVariants.{Output, SetVlanVid, SetVlanPcp, StripVlan, SetDlSrc, SetDlDst, SetNwSrc, SetNwDst, SetNwTos, SetTpSrc, SetTpDst, Enqueue, Vendor}
use Rattle.undo_laws.specs.Table.{IsTest}
use Rattle.netlog_inverse.specs.Actions.{same_action, same_actions}

one-action : (a b : Action) → same_action a b ≡ true → a ≡ b
one-action (Output port max_len) (Output other most) is = let both = and_parts (port == other) (max_len == most) is in ap₂ (λ (x y : ℕ). Output x y) (eqb-true port other both.0) (eqb-true max_len most both.1)
one-action (SetVlanVid vid) (SetVlanVid other) is = ap (λ (x : ℕ). SetVlanVid x) (eqb-true vid other is)
one-action (SetVlanPcp pcp) (SetVlanPcp other) is = ap (λ (x : ℕ). SetVlanPcp x) (eqb-true pcp other is)
one-action StripVlan StripVlan is = refl
one-action (SetDlSrc address) (SetDlSrc other) is = ap (λ (x : List ℕ). SetDlSrc x) (same_text address other (sym is))
one-action (SetDlDst address) (SetDlDst other) is = ap (λ (x : List ℕ). SetDlDst x) (same_text address other (sym is))
one-action (SetNwSrc address) (SetNwSrc other) is = ap (λ (x : ℕ). SetNwSrc x) (eqb-true address other is)
one-action (SetNwDst address) (SetNwDst other) is = ap (λ (x : ℕ). SetNwDst x) (eqb-true address other is)
one-action (SetNwTos tos) (SetNwTos other) is = ap (λ (x : ℕ). SetNwTos x) (eqb-true tos other is)
one-action (SetTpSrc port) (SetTpSrc other) is = ap (λ (x : ℕ). SetTpSrc x) (eqb-true port other is)
one-action (SetTpDst port) (SetTpDst other) is = ap (λ (x : ℕ). SetTpDst x) (eqb-true port other is)
one-action (Enqueue port queue) (Enqueue other more) is = let both = and_parts (port == other) (queue == more) is in ap₂ (λ (x y : ℕ). Enqueue x y) (eqb-true port other both.0) (eqb-true queue more both.1)
one-action (Vendor body) (Vendor other) is = ap (λ (x : List ℕ). Vendor x) (same_text body other (sym is))
one-action a b is = absurd cc

pub IsTest-same_actions : IsTest same_actions
unfolding same_actions
IsTest-same_actions [] [] is = refl
IsTest-same_actions [] (b ∷ bs) is = absurd cc
IsTest-same_actions (a ∷ xs) [] is = absurd cc
IsTest-same_actions (a ∷ xs) (b ∷ bs) is = let both = and_parts (same_action a b) (pointwise same_action xs bs) is in ap₂ (λ (x : Action) (ys : List Action). x ∷ ys) (one-action a b both.0) (IsTest-same_actions xs bs both.1)

-- lists that differ at a position
pub differ-at : (xs ys : List Action) (i : ℕ) (d e : Action) → i < length xs → i < length ys → same_action (get_or xs i d) (get_or ys i e) ≡ false → same_actions xs ys ≡ false
unfolding same_actions
differ-at [] ys i d e a b other = absurd (omega arith)
differ-at (x ∷ xs) [] i d e a b other = absurd (omega arith)
differ-at (x ∷ xs) (y ∷ ys) zero d e a b other = and_left (same_action x y) (pointwise same_action xs ys) other
  where
    and_left : (p q : Bool) → p ≡ false → (p && q) ≡ false
    and_left false q is = refl
    and_left true q is = absurd cc
differ-at (x ∷ xs) (y ∷ ys) (suc i) d e a b other = and_right (same_action x y) (pointwise same_action xs ys) (differ-at xs ys i d e (omega arith) (omega arith) other)
  where
    and_right : (p q : Bool) → q ≡ false → (p && q) ≡ false
    and_right false q is = refl
    and_right true q is = is

-- lists of other lengths
pub differ-length : (xs ys : List Action) → (length xs ≡ length ys → ⊥) → same_actions xs ys ≡ false
unfolding same_actions
differ-length [] [] other = absurd (other refl)
differ-length [] (y ∷ ys) other = refl
differ-length (x ∷ xs) [] other = refl
differ-length (x ∷ xs) (y ∷ ys) other = and_false (same_action x y) (pointwise same_action xs ys) (differ-length xs ys (λ same. other (ap suc same)))
  where
    and_false : (p q : Bool) → q ≡ false → (p && q) ≡ false
    and_false false q is = refl
    and_false true q is = is

-- lists that are the same at each position
pub same-all : (xs ys : List Action) → length xs ≡ length ys → ((j : ℕ) (d e : Action) → j < length xs → same_action (get_or xs j d) (get_or ys j e) ≡ true) → same_actions xs ys ≡ true
unfolding same_actions
same-all [] [] long all = refl
same-all [] (y ∷ ys) long all = absurd (omega arith)
same-all (x ∷ xs) [] long all = absurd (omega arith)
same-all (x ∷ xs) (y ∷ ys) long all =
    rw (all 0 x y (omega arith)) (same-all xs ys (omega arith) (λ j d e lt. all (suc j) d e (omega arith)))
