-- The relations of one field that is any or a value.
use Rattle.std.proofs.Common.{◌≡◌, ◌≢◌, Bool, true, Option, Some, None, refl, sym, ap, ◌∙◌}
use Rattle.std.specs.Prelude.{IfSome, unwrap_or}
use Rattle.std.specs.Bool.{Decides}
use Rattle.of_match.specs.Covers.{Agrees}
use Rattle.match_overlap.specs.Fieldwise.{value_subsumes, value_overlaps, value_meet}

-- a value that the field takes
pub taken : {A : Type 0} (o : Option A) (d : A) → Agrees o (unwrap_or o d)
taken None d = tt
taken (Some x) d = refl

pub unwrap_or-within : {A : Type 0} (P : A → Type 0) (o : Option A) (d : A) → IfSome o P → P d → P (unwrap_or o d)
unwrap_or-within P None d h hd = hd
unwrap_or-within P (Some x) d h hd = h

pub value_subsumes-sound : {A : Type 0} (same : A → A → Bool) → ((x y : A) → Decides (same x y) (x ≡ y)) → (o p : Option A) (x : A) → value_subsumes same o p ≡ true → Agrees p x → Agrees o x
value_subsumes-sound same decides None p x t h = tt
value_subsumes-sound same decides (Some y) None x t h = absurd cc
value_subsumes-sound same decides (Some y) (Some z) x t h = h ∙ sym ((decides y z).0 t)

-- two different values for what the second leaves open show where the test fails
pub value_subsumes-complete : {A : Type 0} (same : A → A → Bool) → ((x y : A) → Decides (same x y) (x ≡ y)) → (o p : Option A) (d e : A) → d ≢ e
    → Agrees o (unwrap_or p d) → Agrees o (unwrap_or p e) → value_subsumes same o p ≡ true
value_subsumes-complete same decides None p d e ne hd he = refl
value_subsumes-complete same decides (Some y) None d e ne hd he = absurd (ne (hd ∙ sym he))
value_subsumes-complete same decides (Some y) (Some z) d e ne hd he = (decides y z).1 (sym hd)

pub value_subsumes-antisym : {A : Type 0} (same : A → A → Bool) → ((x y : A) → Decides (same x y) (x ≡ y)) → (o p : Option A) → value_subsumes same o p ≡ true → value_subsumes same p o ≡ true → o ≡ p
value_subsumes-antisym same decides None None t u = refl
value_subsumes-antisym same decides None (Some z) t u = absurd cc
value_subsumes-antisym same decides (Some y) None t u = absurd cc
value_subsumes-antisym same decides (Some y) (Some z) t u = ap (λ x. Some x) ((decides y z).0 t)

pub value_overlaps-complete : {A : Type 0} (same : A → A → Bool) → ((x y : A) → Decides (same x y) (x ≡ y)) → (o p : Option A) (x : A) → Agrees o x → Agrees p x → value_overlaps same o p ≡ true
value_overlaps-complete same decides None p x h k = refl
value_overlaps-complete same decides (Some y) None x h k = refl
value_overlaps-complete same decides (Some y) (Some z) x h k = (decides y z).1 (sym h ∙ k)

pub value_meet-both : {A : Type 0} (same : A → A → Bool) → ((x y : A) → Decides (same x y) (x ≡ y)) → (o p : Option A) (x : A) → value_overlaps same o p ≡ true → Agrees (value_meet o p) x → Agrees o x × Agrees p x
value_meet-both same decides None p x t h = (tt, h)
value_meet-both same decides (Some y) None x t h = (h, tt)
value_meet-both same decides (Some y) (Some z) x t h = (h, h ∙ (decides y z).0 t)

pub value_meet-from : {A : Type 0} (o p : Option A) (x : A) → Agrees o x → Agrees p x → Agrees (value_meet o p) x
value_meet-from None p x h k = k
value_meet-from (Some y) p x h k = h

pub value_meet-within : {A : Type 0} (P : A → Type 0) (o p : Option A) → IfSome o P → IfSome p P → IfSome (value_meet o p) P
value_meet-within P None p h k = k
value_meet-within P (Some y) p h k = h
