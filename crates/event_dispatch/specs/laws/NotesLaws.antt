-- Laws of lines that are noted one after the other.
use Rattle.std.proofs.Common.{◌≡◌, ◌<◌, ◌+◌, ℕ, zero, suc, List, [], ◌∷◌, ◌++◌, length, take, get_or, refl, sym, ap, ◌∙◌, subst, append_assoc, add-one, arith}
use Rattle.std.specs.List.{flat_map}
use Rattle.std.proofs.lemmas.List.{append-nil}
use Rattle.std.proofs.lemmas.List.Concat.{flat_map-cons}
use Rattle.event_dispatch.specs.declared.engine_core.Core.{Core}
use Rattle.event_dispatch.specs.Lines.{OnlyNotes}
use Rattle.event_dispatch.specs.laws.LastLaws.{adds_then}
use Rattle.event_dispatch.specs.laws.PassesLaws.{waits_none}
use Rattle.event_dispatch.specs.laws.WhyLaws.{waits_then}

pub notes_none : (c : Core) → OnlyNotes [] c c
notes_none c = record {
  waits = waits_none c;
  adds = record { stays = record { net = refl; queue = refl; events = refl; store = refl }; lines = sym (append-nil c.lines.items) };
}

pub notes_then : {first second : List ℕ} {c mid_c now_c : Core} → OnlyNotes first c mid_c → OnlyNotes second mid_c now_c → OnlyNotes (first ++ second) c now_c
notes_then {c = c} {mid_c = mid_c} {now_c = now_c} one two = record { waits = waits_then c mid_c now_c one.waits two.waits; adds = adds_then one.adds two.adds }

-- ---- A line for each item of a list

more_text : {A : Type 0} (f : A → List ℕ) (xs : List A) (i : ℕ) (d : A) → i < length xs
    → flat_map f (take (suc i) xs) ≡ flat_map f (take i xs) ++ f (get_or xs i d)
more_text f [] i d less = absurd (omega (arith, less))
more_text f (x ∷ xs) zero d less = flat_map-cons f x [] ∙ append-nil (f x)
more_text f (x ∷ xs) (suc i) d less =
    flat_map-cons f x (take (suc i) xs) ∙ ap (λ (text : List ℕ). f x ++ text) (more_text f xs i d (omega (arith, less)))
    ∙ sym (append_assoc (f x) (flat_map f (take i xs)) (f (get_or xs i d))) ∙ ap (λ (text : List ℕ). text ++ f (get_or xs i d))
    (sym (flat_map-cons f x (take i xs)))

pub notes_next : {A : Type 0} {text : List ℕ} {c mid_c now_c : Core} (f : A → List ℕ) (xs : List A) (i : ℕ) (d : A) → i < length xs → text ≡ f (get_or xs i d)
    → OnlyNotes (flat_map f (take i xs)) c mid_c → OnlyNotes text mid_c now_c → OnlyNotes (flat_map f (take (i + 1) xs)) c now_c
notes_next {c = c} {now_c = now_c} f xs i d less is so_far more =
    subst (λ (text : List ℕ). OnlyNotes text c now_c)
    (ap (λ (text : List ℕ). flat_map f (take i xs) ++ text) is ∙ sym (more_text f xs i d less) ∙ ap (λ (n : ℕ). flat_map f (take n xs)) (sym (add-one i)))
    (notes_then so_far more)
