-- The first table over a quota, table by table.
use Rattle.std.proofs.Common.{◌≡◌, ℕ, ◌+◌, ◌<◌, ◌≤◌, List, ◌∷◌, length, drop, get_or, None, is_some, if◌then◌else◌, ap, sym, ◌∙◌, refl}
use Rattle.std.proofs.lemmas.List.{at_drop_more, at_drop_all}
use Rattle.flow_table.specs.declared.view.TableView.{TableView as Lent}
use Rattle.flow_table.specs.View.{TableView, plain, plains}
use Rattle.net_guard.specs.Refusing.{crowded_in, first_crowded}

pub first_crowded-more : (most : ℕ) (t : TableView) (ts : List TableView) → first_crowded most (t ∷ ts) ≡ (if is_some (crowded_in most t) then crowded_in most t else first_crowded most ts)
unfolding first_crowded
first_crowded-more most t ts = refl

-- one table more
pub first_crowded-drop : (most : ℕ) (tables : List Lent) (i : ℕ) (t : Lent) → i < length tables → t ≡ get_or tables i t → first_crowded most (plains (drop i tables)) ≡ (if is_some (crowded_in most (plain t)) then crowded_in most (plain t) else first_crowded most (plains (drop (i + 1) tables)))
first_crowded-drop most tables i t within is =
    at_drop_more (λ (ts : List Lent). first_crowded most (plains ts)) tables i t within
    ∙ first_crowded-more most (plain (get_or tables i t)) (plains (drop (i + 1) tables))
    ∙ ap (λ (x : Lent). if is_some (crowded_in most (plain x)) then crowded_in most (plain x) else first_crowded most (plains (drop (i + 1) tables))) (sym is)

pub first_crowded-all : (most : ℕ) (tables : List Lent) (i : ℕ) → length tables ≤ i → first_crowded most (plains (drop i tables)) ≡ None
unfolding first_crowded
first_crowded-all most tables i past = at_drop_all (λ (ts : List Lent). first_crowded most (plains ts)) tables i past
