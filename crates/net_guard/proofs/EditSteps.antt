-- The first edit, table by table.
use Rattle.std.proofs.Common.{◌≡◌, ℕ, ◌+◌, ◌<◌, ◌≤◌, List, ◌∷◌, length, drop, get_or, None, ap, sym, ◌∙◌, refl}
use Rattle.std.proofs.lemmas.List.{at_drop_more, at_drop_all}
use Rattle.flow_table.specs.declared.view.TableView.{TableView as Lent}
use Rattle.flow_table.specs.View.{TableView, plain, plains}
use Rattle.net_guard.specs.declared.hop.Hop.{Hop}
use Rattle.net_guard.specs.Found.{edit_in, or_later, first_edit}

pub first_edit-more : (hops : List Hop) (t : TableView) (ts : List TableView) → first_edit hops (t ∷ ts) ≡ or_later (edit_in hops t) (first_edit hops ts)
unfolding first_edit
first_edit-more hops t ts = refl

-- one table more
pub first_edit-drop : (hops : List Hop) (tables : List Lent) (i : ℕ) (t : Lent) → i < length tables → t ≡ get_or tables i t → first_edit hops (plains (drop i tables)) ≡ or_later (edit_in hops (plain t)) (first_edit hops (plains (drop (i + 1) tables)))
first_edit-drop hops tables i t within is =
    at_drop_more (λ (ts : List Lent). first_edit hops (plains ts)) tables i t within
    ∙ first_edit-more hops (plain (get_or tables i t)) (plains (drop (i + 1) tables))
    ∙ ap (λ (x : Lent). or_later (edit_in hops (plain x)) (first_edit hops (plains (drop (i + 1) tables)))) (sym is)

pub first_edit-all : (hops : List Hop) (tables : List Lent) (i : ℕ) → length tables ≤ i → first_edit hops (plains (drop i tables)) ≡ None
unfolding first_edit
first_edit-all hops tables i past = at_drop_all (λ (ts : List Lent). first_edit hops (plains ts)) tables i past
