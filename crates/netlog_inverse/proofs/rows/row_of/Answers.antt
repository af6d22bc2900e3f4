use Rattle.std.proofs.Common.{◌≡◌, ℕ, List, [], ◌∷◌, Option, Some, None, subst, sym, ◌∙◌, inl, inr, Bor}
use Rattle.std.proofs.lemmas.Bool.{cases_eq}
use Rattle.std.proofs.lemmas.List.Elements.{All-head, All-tail}
use Rattle.std.specs.Prelude.{MatchOption, IfSome}
use Rattle.of_match.specs.Key.{key_number}
use Rattle.flow_table.specs.declared.view.ViewRow.{ViewRow}
use Rattle.flow_table.specs.Sorted.{at_place, row_place}
use Rattle.flow_table.specs.laws.SortedLaws.{at_place-same, at_place-other}
use Rattle.netlog_inverse.specs.Plans.{AreShowable, IsShowable}
use Rattle.netlog_inverse.proofs.rows.row_of.Goals as goal

-- what is found among rows that can be shown can be shown
found : (n : ℕ) (rows : List ViewRow) (r : ViewRow) → AreShowable rows → at_place row_place n rows ≡ Some r → IsShowable r
found n [] r all is = absurd cc
found n (x ∷ rows) r all is =
    elim (cases_eq (row_place x) n) [
      | inl here ↦
          let this : Some x ≡ Some r = sym (at_place-same row_place n x rows here) ∙ is in
          let same : x ≡ r = cc in
          subst IsShowable same (All-head IsShowable x rows all)
      | inr there ↦ found n rows r (All-tail IsShowable x rows all) (sym (at_place-other row_place n x rows there) ∙ is)
    ]

pub returns-clause-showable : goal.returns-clause-showable
returns-clause-showable c = showable c.find.result c.find.ensures
  where
    showable : (o : Option (Bor ViewRow)) → MatchOption o (at_place row_place (key_number c.args.key.now) c.args.view.now ≡ None) (λ r. at_place row_place (key_number c.args.key.now) c.args.view.now ≡ Some r.now) → IfSome o (λ r. IsShowable r.now)
    showable None is = tt
    showable (Some r) is = found (key_number c.args.key.now) c.args.view.now r.now c.requires is
