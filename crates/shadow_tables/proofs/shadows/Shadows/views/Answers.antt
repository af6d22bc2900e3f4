use Rattle.std.proofs.Common.{◌≡◌, List, ap, subst, ◌∙◌}
use Rattle.flow_table.specs.declared.view.TableView.{TableView as Lent}
use Rattle.flow_table.specs.View.{plains}
use Rattle.shadow_tables.specs.Known.{views}
use Rattle.shadow_tables.specs.Kept.{Kept, AreKept, known}
use Rattle.shadow_tables.specs.laws.InStepLaws.{views-lent, Ascends-all}
use Rattle.shadow_tables.proofs.shadows.Shadows.views.Goals as goal

pub returns-clause-all : goal.returns-clause-all
returns-clause-all c =
    ap (λ (vs : List Lent). plains vs) c.deref.ensures.value
    ∙ subst (λ (xs : List Kept). plains c.self.inside.views.items ≡ views (known xs)) c.self.view_is (views-lent _ _ c.self.invariant.in_step)

pub returns-clause-in_order : goal.returns-clause-in_order
returns-clause-in_order c = subst AreKept c.self.view_is (Ascends-all _ _ 0 c.self.invariant.in_order)
