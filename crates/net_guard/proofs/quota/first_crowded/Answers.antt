use Rattle.std.proofs.Common.{◌+◌, drop, Option, is_some, if◌then◌else◌, ap, sym, ◌∙◌}
use Rattle.flow_table.specs.View.{plains}
use Rattle.net_guard.specs.declared.refusal.Refusal.{Refusal}
use Rattle.net_guard.specs.Refusing.{first_crowded}
use Rattle.net_guard.proofs.CrowdedSteps.{first_crowded-drop, first_crowded-all}
use Rattle.net_guard.proofs.quota.first_crowded.Goals as goal

pub loop-table-preserved : goal.loop-table-preserved
loop-table-preserved c =
    let xs = c.args.tables.now in
    let i = c.loop-table.table-index in
    let none = sym c.crowded_in.ensures ∙ c.in_default.is in
    sym (first_crowded-drop c.args.most xs i c.table-item.result c.loop-table-test.true c.table-item.is ∙ ap (λ (o : Option Refusal). if is_some o then o else first_crowded c.args.most (plains (drop (i + 1) xs))) none) ∙ c.loop-table.invariant

pub returns-in-Some : goal.returns-in-Some
returns-in-Some c =
    let xs = c.args.tables.now in
    let i = c.loop-table.table-index in
    let some = sym c.crowded_in.ensures ∙ c.in-Some.is in
    sym (first_crowded-drop c.args.most xs i c.table-item.result c.loop-table-test.true c.table-item.is ∙ ap (λ (o : Option Refusal). if is_some o then o else first_crowded c.args.most (plains (drop (i + 1) xs))) some) ∙ c.loop-table.invariant

pub returns : goal.returns
returns c = sym (first_crowded-all c.args.most c.args.tables.now c.loop-table.table-index c.loop-table-test.false) ∙ c.loop-table.invariant
