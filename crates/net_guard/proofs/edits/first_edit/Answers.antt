use Rattle.std.proofs.Common.{ℕ, ◌+◌, drop, Option, ap, sym, ◌∙◌}
use Rattle.flow_table.specs.View.{plains}
use Rattle.net_guard.specs.Found.{or_later, first_edit}
use Rattle.net_guard.proofs.EditSteps.{first_edit-drop, first_edit-all}
use Rattle.net_guard.proofs.edits.first_edit.Goals as goal

pub loop-table-preserved : goal.loop-table-preserved
loop-table-preserved c =
    let xs = c.args.tables.now in
    let i = c.loop-table.table-index in
    let none = sym c.edit_in.ensures ∙ c.in_default.is in
    sym (first_edit-drop c.args.hops.now xs i c.table-item.result c.loop-table-test.true c.table-item.is ∙ ap (λ (o : Option (ℕ × ℕ)). or_later o (first_edit c.args.hops.now (plains (drop (i + 1) xs)))) none) ∙ c.loop-table.invariant

pub returns-in-Some : goal.returns-in-Some
returns-in-Some c =
    let xs = c.args.tables.now in
    let i = c.loop-table.table-index in
    let some = sym c.edit_in.ensures ∙ c.in-Some.is in
    sym (first_edit-drop c.args.hops.now xs i c.table-item.result c.loop-table-test.true c.table-item.is ∙ ap (λ (o : Option (ℕ × ℕ)). or_later o (first_edit c.args.hops.now (plains (drop (i + 1) xs)))) some) ∙ c.loop-table.invariant

pub returns : goal.returns
returns c = sym (first_edit-all c.args.hops.now c.args.tables.now c.loop-table.table-index c.loop-table-test.false) ∙ c.loop-table.invariant
