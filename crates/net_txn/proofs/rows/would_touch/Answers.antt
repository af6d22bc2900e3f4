use Rattle.std.proofs.Common.{sym, ◌∙◌}
use Rattle.std.proofs.lemmas.Bool.{ne_eqb}
use Rattle.net_txn.proofs.RowTests.{touch_add, touch_modify, touch_delete}
use Rattle.net_txn.proofs.rows.would_touch.Goals as goal

pub returns-then-m-eq-ADD : goal.returns-then-m-eq-ADD
returns-then-m-eq-ADD c = c.would_replace.ensures ∙ touch_add c.args.m.now c.args.rows.now c.if-m-eq-ADD.true

pub returns-then-is_modifying : goal.returns-then-is_modifying
returns-then-is_modifying c = c.has_described.ensures ∙ touch_modify c.args.m.now c.args.rows.now (ne_eqb _ _ c.if-m-eq-ADD.false) (sym c.is_modifying.ensures ∙ c.if-is_modifying.true)

pub returns-else-is_modifying : goal.returns-else-is_modifying
returns-else-is_modifying c = c.has_deleted.ensures ∙ touch_delete c.args.m.now c.args.rows.now (ne_eqb _ _ c.if-m-eq-ADD.false) (sym c.is_modifying.ensures ∙ c.if-is_modifying.false)
