use Rattle.std.proofs.Common.{Result, Ok, Err, OnErr, sym, ◌∙◌, arith}
use Rattle.flow_table.specs.Change.{tells}
use Rattle.flow_table.specs.laws.TableLaws.{filter-some}
use Rattle.tuple_index.proofs.changing.notices_among.Goals as goal

on_err : {T E P : Type 0} (r : Result T E) → P → OnErr r P
on_err (Ok x) p = tt
on_err (Err x) p = p

pub returns-in_err-notice_of-clause-without_notices : goal.returns-in_err-notice_of-clause-without_notices
returns-in_err-notice_of-clause-without_notices c =
    on_err c.from_residual.result (filter-some (tells c.args.m.now) c.args.entries.now c.loop-entry.entry-index c.entry-item.result (omega arith) c.entry-item.is (sym c.is_told.ensures ∙ c.if-is_told.true))

pub returns-in_err-push-clause-without_notices : goal.returns-in_err-push-clause-without_notices
returns-in_err-push-clause-without_notices c =
    on_err c.from_residual-in_err-push.result (filter-some (tells c.args.m.now) c.args.entries.now c.loop-entry.entry-index c.entry-item.result (omega arith) c.entry-item.is (sym c.is_told.ensures ∙ c.if-is_told.true))
