use Rattle.std.proofs.Common.{ap, sym, ◌∙◌}
use Rattle.std.specs.Prelude.{fold}
use Rattle.std.proofs.lemmas.List.{at_drop_all}
use Rattle.net_guard.specs.Values.{lower, named_by, named_in_rows}
use Rattle.net_guard.proofs.Numbers.{rows_more}
use Rattle.net_guard.proofs.values.least_of_rows.Goals as goal

pub loop-row-preserved : goal.loop-row-preserved
loop-row-preserved c =
    rows_more c.args.from c.args.field c.loop-row.least c.least_of_fields-least.result c.args.rows.now c.loop-row.row-index c.row-item.result c.loop-row-test.true c.row-item.is
    (c.least_of_fields-least.ensures ∙ ap (λ f. fold (lower c.args.from) c.loop-row.least (named_by c.args.field f)) c.fields.ensures.value)
    ∙ c.loop-row.invariant

pub returns : goal.returns
returns c = sym (at_drop_all (λ xs. fold (lower c.args.from) c.loop-row.least (named_in_rows c.args.field xs)) c.args.rows.now c.loop-row.row-index c.loop-row-test.false) ∙ c.loop-row.invariant
