use Rattle.std.proofs.Common.{sym, ◌∙◌}
use Rattle.std.proofs.lemmas.List.{at_drop_more}
use Rattle.machine_apps.specs.Learn.{Rows}
use Rattle.machine_apps.specs.Checkpoint.{with_rows}
use Rattle.machine_apps.proofs.checkpoint.collected.Goals as goal

pub loop-row-preserved : goal.loop-row-preserved
loop-row-preserved c =
    let map = c.loop-row.map.entries in
    rw (c.in_ok-insert.ensures.entries) (sym (at_drop_more (λ (rest : Rows). with_rows map rest) c.args.rows.now c.loop-row.row-index _ c.loop-row-test.true) ∙ c.loop-row.invariant)
