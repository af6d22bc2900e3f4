use Rattle.std.proofs.Common.{take, ap, ◌∙◌, length, length-append, arith}
use Rattle.std.specs.List.{concat}
use Rattle.of_stats.specs.laws.PartLaws.{concat_more}
use Rattle.of_stats.proofs.parts.count_fitting.Goals as goal

pub loop-count-preserved : goal.loop-count-preserved
loop-count-preserved c =
    let rows = c.args.rows.now in
    let count = c.loop-count.count in
    let row = c.index-rows-count.result in
    let longer = ap length (concat_more rows count row c.loop-count-test.true c.index-rows-count.is) ∙ length-append (concat (take count rows)) row in
    record { size = omega (arith, longer, c.len-size.ensures); fit = c.if-size-gt-ROOM.false }
