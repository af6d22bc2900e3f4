use Rattle.counter_cache.specs.Fixed.{is_met}
use Rattle.counter_cache.specs.laws.TotalLaws.{total_more}
use Rattle.counter_cache.proofs.sums.total_of.Goals as goal

pub loop-row-preserved : goal.loop-row-preserved
loop-row-preserved c =
    rw (c.add.ensures, c.find_met.ensures) (total_more (is_met c.args.m.now c.args.out_port) c.args.lost.now c.args.view.now c.loop-row.row-index c.row-item.result c.loop-row.total c.loop-row-test.true c.row-item.is c.loop-row.invariant)
