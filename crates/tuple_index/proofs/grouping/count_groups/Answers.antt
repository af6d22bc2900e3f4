use Rattle.std.proofs.Common.{arith}
use Rattle.tuple_index.specs.laws.ReachLaws.{groups-step}
use Rattle.tuple_index.proofs.grouping.count_groups.Goals as goal

pub loop-at-preserved : goal.loop-at-preserved
loop-at-preserved c =
    let e = c.group_end-at.ensures in
    let step = groups-step c.args.keys.now c.loop-at.at c.group_end-at.result c.requires e.behind e.within e.group e.next in (
      e.within,
      omega arith,
      omega (arith, step, c.loop-at.invariant.2),
    )
