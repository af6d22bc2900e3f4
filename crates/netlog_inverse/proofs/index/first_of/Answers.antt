use Rattle.std.proofs.Common.{◌+◌, ◌-◌, ◌/◌, ◌<◌, length, arith}
use Rattle.flow_table.specs.laws.SortedLaws.{place-read}
use Rattle.netlog_inverse.specs.Index.{rank}
use Rattle.netlog_inverse.specs.laws.IndexLaws.{Parts-above_middle, Parts-below_middle}
use Rattle.netlog_inverse.proofs.index.first_of.Goals as goal

pub loop-low-preserved-then-is_below : goal.loop-low-preserved-then-is_below
loop-low-preserved-then-is_below c =
    let within : c.loop-low.low + (c.loop-low.high - c.loop-low.low) / 2 < length c.args.index.now = omega arith in
    let low = c.is_below.ensures.below c.if-is_below.true in (
      omega arith,
      c.loop-low.invariant.1,
      Parts-above_middle _ _ _ _ _ c.requires c.loop-low.invariant.2 within (λ s. omega (arith, low, place-read rank _ _ _ within c.index-index-middle.is s)),
    )

pub loop-low-preserved : goal.loop-low-preserved
loop-low-preserved c =
    let within : c.loop-low.low + (c.loop-low.high - c.loop-low.low) / 2 < length c.args.index.now = omega arith in
    let high = c.is_below.ensures.above c.if-is_below.false in (
      omega arith,
      omega arith,
      Parts-below_middle _ _ _ _ _ c.requires c.loop-low.invariant.2 (λ s. omega (arith, high, place-read rank _ _ _ within c.index-index-middle.is s)),
    )
