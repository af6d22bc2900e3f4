use Rattle.std.proofs.Common.{◌+◌, ◌-◌, ◌/◌, ◌<◌, length, sym, ◌∙◌, arith}
use Rattle.flow_table.specs.laws.SortedLaws.{place-read, less_than, more_than, same_as}
use Rattle.netlog_inverse.specs.Index.{rank, rank_of}
use Rattle.netlog_inverse.specs.laws.IndexLaws.{Parts-above_middle, Parts-below_middle}
use Rattle.netlog_inverse.proofs.index.bound.Goals as goal

pub loop-low-preserved-in-Less : goal.loop-low-preserved-in-Less
loop-low-preserved-in-Less c =
    let within : c.loop-low.low + (c.loop-low.high - c.loop-low.low) / 2 < length c.args.index.now = omega arith in
    let lt = less_than (rank c.index-index-middle.result) (rank_of c.args.dpid c.args.key.now c.args.at) (sym c.in-Less.is ∙ c.compare.ensures) in (
      omega arith,
      c.loop-low.invariant.1,
      Parts-above_middle _ _ _ _ _ c.requires c.loop-low.invariant.2 within (λ s. omega (arith, lt, place-read rank _ _ _ within c.index-index-middle.is s)),
    )

pub loop-low-preserved-in-Equal : goal.loop-low-preserved-in-Equal
loop-low-preserved-in-Equal c =
    let within : c.loop-low.low + (c.loop-low.high - c.loop-low.low) / 2 < length c.args.index.now = omega arith in
    let same = same_as (rank c.index-index-middle.result) (rank_of c.args.dpid c.args.key.now c.args.at) (sym c.in-Equal.is ∙ c.compare.ensures) in (
      omega arith,
      omega arith,
      Parts-below_middle _ _ _ _ _ c.requires c.loop-low.invariant.2 (λ s. omega (arith, same, place-read rank _ _ _ within c.index-index-middle.is s)),
    )

pub loop-low-preserved : goal.loop-low-preserved
loop-low-preserved c =
    let within : c.loop-low.low + (c.loop-low.high - c.loop-low.low) / 2 < length c.args.index.now = omega arith in
    let gt = more_than (rank c.index-index-middle.result) (rank_of c.args.dpid c.args.key.now c.args.at) (sym c.in-Greater.is ∙ c.compare.ensures) in (
      omega arith,
      omega arith,
      Parts-below_middle _ _ _ _ _ c.requires c.loop-low.invariant.2 (λ s. omega (arith, gt, place-read rank _ _ _ within c.index-index-middle.is s)),
    )
