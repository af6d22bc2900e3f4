use Rattle.std.proofs.Common.{◌+◌, ◌-◌, ◌/◌, ◌<◌, length, sym, ◌∙◌, arith}
use Rattle.flow_table.specs.laws.SortedLaws.{Around-above_middle, Around-below_middle, place-read, less_than, more_than, same_as}
use Rattle.tuple_index.specs.Groups.{spot}
use Rattle.tuple_index.proofs.grouping.place.Goals as goal

pub loop-low-preserved-in-Less : goal.loop-low-preserved-in-Less
loop-low-preserved-in-Less c =
    let within : c.loop-low.low + (c.loop-low.high - c.loop-low.low) / 2 < length c.args.keys.now = omega arith in
    let lt = less_than (spot c.index-keys-middle.result) (spot c.args.key.now) (sym c.in-Less.is ∙ c.group_order.ensures) in (
      omega arith,
      c.loop-low.invariant.1,
      Around-above_middle spot _ _ _ _ _ c.requires c.loop-low.invariant.2 within (λ r. omega (arith, place-read spot _ _ _ within c.index-keys-middle.is r)),
    )

pub loop-low-preserved : goal.loop-low-preserved
loop-low-preserved c =
    let within : c.loop-low.low + (c.loop-low.high - c.loop-low.low) / 2 < length c.args.keys.now = omega arith in
    let gt = more_than (spot c.index-keys-middle.result) (spot c.args.key.now) (sym c.in-Greater.is ∙ c.group_order.ensures) in (
      omega arith,
      omega arith,
      Around-below_middle spot _ _ _ _ _ c.requires c.loop-low.invariant.2 within (λ r. omega (arith, place-read spot _ _ _ within c.index-keys-middle.is r)),
    )

pub returns-in-Equal : goal.returns-in-Equal
returns-in-Equal c =
    let within : c.loop-low.low + (c.loop-low.high - c.loop-low.low) / 2 < length c.args.keys.now = omega arith in
    let same = same_as (spot c.index-keys-middle.result) (spot c.args.key.now) (sym c.in-Equal.is ∙ c.group_order.ensures) in
    (within, λ r. place-read spot _ _ _ within c.index-keys-middle.is r ∙ same)
