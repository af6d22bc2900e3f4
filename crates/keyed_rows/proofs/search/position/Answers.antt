use Rattle.std.proofs.Common.{◌+◌, ◌-◌, ◌/◌, ◌<◌, length, sym, ap, ◌∙◌, arith}
use Rattle.of_match.specs.Key.{key_number}
use Rattle.flow_table.specs.laws.SortedLaws.{Around-above_middle, Around-below_middle, place-read, less_than, more_than}
use Rattle.keyed_rows.specs.Keyed.{place}
use Rattle.keyed_rows.proofs.search.position.Goals as goal

pub loop-low-preserved-in-Less : goal.loop-low-preserved-in-Less
loop-low-preserved-in-Less g c =
    let at = place g.T.Keyed.key_of in
    let within : c.loop-low.low + (c.loop-low.high - c.loop-low.low) / 2 < length c.args.rows.now = omega arith in
    let key = ap key_number c.key.ensures in
    let lt = less_than (key_number c.key.result.now) (key_number c.args.key.now) (sym c.in-Less.is ∙ c.compare_keys.ensures) in (
      omega arith,
      c.loop-low.invariant.1,
      Around-above_middle at _ _ _ _ _ c.requires c.loop-low.invariant.2 within (λ r. omega (arith, key, place-read at _ _ _ within c.index-rows-middle.is r)),
    )

pub loop-low-preserved : goal.loop-low-preserved
loop-low-preserved g c =
    let at = place g.T.Keyed.key_of in
    let within : c.loop-low.low + (c.loop-low.high - c.loop-low.low) / 2 < length c.args.rows.now = omega arith in
    let key = ap key_number c.key.ensures in
    let gt = more_than (key_number c.key.result.now) (key_number c.args.key.now) (sym c.in-Greater.is ∙ c.compare_keys.ensures) in (
      omega arith,
      omega arith,
      Around-below_middle at _ _ _ _ _ c.requires c.loop-low.invariant.2 within (λ r. omega (arith, key, place-read at _ _ _ within c.index-rows-middle.is r)),
    )
