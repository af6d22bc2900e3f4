use Rattle.std.proofs.Common.{◌+◌, ◌-◌, ◌/◌, ◌<◌, ◌≡◌, length, get_or, arith}
use Rattle.flow_table.specs.declared.view.TableView.{TableView as Lent}
use Rattle.flow_table.specs.laws.SortedLaws.{Around-above_middle, Around-below_middle, place-read}
use Rattle.shadow_tables.specs.InStep.{lent_place}
use Rattle.shadow_tables.proofs.tables.position.Goals as goal

pub loop-low-preserved-then-here-dpid : goal.loop-low-preserved-then-here-dpid
loop-low-preserved-then-here-dpid c =
    let within : c.loop-low.low + (c.loop-low.high - c.loop-low.low) / 2 < length c.args.views.now = omega arith in
    let read : (x : Lent) → lent_place (get_or c.args.views.now (c.loop-low.low + (c.loop-low.high - c.loop-low.low) / 2) x) ≡ c.index-views-middle.result.dpid = λ x. place-read lent_place _ _ _ within c.index-views-middle.is x in (
      omega arith,
      c.loop-low.invariant.1,
      Around-above_middle lent_place _ _ _ _ _ c.requires c.loop-low.invariant.2 within (λ x. omega (arith, read x, read c.index-views-middle.result)),
    )

pub loop-low-preserved : goal.loop-low-preserved
loop-low-preserved c =
    let within : c.loop-low.low + (c.loop-low.high - c.loop-low.low) / 2 < length c.args.views.now = omega arith in
    let read : (x : Lent) → lent_place (get_or c.args.views.now (c.loop-low.low + (c.loop-low.high - c.loop-low.low) / 2) x) ≡ c.index-views-middle.result.dpid = λ x. place-read lent_place _ _ _ within c.index-views-middle.is x in (
      omega arith,
      omega arith,
      Around-below_middle lent_place _ _ _ _ _ c.requires c.loop-low.invariant.2 within (λ x. omega (arith, read x, read c.index-views-middle.result)),
    )
