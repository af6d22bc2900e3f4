use Rattle.std.proofs.Common.{◌<◌, length, ◌∙◌, arith}
use Rattle.std.proofs.lemmas.List.{length-set}
use Rattle.flow_table.specs.View.{plains}
use Rattle.net_guard.specs.Bits.{Marks}
use Rattle.net_guard.specs.Links.{place_at}
use Rattle.net_guard.specs.Leading.{leads_over}
use Rattle.net_guard.proofs.Placing.{set_more}
use Rattle.net_guard.proofs.looping.graph.Goals as goal

pub loop-i-preserved : goal.loop-i-preserved
loop-i-preserved c =
    let graph = c.loop-i.graph in
    let within : c.loop-i.i < length graph = omega (arith, c.loop-i.invariant.0) in (
      length-set graph c.loop-i.i c.led_from.result ∙ c.loop-i.invariant.0,
      set_more (λ k set. Marks set c.args.hops.now (leads_over (record { field = c.args.field; hops = c.args.hops.now }) c.args.scope (plains c.args.tables.now) (place_at c.args.hops.now k))) graph c.loop-i.i c.led_from.result within
          c.loop-i.invariant.1 c.led_from.ensures,
    )
