use Rattle.std.proofs.Common.{◌==◌, sym, if◌then◌else◌}
use Rattle.std.proofs.lemmas.List.Edits.{map_over_more}
use Rattle.flow_table.specs.Step.{set_link}
use Rattle.switch_sim.proofs.stimulus.set_links.Goals as goal

pub loop-port-preserved : goal.loop-port-preserved
loop-port-preserved c =
    let more = map_over_more (λ p. if p.number == c.args.number then set_link c.args.up p else p) c.args.all.now c.loop-port.all c.loop-port.port-index c.port-item.result c.loop-port-test.true c.loop-port.invariant c.port-item.is in
    rw (c.set_link_at.ensures, sym c.port-item.is) more
