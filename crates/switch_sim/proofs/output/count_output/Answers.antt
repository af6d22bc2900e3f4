use Rattle.std.proofs.Common.{sym}
use Rattle.std.proofs.lemmas.List.Edits.{map_over_more}
use Rattle.switch_sim.specs.Words.{after_output_at}
use Rattle.switch_sim.proofs.output.count_output.Goals as goal

pub loop-port-preserved : goal.loop-port-preserved
loop-port-preserved c =
    let more = map_over_more (after_output_at c.args.in_port c.args.to c.args.len) c.args.ports.now c.loop-port.ports c.loop-port.port-index c.port-item.result c.loop-port-test.true c.loop-port.invariant c.port-item.is in
    rw (c.count_at.ensures, sym c.port-item.is) more
