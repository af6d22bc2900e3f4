use Rattle.std.proofs.Common.{◌==◌, sym, if◌then◌else◌}
use Rattle.std.proofs.lemmas.List.Edits.{map_over_more}
use Rattle.flow_table.specs.Step.{with_config}
use Rattle.switch_sim.proofs.message.modify_ports.Goals as goal

pub loop-port-preserved : goal.loop-port-preserved
loop-port-preserved c =
    let more = map_over_more (λ p. if p.number == c.args.m.now.port_no then with_config c.args.m.now p else p) c.args.ports.now c.loop-port.ports c.loop-port.port-index c.port-item.result c.loop-port-test.true c.loop-port.invariant c.port-item.is in
    rw (c.modify_at.ensures, sym c.port-item.is) more
