use Rattle.std.proofs.Common.{◌==◌, sym, if◌then◌else◌}
use Rattle.std.proofs.lemmas.List.Edits.{map_over_more}
use Rattle.sim_world.specs.Tally.{one_fault}
use Rattle.sim_world.proofs.tally.raise_faults.Goals as goal

pub loop-link-preserved : goal.loop-link-preserved
loop-link-preserved c =
    let more = map_over_more (λ x. if x.dpid == c.args.dpid then one_fault x else x) c.args.links.now c.loop-link.links c.loop-link.link-index c.link-item.result c.loop-link-test.true c.loop-link.invariant c.link-item.is in
    rw (c.raise_fault.ensures, sym c.link-item.is) more
