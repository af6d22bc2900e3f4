use Rattle.shadow_tables.specs.Known.{with_config}
use Rattle.shadow_tables.proofs.Switches.{joined_in, ports_change}
use Rattle.shadow_tables.proofs.shadows.Shadows.set_config.Goals as goal

pub place-at-requires-clause-joined : goal.place-at-requires-clause-joined
place-at-requires-clause-joined c = joined_in c.args.dpid _ _ c.deref.result.now _ c.self.view_is c.deref.ensures.value c.requires

pub returns : goal.returns
returns c = ports_change c.args.dpid _ (with_config c.args.port c.args.config) _ _ c.deref.result.now _ _ c.self.view_is c.deref.ensures.value c.self.invariant.in_order c.self.invariant.in_step c.place-at.ensures c.configure_at.ensures
