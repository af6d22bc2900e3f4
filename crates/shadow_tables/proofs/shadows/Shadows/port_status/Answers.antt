use Rattle.shadow_tables.specs.Known.{ports_after}
use Rattle.shadow_tables.proofs.Switches.{joined_in, ports_change, on_ok}
use Rattle.shadow_tables.proofs.shadows.Shadows.port_status.Goals as goal

pub place-at-requires-clause-joined : goal.place-at-requires-clause-joined
place-at-requires-clause-joined c = joined_in c.args.dpid _ _ c.deref.result.now _ c.self.view_is c.deref.ensures.value c.requires

pub returns-clause-ok : goal.returns-clause-ok
returns-clause-ok c =
    on_ok c.tell_at.result (λ told. ports_change c.args.dpid _ (ports_after c.args.reason c.args.port.now) _ _ c.deref.result.now _ _ c.self.view_is c.deref.ensures.value c.self.invariant.in_order c.self.invariant.in_step c.place-at.ensures told) c.tell_at.ensures.ok
