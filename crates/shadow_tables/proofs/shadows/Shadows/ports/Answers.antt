use Rattle.std.proofs.Common.{Some, List, sym, ap, ◌∙◌}
use Rattle.of_types.specs.declared.port_desc.PortDesc.{PortDesc}
use Rattle.shadow_tables.proofs.Switches.{ports_there, none_ports}
use Rattle.shadow_tables.proofs.shadows.Shadows.ports.Goals as goal

pub returns-in-Ok : goal.returns-in-Ok
returns-in-Ok c =
    sym (ap (λ (ports : List PortDesc). Some ports) c.as_slice.ensures
    ∙ ports_there c.args.dpid _ _ _ c.deref.result.now _ c.index.result.now c.self.view_is c.deref.ensures.value c.self.invariant.in_order c.self.invariant.in_step c.in-Ok.ensures c.index.ensures)

pub returns-in-Err : goal.returns-in-Err
returns-in-Err c = sym (none_ports c.args.dpid _ _ _ c.deref.result.now _ c.self.view_is c.deref.ensures.value c.self.invariant.in_step c.in-Err.ensures)
