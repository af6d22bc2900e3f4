use Rattle.std.proofs.Common.{Some, List, ap, ◌∙◌}
use Rattle.of_types.specs.declared.port_desc.PortDesc.{PortDesc}
use Rattle.shadow_tables.proofs.Switches.{ports_there, rest_there, left_held, held_in, kept_in_both, none_ports, none_rest}
use Rattle.shadow_tables.proofs.shadows.Shadows.leave.Goals as goal

pub invariant_of-self : goal.invariant_of-self
invariant_of-self c =
    let held = held_in _ _ _ _ c.remove.ensures.items c.remove-in-Ok.ensures.items (left_held c.args.dpid _ _ c.deref.result.now _ c.deref.ensures.value c.self.invariant.in_order c.self.invariant.tables c.self.invariant.in_step c.in-Ok.ensures) in
    record { in_order = held.in_order; tables = held.tables; in_step = held.in_step }

pub returns-in-Ok-clause-ports : goal.returns-in-Ok-clause-ports
returns-in-Ok-clause-ports c =
    ap (λ (ports : List PortDesc). Some ports) c.into_list.ensures
    ∙ ports_there c.args.dpid _ _ _ c.deref.result.now _ c.remove-in-Ok.result c.self.view_is c.deref.ensures.value c.self.invariant.in_order c.self.invariant.in_step c.in-Ok.ensures c.remove-in-Ok.ensures.value

pub returns-in-Ok-clause-rest : goal.returns-in-Ok-clause-rest
returns-in-Ok-clause-rest c =
    kept_in_both _ _ _ _ c.remove.ensures.items c.remove-in-Ok.ensures.items
    ∙ rest_there c.args.dpid _ _ _ c.deref.result.now _ c.self.view_is c.deref.ensures.value c.self.invariant.in_order c.self.invariant.in_step c.in-Ok.ensures

pub returns-in-Err-clause-ports : goal.returns-in-Err-clause-ports
returns-in-Err-clause-ports c = none_ports c.args.dpid _ _ _ c.deref.result.now _ c.self.view_is c.deref.ensures.value c.self.invariant.in_step c.in-Err.ensures

pub returns-in-Err-clause-rest : goal.returns-in-Err-clause-rest
returns-in-Err-clause-rest c = none_rest c.args.dpid _ _ _ c.deref.result.now _ c.self.view_is c.deref.ensures.value c.self.invariant.in_step c.in-Err.ensures
