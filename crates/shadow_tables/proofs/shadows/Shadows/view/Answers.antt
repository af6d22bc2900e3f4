use Rattle.shadow_tables.proofs.Switches.{view_found, view_absent, table_found, on_found, if_found}
use Rattle.shadow_tables.proofs.shadows.Shadows.view.Goals as goal

pub returns-clause-found : goal.returns-clause-found
returns-clause-found c =
    let step = c.self.invariant.in_step in
    on_found c.find.result (λ none. view_absent c.args.dpid _ _ c.deref.result.now _ c.self.view_is c.deref.ensures.value step none) (λ v at. view_found c.args.dpid _ _ c.deref.result.now _ v.now c.self.view_is c.deref.ensures.value step at) c.find.ensures

pub returns-clause-in_order : goal.returns-clause-in_order
returns-clause-in_order c = if_found _ c.find.result (λ v at. table_found c.args.dpid _ c.deref.result.now v.now c.deref.ensures.value c.self.invariant.tables at) c.find.ensures
