use Rattle.shadow_tables.proofs.Switches.{joined_in, rows_keep, rows_held, room_made, on_ok}
use Rattle.shadow_tables.proofs.shadows.Shadows.reserve.Goals as goal

pub place-at-requires-clause-joined : goal.place-at-requires-clause-joined
place-at-requires-clause-joined c = joined_in c.args.dpid _ _ c.deref.result.now _ c.self.view_is c.deref.ensures.value c.requires

pub invariant_of-self : goal.invariant_of-self
invariant_of-self c =
    let held = rows_held c.args.dpid _ (λ rows. rows) _ c.deref.result.now _ _ c.deref.ensures.value c.self.invariant.in_order c.self.invariant.tables c.self.invariant.in_step c.place-at.ensures (λ rows h. h) c.reserve_at.ensures.same in
    record { in_order = held.in_order; tables = held.tables; in_step = held.in_step }

pub returns-clause-keeps : goal.returns-clause-keeps
returns-clause-keeps c = rows_keep c.args.dpid _ _ _ c.deref.result.now _ _ c.self.view_is c.deref.ensures.value c.self.invariant.in_order c.self.invariant.in_step c.place-at.ensures c.reserve_at.ensures.same

pub returns-clause-reserved : goal.returns-clause-reserved
returns-clause-reserved c =
    on_ok c.reserve_at.result (λ made. room_made c.args.dpid _ _ (λ rows. rows) _ c.deref.result.now _ _ c.deref.ensures.value c.self.invariant.in_order c.self.invariant.in_step c.place-at.ensures c.reserve_at.ensures.same made) c.reserve_at.ensures.reserved
