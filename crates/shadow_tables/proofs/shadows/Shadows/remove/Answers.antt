use Rattle.of_match.specs.Key.{key_number}
use Rattle.flow_table.specs.Sorted.{row_place, without_key}
use Rattle.flow_table.specs.laws.SortedLaws.{Ascends-without_place}
use Rattle.shadow_tables.proofs.Switches.{joined_in, rows_change, rows_held}
use Rattle.shadow_tables.proofs.shadows.Shadows.remove.Goals as goal

pub place-at-requires-clause-joined : goal.place-at-requires-clause-joined
place-at-requires-clause-joined c = joined_in c.args.dpid _ _ c.deref.result.now _ c.self.view_is c.deref.ensures.value c.requires

pub invariant_of-self : goal.invariant_of-self
invariant_of-self c =
    let held = rows_held c.args.dpid _ (without_key c.args.key.now) _ c.deref.result.now _ _ c.deref.ensures.value c.self.invariant.in_order c.self.invariant.tables c.self.invariant.in_step c.place-at.ensures (λ rows h. Ascends-without_place row_place (key_number c.args.key.now) rows h) c.remove_at.ensures in
    record { in_order = held.in_order; tables = held.tables; in_step = held.in_step }

pub returns : goal.returns
returns c = rows_change c.args.dpid _ (without_key c.args.key.now) _ _ c.deref.result.now _ _ c.self.view_is c.deref.ensures.value c.self.invariant.in_order c.self.invariant.in_step c.place-at.ensures c.remove_at.ensures
