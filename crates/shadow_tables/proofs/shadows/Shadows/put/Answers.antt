use Rattle.flow_table.specs.Sorted.{row_place, with_row}
use Rattle.flow_table.specs.laws.SortedLaws.{Ascends-with_item}
use Rattle.shadow_tables.proofs.Switches.{joined_in, room_there, rows_change, rows_held}
use Rattle.shadow_tables.proofs.shadows.Shadows.put.Goals as goal

pub place-at-requires-clause-joined : goal.place-at-requires-clause-joined
place-at-requires-clause-joined c = joined_in c.args.dpid _ _ c.deref.result.now _ c.self.view_is c.deref.ensures.value c.requires.joined

pub put_at-requires-clause-room : goal.put_at-requires-clause-room
put_at-requires-clause-room c v none = room_there c.args.dpid _ c.args.row.key _ _ c.deref.result.now _ c.self.view_is c.deref.ensures.value c.self.invariant.in_order c.self.invariant.in_step c.place-at.ensures c.requires.room v none

pub invariant_of-self : goal.invariant_of-self
invariant_of-self c =
    let held = rows_held c.args.dpid _ (with_row c.args.row) _ c.deref.result.now _ _ c.deref.ensures.value c.self.invariant.in_order c.self.invariant.tables c.self.invariant.in_step c.place-at.ensures (λ rows h. Ascends-with_item row_place rows c.args.row h) c.put_at.ensures in
    record { in_order = held.in_order; tables = held.tables; in_step = held.in_step }

pub returns : goal.returns
returns c = rows_change c.args.dpid _ (with_row c.args.row) _ _ c.deref.result.now _ _ c.self.view_is c.deref.ensures.value c.self.invariant.in_order c.self.invariant.in_step c.place-at.ensures c.put_at.ensures
