use Rattle.std.proofs.Common.{◌≡◌, ℕ, List, Result, Ok, Err, OnOk, refl}
use Rattle.of_wire.specs.declared.bodies.FlowMod.{FlowMod}
use Rattle.flow_table.specs.declared.entry.Entry.{Entry}
use Rattle.flow_table.specs.Table.{TableState}
use Rattle.flow_table.specs.Change.{entries_after, changed, serial_after}
use Rattle.tuple_index.proofs.table.TupleTable.change.Goals as goal

becomes : {T E : Type 0} (r : Result T E) (new : List Entry) (next now : ℕ) (m : FlowMod) (t : TableState) → OnOk r (new ≡ entries_after now t.next m t.entries) → OnOk r (next ≡ serial_after m t) → OnOk r (record { entries = new; next = next } ≡ changed now m t)
unfolding changed
becomes (Ok x) new next now m t entries serial = rw (entries, serial) refl
becomes (Err x) new next now m t entries serial = tt

pub returns-clause-ok : goal.returns-clause-ok
returns-clause-ok c =
    rw (← c.self.view_is)
    (becomes c.change_entries.result _ _ c.args.now c.args.m.now (record { entries = c.self.inside.entries.items; next = c.self.inside.next }) c.change_entries.ensures.ok c.change_entries.ensures.next)
