use Rattle.std.proofs.Common.{◌≡◌, ℕ, List, Result, Ok, Err, OnOk, OnErr, refl}
use Rattle.of_wire.specs.declared.bodies.FlowMod.{FlowMod}
use Rattle.flow_table.specs.declared.entry.Entry.{Entry}
use Rattle.flow_table.specs.Table.{IsTable, TableState}
use Rattle.flow_table.specs.Change.{entries_after, changed, serial_after}
use Rattle.flow_table.specs.laws.ChangeLaws.{IsTable-entries_after}
use Rattle.flow_table.proofs.table.Table.change.Goals as goal

stays : {T E : Type 0} (r : Result T E) (new old : List Entry) (now serial : ℕ) (m : FlowMod) → IsTable old → OnOk r (new ≡ entries_after now serial m old) → OnErr r (new ≡ old) → IsTable new
stays (Ok x) new old now serial m is ok err = rw ok (IsTable-entries_after now serial m old is)
stays (Err x) new old now serial m is ok err = rw err is

pub invariant_of-self : goal.invariant_of-self
invariant_of-self c = stays c.change_entries.result _ _ c.args.now _ c.args.m.now c.self.invariant c.change_entries.ensures.ok c.change_entries.ensures.err

becomes : {T E : Type 0} (r : Result T E) (new : List Entry) (next now : ℕ) (m : FlowMod) (t : TableState) → OnOk r (new ≡ entries_after now t.next m t.entries) → OnOk r (next ≡ serial_after m t) → OnOk r (record { entries = new; next = next } ≡ changed now m t)
unfolding changed
becomes (Ok x) new next now m t entries serial = rw (entries, serial) refl
becomes (Err x) new next now m t entries serial = tt

pub returns-clause-ok : goal.returns-clause-ok
returns-clause-ok c =
    rw (← c.self.view_is)
    (becomes c.change_entries.result _ _ c.args.now c.args.m.now (record { entries = c.self.inside.entries.items; next = c.self.inside.next }) c.change_entries.ensures.ok c.change_entries.ensures.next)
