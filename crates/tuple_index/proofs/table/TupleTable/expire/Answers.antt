use Rattle.std.proofs.Common.{◌≡◌, ℕ, List, Result, Ok, Err, OnOk, filter, not, refl}
use Rattle.flow_table.specs.declared.entry.Entry.{Entry}
use Rattle.flow_table.specs.Table.{TableState}
use Rattle.flow_table.specs.Expiry.{is_due, expire}
use Rattle.tuple_index.proofs.table.TupleTable.expire.Goals as goal

becomes : {T E : Type 0} (r : Result T E) (new : List Entry) (now : ℕ) (t : TableState) → OnOk r (new ≡ filter (λ e. not (is_due now e)) t.entries) → OnOk r (record { entries = new; next = t.next } ≡ expire now t)
unfolding expire
becomes (Ok x) new now t entries = rw entries refl
becomes (Err x) new now t entries = tt

pub returns-clause-ok : goal.returns-clause-ok
returns-clause-ok c =
    rw (← c.self.view_is)
    (becomes c.expire.result _ c.args.now (record { entries = c.self.inside.entries.items; next = c.self.inside.next }) c.expire.ensures.ok)
