use Rattle.std.proofs.Common.{◌≡◌, ℕ, List, filter, not, refl}
use Rattle.flow_table.specs.declared.entry.Entry.{Entry}
use Rattle.flow_table.specs.Table.{TableState}
use Rattle.flow_table.specs.Expiry.{is_due, expire}
use Rattle.tuple_index.proofs.table.TupleTable.remove_due.Goals as goal

becomes : (new : List Entry) (now : ℕ) (t : TableState) → new ≡ filter (λ e. not (is_due now e)) t.entries → record { entries = new; next = t.next } ≡ expire now t
unfolding expire
becomes new now t entries = rw entries refl

pub returns : goal.returns
returns c =
    rw (← c.self.view_is)
    (becomes _ c.args.now (record { entries = c.self.inside.entries.items; next = c.self.inside.next }) c.drop_due.ensures.removed)
