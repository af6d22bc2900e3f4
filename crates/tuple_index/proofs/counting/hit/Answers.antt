use Rattle.std.proofs.Common.{◌≡◌, ◌<◌, List, length, Some, Option, None, ℕ, refl}
use Rattle.std.specs.Prelude.{slice_get}
use Rattle.std.proofs.lemmas.Option.{slice_get_within}
use Rattle.flow_table.specs.declared.entry.Entry.{Entry}
use Rattle.flow_table.specs.Table.{IsPositionOf, with_entry}
use Rattle.flow_table.specs.Hit.{best, counted, hit, hit_by}
use Rattle.tuple_index.proofs.counting.hit.Goals as goal

within : (o : Option Entry) (es : List Entry) (i : ℕ) → IsPositionOf o es (Some i) → i < length es
within None es i p = absurd p
within (Some e) es i p = slice_get_within es i e p

hit_at : (o : Option Entry) (len now : ℕ) (es new : List Entry) (i : ℕ) → IsPositionOf o es (Some i) → ((e : Entry) → slice_get es i ≡ Some e → new ≡ with_entry (counted len now e) es) → new ≡ hit_by o len now es
hit_at None len now es new i p counts = absurd p
hit_at (Some e) len now es new i p counts = counts e p

hit_none : (o : Option Entry) (len now : ℕ) (es : List Entry) → IsPositionOf o es None → es ≡ hit_by o len now es
hit_none None len now es p = refl
hit_none (Some e) len now es p = absurd p

pub count_at-requires-clause-within : goal.count_at-requires-clause-within
count_at-requires-clause-within c = within (best c.args.k.now c.args.entries.now) c.args.entries.now c.in-Some.i (rw c.in-Some.is at c.lookup-found.ensures)

pub returns-in-Some-clause-entries : goal.returns-in-Some-clause-entries
unfolding hit
returns-in-Some-clause-entries c =
    hit_at (best c.args.k.now c.args.entries.now) c.args.len c.args.now c.args.entries.now _ c.in-Some.i (rw c.in-Some.is at c.lookup-found.ensures) c.count_at.ensures.entries

pub returns-in_default-clause-entries : goal.returns-in_default-clause-entries
unfolding hit
returns-in_default-clause-entries c =
    hit_none (best c.args.k.now c.args.entries.now) c.args.len c.args.now c.args.entries.now (rw c.in_default.is at c.lookup-found.ensures)
