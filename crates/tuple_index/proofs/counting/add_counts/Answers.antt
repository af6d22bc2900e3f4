use Rattle.std.proofs.Common.{ℕ, List, ◌≤◌, ◌∙◌, sym, ◌≡◌, ◌++◌, length, map, take, drop, append-nil}
use Rattle.std.proofs.Math.ListN.{drop_of_length-le}
use Rattle.std.proofs.lemmas.List.{take_all}
use Rattle.std.proofs.lemmas.List.Edits.{map_over_more}
use Rattle.flow_table.specs.Hit.{with_more, with_counts}
use Rattle.flow_table.specs.laws.HitLaws.{keys-with_counts}
use Rattle.tuple_index.specs.laws.IndexLaws.{IsIndexed-keys}
use Rattle.tuple_index.proofs.counting.add_counts.Goals as goal

-- past the end each entry has its counts
whole : {X : Type 0} (f : X → X) (xs ys : List X) (i : ℕ) → ys ≡ map f (take i xs) ++ drop i xs → length xs ≤ i → ys ≡ map f xs
whole f xs ys i is past = is ∙ rw (take_all i xs past, drop_of_length-le xs past) (append-nil (map f xs))

pub loop-entry-preserved : goal.loop-entry-preserved
loop-entry-preserved c =
    let more = map_over_more (with_more c.args.priority c.args.packets c.args.bytes) c.args.entries.now c.loop-entry.entries c.loop-entry.entry-index c.entry-item.result c.loop-entry-test.true c.loop-entry.invariant c.entry-item.is in
    rw (c.add.ensures, sym c.entry-item.is) more

pub returns-clause-entries : goal.returns-clause-entries
unfolding with_counts
returns-clause-entries c = whole _ c.args.entries.now c.loop-entry.entries c.loop-entry.entry-index c.loop-entry.invariant c.loop-entry-test.false

pub returns-clause-indexed : goal.returns-clause-indexed
unfolding with_counts
returns-clause-indexed c =
    rw (whole _ c.args.entries.now c.loop-entry.entries c.loop-entry.entry-index c.loop-entry.invariant c.loop-entry-test.false) (IsIndexed-keys c.args.index.now c.args.entries.now (with_counts c.args.priority c.args.packets c.args.bytes c.args.entries.now) (sym (keys-with_counts c.args.priority c.args.packets c.args.bytes c.args.entries.now)) c.requires)
