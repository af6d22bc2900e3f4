use Rattle.std.proofs.Common.{◌≡◌, ℕ, List, Ok, Err, set, sym, ◌∙◌, subst}
use Rattle.std.specs.List.{insert}
use Rattle.of_match.specs.declared.key.Key.{Key}
use Rattle.flow_table.specs.Sorted.{Ascends, IsFoundAt, with_item}
use Rattle.flow_table.specs.laws.SortedLaws.{with_item-found, with_item-absent}
use Rattle.tuple_index.specs.Groups.{spot}
use Rattle.tuple_index.proofs.filing.put_key.Goals as goal

found : (ks seen : List Key) (k : Key) (at : ℕ) → seen ≡ ks → Ascends spot 0 ks → IsFoundAt spot (spot k) seen (Ok at) → set ks at k ≡ with_item spot k ks
found ks seen k at same order there = sym (with_item-found spot ks k 0 at order (subst (λ (xs : List Key). IsFoundAt spot (spot k) xs (Ok at)) same there))

absent : (ks seen : List Key) (k : Key) (at : ℕ) → seen ≡ ks → IsFoundAt spot (spot k) seen (Err at) → insert ks at k ≡ with_item spot k ks
absent ks seen k at same there = sym (with_item-absent spot ks k at (subst (λ (xs : List Key). IsFoundAt spot (spot k) xs (Err at)) same there))

pub returns-in-Ok : goal.returns-in-Ok
returns-in-Ok c = found c.args.index.now.items c.deref.result.now c.args.key c.in-Ok.at c.deref.ensures.value c.requires.in_order c.in-Ok.ensures

pub returns-in-Err : goal.returns-in-Err
returns-in-Err c = c.insert_key.ensures ∙ absent c.args.index.now.items c.deref.result.now c.args.key c.in-Err.at c.deref.ensures.value c.in-Err.ensures
