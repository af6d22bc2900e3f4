use Rattle.std.proofs.Common.{◌≡◌, ℕ, List, Ok, Err, sym, ◌∙◌, subst}
use Rattle.std.specs.List.{remove}
use Rattle.of_match.specs.declared.key.Key.{Key}
use Rattle.flow_table.specs.Sorted.{Ascends, IsFoundAt, without_place}
use Rattle.flow_table.specs.laws.SortedLaws.{without_place-found, without_place-absent, at_place-absent}
use Rattle.tuple_index.specs.Groups.{spot}
use Rattle.tuple_index.proofs.filing.drop_key.Goals as goal

found : (ks seen : List Key) (n at : ℕ) → seen ≡ ks → Ascends spot 0 ks → IsFoundAt spot n seen (Ok at) → remove ks at ≡ without_place spot n ks
found ks seen n at same order there = sym (without_place-found spot ks n 0 at order (subst (λ (xs : List Key). IsFoundAt spot n xs (Ok at)) same there))

absent : (ks seen : List Key) (n at : ℕ) → seen ≡ ks → IsFoundAt spot n seen (Err at) → ks ≡ without_place spot n ks
absent ks seen n at same there = sym (without_place-absent spot n ks (at_place-absent spot ks n at (subst (λ (xs : List Key). IsFoundAt spot n xs (Err at)) same there)))

pub returns-in-Ok : goal.returns-in-Ok
returns-in-Ok c = c.remove.ensures.items ∙ found c.args.index.now.items c.deref.result.now (spot c.args.key.now) c.in-Ok.at c.deref.ensures.value c.requires c.in-Ok.ensures

pub returns-in-Err : goal.returns-in-Err
returns-in-Err c = absent c.args.index.now.items c.deref.result.now (spot c.args.key.now) c.in-Err.field-0 c.deref.ensures.value c.in-Err.ensures
