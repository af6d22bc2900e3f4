use Rattle.std.proofs.Common.{◌≡◌, ℕ, List, Ok, Err, sym, ◌∙◌, subst}
use Rattle.std.specs.List.{remove}
use Rattle.of_match.specs.declared.key.Key.{Key}
use Rattle.of_match.specs.Key.{key_number}
use Rattle.flow_table.specs.declared.lost.Lost.{Lost}
use Rattle.flow_table.specs.Sorted.{IsFoundAt, AreLostRows, lost_place}
use Rattle.flow_table.specs.laws.SortedLaws.{without_place-found, without_place-absent, at_place-absent}
use Rattle.counter_cache.specs.Cache.{without_lost}
use Rattle.counter_cache.proofs.rows.drop_row.Goals as goal

found : (rows seen : List (Key × Lost)) (k : Key) (at : ℕ) → seen ≡ rows → AreLostRows rows → IsFoundAt lost_place (key_number k) seen (Ok at) → remove rows at ≡ without_lost k rows
found rows seen k at same h place =
    sym (without_place-found lost_place rows (key_number k) 0 at h (subst (λ (xs : List (Key × Lost)). IsFoundAt lost_place (key_number k) xs (Ok at)) same place))

absent : (rows seen : List (Key × Lost)) (k : Key) (at : ℕ) → seen ≡ rows → IsFoundAt lost_place (key_number k) seen (Err at) → rows ≡ without_lost k rows
absent rows seen k at same place =
    sym (without_place-absent lost_place (key_number k) rows (at_place-absent lost_place rows (key_number k) at (subst (λ (xs : List (Key × Lost)). IsFoundAt lost_place (key_number k) xs (Err at)) same place)))

pub returns-in-Ok-clause-rows : goal.returns-in-Ok-clause-rows
returns-in-Ok-clause-rows c = c.remove.ensures.items ∙ found _ c.deref.result.now c.args.key.now c.in-Ok.at c.deref.ensures.value c.requires.in_order c.in-Ok.ensures

pub returns-in-Err-clause-rows : goal.returns-in-Err-clause-rows
returns-in-Err-clause-rows c = absent _ c.deref.result.now c.args.key.now c.in-Err.field-0 c.deref.ensures.value c.in-Err.ensures
