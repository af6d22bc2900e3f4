use Rattle.std.proofs.Common.{◌≡◌, ℕ, List, Ok, Err, None, set, sym, ap, ◌∙◌, subst}
use Rattle.std.specs.List.{insert}
use Rattle.std.specs.Option.{option_map}
use Rattle.of_match.specs.declared.key.Key.{Key}
use Rattle.flow_table.specs.declared.lost.Lost.{Lost}
use Rattle.flow_table.specs.Sorted.{IsFoundAt, AreLostRows, lost_place}
use Rattle.flow_table.specs.Corrected.{lost_at}
use Rattle.flow_table.specs.laws.SortedLaws.{with_item-found, with_item-absent, at_place-absent}
use Rattle.counter_cache.specs.Cache.{with_lost_row}
use Rattle.counter_cache.proofs.rows.put_row.Goals as goal

found : (rows seen : List (Key × Lost)) (r : Key × Lost) (at : ℕ) → seen ≡ rows → AreLostRows rows → IsFoundAt lost_place (lost_place r) seen (Ok at) → set rows at r ≡ with_lost_row r rows
found rows seen r at same h place =
    sym (with_item-found lost_place rows r 0 at h (subst (λ (xs : List (Key × Lost)). IsFoundAt lost_place (lost_place r) xs (Ok at)) same place))

absent : (rows seen : List (Key × Lost)) (r : Key × Lost) (at : ℕ) → seen ≡ rows → IsFoundAt lost_place (lost_place r) seen (Err at) → insert rows at r ≡ with_lost_row r rows
absent rows seen r at same place =
    sym (with_item-absent lost_place rows r at (subst (λ (xs : List (Key × Lost)). IsFoundAt lost_place (lost_place r) xs (Err at)) same place))

none : (rows seen : List (Key × Lost)) (r : Key × Lost) (at : ℕ) → seen ≡ rows → IsFoundAt lost_place (lost_place r) seen (Err at) → lost_at r.0 rows ≡ None
none rows seen r at same place =
    ap (option_map (λ (c : Key × Lost). c.1)) (at_place-absent lost_place rows (lost_place r) at (subst (λ (xs : List (Key × Lost)). IsFoundAt lost_place (lost_place r) xs (Err at)) same place))

pub returns-in-Ok-clause-rows : goal.returns-in-Ok-clause-rows
returns-in-Ok-clause-rows c = found _ c.deref.result.now (c.args.key, c.args.lost) c.in-Ok.at c.deref.ensures.value c.requires.in_order c.in-Ok.ensures

pub insert_row-requires-clause-room : goal.insert_row-requires-clause-room
insert_row-requires-clause-room c = c.requires.room (none _ c.deref.result.now (c.args.key, c.args.lost) c.in-Err.at c.deref.ensures.value c.in-Err.ensures)

pub returns-in-Err-clause-rows : goal.returns-in-Err-clause-rows
returns-in-Err-clause-rows c = c.insert_row.ensures.rows ∙ absent _ c.deref.result.now (c.args.key, c.args.lost) c.in-Err.at c.deref.ensures.value c.in-Err.ensures
