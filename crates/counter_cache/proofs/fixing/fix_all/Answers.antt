use Rattle.std.proofs.Common.{ℕ, List, ◌≤◌, ◌∙◌, sym, ◌≡◌, ◌++◌, length, map, take, drop, append-nil}
use Rattle.std.proofs.Math.ListN.{drop_of_length-le}
use Rattle.std.proofs.lemmas.List.{take_all}
use Rattle.std.proofs.lemmas.List.Edits.{map_over_more}
use Rattle.counter_cache.specs.Fixed.{fixed_row}
use Rattle.counter_cache.proofs.fixing.fix_all.Goals as goal

-- past the end each row is done
whole : {X : Type 0} (f : X → X) (xs ys : List X) (i : ℕ) → ys ≡ map f (take i xs) ++ drop i xs → length xs ≤ i → ys ≡ map f xs
whole f xs ys i is past = is ∙ rw (take_all i xs past, drop_of_length-le xs past) (append-nil (map f xs))

pub loop-row-preserved : goal.loop-row-preserved
loop-row-preserved c =
    let more = map_over_more (fixed_row c.args.lost.now) c.args.rows.now c.loop-row.rows c.loop-row.row-index c.row-item.result c.loop-row-test.true c.loop-row.invariant c.row-item.is in
    rw (c.fix_row.ensures, sym c.row-item.is) more

pub returns : goal.returns
returns c = whole _ c.args.rows.now c.loop-row.rows c.loop-row.row-index c.loop-row.invariant c.loop-row-test.false
