use Rattle.std.proofs.Common.{ℕ, List, Ok, Err, arith}
use Rattle.of_match.specs.declared.key.Key.{Key}
use Rattle.flow_table.specs.Sorted.{Ascends, IsFoundAt}
use Rattle.flow_table.specs.laws.SortedLaws.{places-rise}
use Rattle.tuple_index.specs.Groups.{spot, IsFirstFrom}
use Rattle.tuple_index.specs.laws.OrderLaws.{spots-rise}
use Rattle.tuple_index.proofs.hitting.first_from.Goals as goal

here : (ks : List Key) (n at : ℕ) → Ascends spot 0 ks → IsFoundAt spot n ks (Ok at) → IsFirstFrom n ks at
here ks n at order found = record {
  below = λ i k lt within. omega (arith, places-rise spot ks 0 i at k order lt found.0, found.1 k);
  above = λ i k le within. omega (arith, spots-rise ks at i k order le within, found.1 k);
}

there : (ks : List Key) (n at : ℕ) → IsFoundAt spot n ks (Err at) → IsFirstFrom n ks at
there ks n at found = record {
  below = λ i k lt within. found.1.below i k lt;
  above = λ i k le within. let above = found.1.above i k le within in omega arith;
}

pub returns-in-Ok : goal.returns-in-Ok
returns-in-Ok c = here c.args.keys.now (spot c.args.key.now) c.in-Ok.at c.requires c.in-Ok.ensures

pub returns-in-Err : goal.returns-in-Err
returns-in-Err c = there c.args.keys.now (spot c.args.key.now) c.in-Err.at c.in-Err.ensures
