use Rattle.flow_table.specs.Sorted.{lost_place}
use Rattle.flow_table.specs.laws.SortedLaws.{Ascends-with_item}
use Rattle.counter_cache.proofs.cache.Cache.put.Goals as goal

pub invariant_of-self : goal.invariant_of-self
invariant_of-self c = record { in_order = rw c.put_row.ensures.rows (Ascends-with_item lost_place _ _ c.self.invariant.in_order); fits = c.put_row.ensures.fits }
