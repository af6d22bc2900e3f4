use Rattle.flow_table.specs.Sorted.{lost_place}
use Rattle.flow_table.specs.laws.SortedLaws.{Ascends-without_place}
use Rattle.counter_cache.proofs.cache.Cache.remove.Goals as goal

pub invariant_of-self : goal.invariant_of-self
invariant_of-self c = record { in_order = rw c.drop_row.ensures.rows (Ascends-without_place lost_place _ _ c.self.invariant.in_order); fits = c.drop_row.ensures.fits }
