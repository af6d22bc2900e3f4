-- How a cache holds what contracts see of it.
use Rattle.std.specs.Prelude.{◌≤◌, ◌-◌, length, vec_capacity}
use Rattle.flow_table.specs.Sorted.{AreLostRows}
use Rattle.counter_cache.specs.Cache.{CacheState}
use Rattle.counter_cache.specs.declared.cache.Cache.TheInside.{Inside}

-- what contracts see
abbrev pub cache_view : Inside → CacheState
cache_view s = record { rows = s.rows.items; spare = vec_capacity s.rows - length s.rows.items }

-- the rows are in key order, and fit
pub record IsCache (s : Inside) : Type 0 where
  pub in_order : AreLostRows s.rows.items
  pub fits : length s.rows.items ≤ vec_capacity s.rows
