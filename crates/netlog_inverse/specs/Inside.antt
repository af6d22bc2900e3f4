-- How a log holds what contracts see of it.
use Rattle.std.specs.Prelude.{◌≤◌, ◌-◌, length, min, vec_capacity}
use Rattle.netlog_inverse.specs.Index.{IsIndex}
use Rattle.netlog_inverse.specs.Log.{LogState}
use Rattle.netlog_inverse.specs.declared.log.Log.TheInside.{Inside}

-- what contracts see: there is room in the list and in its index
abbrev pub log_view : Inside → LogState
log_view s = record { logged = s.logged.items; spare = min (vec_capacity s.logged) (vec_capacity s.index) - length s.logged.items }

-- the index is that of the list, and both fit
pub record IsLog (s : Inside) : Type 0 where
  pub index : IsIndex s.logged.items s.index.items
  pub fits : length s.logged.items ≤ vec_capacity s.logged
  pub index_fits : length s.logged.items ≤ vec_capacity s.index
