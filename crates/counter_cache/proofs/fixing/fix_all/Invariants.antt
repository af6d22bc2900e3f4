use Rattle.std.proofs.Common.{◌≡◌, ◌++◌, map, take, drop}
use Rattle.counter_cache.specs.Fixed.{fixed_row}
use Rattle.counter_cache.proofs.fixing.fix_all.Given as goal

abbrev pub invariant-loop-row : goal.invariant-loop-row
invariant-loop-row l = l.rows ≡ map (fixed_row l.lost) (take l.row-index l.initial.rows) ++ drop l.row-index l.initial.rows
