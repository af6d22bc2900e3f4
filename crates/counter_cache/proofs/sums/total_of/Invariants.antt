use Rattle.std.proofs.Common.{take}
use Rattle.std.specs.List.{filter}
use Rattle.counter_cache.specs.Fixed.{is_met}
use Rattle.counter_cache.specs.Totals.{IsTotal}
use Rattle.counter_cache.proofs.sums.total_of.Given as goal

abbrev pub invariant-loop-row : goal.invariant-loop-row
invariant-loop-row l = IsTotal l.lost (filter (is_met l.m l.out_port) (take l.row-index l.view)) l.total
