use Rattle.std.proofs.Common.{◌≡◌, map, filter, take}
use Rattle.netlog_inverse.specs.Plans.{acted_by, means_row}
use Rattle.netlog_inverse.proofs.planning.all_acted.Given as goal

abbrev pub invariant-loop-row : goal.invariant-loop-row
invariant-loop-row g l = l.images.items ≡ map (acted_by (g.L.LostRows.rows l.cache)) (filter (means_row l.m) (take l.row-index l.view))
