use Rattle.std.proofs.Common.{◌≡◌, map, filter, take, drop}
use Rattle.netlog_inverse.specs.Plans.{deletes_row, missing, went_by}
use Rattle.netlog_inverse.proofs.planning.all_went.Given as goal

abbrev pub invariant-loop-row : goal.invariant-loop-row
invariant-loop-row g l = record {
  made : l.images.items ≡ map (went_by (g.L.LostRows.rows l.cache) l.rows) (filter (deletes_row l.m) (take l.row-index l.view));
  left : missing (filter (deletes_row l.m) (drop l.row-index l.view)) l.rows ≡ missing (filter (deletes_row l.m) l.view) l.rows;
}
