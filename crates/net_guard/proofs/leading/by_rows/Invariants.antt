use Rattle.std.proofs.Common.{drop, false}
use Rattle.std.specs.List.{list_any}
use Rattle.net_guard.specs.Leading.{row_over}
use Rattle.net_guard.proofs.Considering.{kept}
use Rattle.net_guard.proofs.Marking.{Leaves}
use Rattle.net_guard.proofs.leading.by_rows.Given as goal

abbrev pub invariant-loop-row : goal.invariant-loop-row
invariant-loop-row l = Leaves l.set l.hops (λ h. list_any (row_over l.place h) (kept l.field l.scope l.place.1 l.covered (drop l.row-index l.rows))) (λ h. list_any (row_over l.place h) (kept l.field l.scope l.place.1 false l.rows))
