use Rattle.std.proofs.Common.{◌≡◌, drop}
use Rattle.netlog_inverse.specs.Plans.{stray}
use Rattle.netlog_inverse.proofs.rows.find_stray.Given as goal

abbrev pub invariant-loop-row : goal.invariant-loop-row
invariant-loop-row l = stray l.view (drop l.row-index l.rows) ≡ stray l.view l.rows
