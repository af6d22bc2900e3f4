use Rattle.std.proofs.Common.{◌≡◌, drop}
use Rattle.std.specs.Prelude.{fold}
use Rattle.net_guard.specs.Values.{lower, named_in_rows}
use Rattle.net_guard.proofs.values.least_of_rows.Given as goal

abbrev pub invariant-loop-row : goal.invariant-loop-row
invariant-loop-row l = fold (lower l.from) l.least (named_in_rows l.field (drop l.row-index l.rows)) ≡ fold (lower l.from) l.fn.best (named_in_rows l.field l.rows)
