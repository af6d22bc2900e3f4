use Rattle.std.proofs.Common.{◌≡◌, drop}
use Rattle.of_match.specs.Key.{key_number}
use Rattle.flow_table.specs.Sorted.{at_place}
use Rattle.keyed_rows.specs.Keyed.{place}
use Rattle.keyed_rows.proofs.lookup.first.Given as goal

abbrev pub invariant-loop-row : goal.invariant-loop-row
invariant-loop-row g l = at_place (place g.T.Keyed.key_of) (key_number l.key) (drop l.row-index l.rows) ≡ at_place (place g.T.Keyed.key_of) (key_number l.key) l.rows
