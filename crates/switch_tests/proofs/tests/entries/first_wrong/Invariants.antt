use Rattle.std.proofs.Common.{◌≤◌}
use Rattle.switch_tests.proofs.tests.entries.first_wrong.Given as goal

abbrev pub invariant-loop-k : goal.invariant-loop-k
invariant-loop-k l = l.table.next ≤ l.k
