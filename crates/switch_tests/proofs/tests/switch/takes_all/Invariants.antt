use Rattle.std.proofs.Common.{◌*◌, ◌≤◌}
use Rattle.switch_tests.proofs.tests.switch.takes_all.Given as goal

abbrev pub invariant-loop-k : goal.invariant-loop-k
invariant-loop-k l = l.switch.table.next ≤ 2 * l.k
