use Rattle.std.proofs.Common.{◌≤◌, All, take}
use Rattle.switch_tests.proofs.tests.drawn.latest.Given as goal

abbrev pub invariant-loop-entry : goal.invariant-loop-entry
invariant-loop-entry l = record {
  installed : All (λ e. e.installed ≤ l.last) (take l.entry-index l.entries);
  used : All (λ e. e.used ≤ l.last) (take l.entry-index l.entries);
}
