use Rattle.std.proofs.Common.{◌≤◌, drop}
use Rattle.flow_table.specs.Rows.{selected}
use Rattle.switch_sim.specs.Words.{IsSumBefore}
use Rattle.switch_sim.proofs.statistics.sum.Given as goal

abbrev pub invariant-loop-entry : goal.invariant-loop-entry
invariant-loop-entry l = record {
  few : l.sum.flows ≤ l.entry-index;
  before : IsSumBefore l.sum (selected l.m l.out_port (drop l.entry-index l.entries)) (selected l.m l.out_port l.entries);
}
