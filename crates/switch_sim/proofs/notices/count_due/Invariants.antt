use Rattle.std.proofs.Common.{◌≡◌, ◌≤◌, ◌+◌, ◌&&◌, length, filter, drop}
use Rattle.flow_table.specs.Change.{asks_notice}
use Rattle.flow_table.specs.Expiry.{is_due}
use Rattle.switch_sim.proofs.notices.count_due.Given as goal

abbrev pub invariant-loop-entry : goal.invariant-loop-entry
invariant-loop-entry l = record {
  few : l.count ≤ l.entry-index;
  so_far : l.count + length (filter (λ e. is_due l.now e && asks_notice e.flags) (drop l.entry-index l.entries)) ≡ length (filter (λ e. is_due l.now e && asks_notice e.flags) l.entries);
}
