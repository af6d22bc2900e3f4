use Rattle.std.proofs.Common.{ℕ, ◌≤◌, All, take}
use Rattle.flow_table.proofs.calls.latest.Given as goal

abbrev pub invariant-loop-entry : goal.invariant-loop-entry
invariant-loop-entry l = record {
  installed : All (λ e. e.installed ≤ l.last) (take l.entry-index l.entries);
  used : All (λ e. e.used ≤ l.last) (take l.entry-index l.entries);
  least : (n : ℕ) → All (λ e. e.installed ≤ n) l.entries → All (λ e. e.used ≤ n) l.entries → l.last ≤ n;
}
