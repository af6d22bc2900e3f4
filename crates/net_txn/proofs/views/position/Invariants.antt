use Rattle.std.proofs.Common.{◌≡◌, ℕ, ◌+◌, drop}
use Rattle.flow_table.specs.View.{plains}
use Rattle.net_txn.specs.Views.{rows_at, IsViewAt}
use Rattle.net_txn.proofs.views.position.Given as goal

abbrev pub invariant-loop-i : goal.invariant-loop-i
invariant-loop-i l = record {
  rows : rows_at l.dpid (plains (drop l.i l.views)) ≡ rows_at l.dpid (plains l.views);
  places : (j : ℕ) → IsViewAt l.dpid (plains (drop l.i l.views)) j → IsViewAt l.dpid (plains l.views) (l.i + j);
}
