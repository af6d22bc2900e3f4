use Rattle.std.proofs.Common.{◌≡◌, ◌==◌, ◌+◌, ◌≤◌, not, ◌++◌, filter, take, drop}
use Rattle.std.specs.Prelude.{vec_len, vec_capacity}
use Rattle.net_txn.proofs.port_table.move_known.Given as goal

abbrev pub invariant-loop-done : goal.invariant-loop-done
invariant-loop-done l = record {
  known : take l.at l.known.items ++ filter (λ k. not (k.dpid == l.dpid)) (drop l.at l.known.items) ≡ filter (λ k. not (k.dpid == l.dpid)) l.fn.known.items;
  left : l.left.items ++ filter (λ k. k.dpid == l.dpid) (drop l.at l.known.items) ≡ l.fn.left.items ++ filter (λ k. k.dpid == l.dpid) l.fn.known.items;
  nearer : l.at + l.count ≡ vec_len l.known + l._done;
  room : vec_len l.left + vec_len l.known ≤ vec_capacity l.left;
}
