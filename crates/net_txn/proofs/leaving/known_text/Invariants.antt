use Rattle.std.proofs.Common.{◌≡◌, drop}
use Rattle.net_txn.specs.Leaving.{ports_at}
use Rattle.net_txn.proofs.leaving.known_text.Given as goal

abbrev pub invariant-loop-known : goal.invariant-loop-known
invariant-loop-known l = ports_at l.dpid (drop l.known-index l.all) ≡ ports_at l.dpid l.all
