use Rattle.net_txn.specs.laws.KnownLaws.{Looked}
use Rattle.net_txn.proofs.message_event.position_known.Given as goal

abbrev pub invariant-loop-i : goal.invariant-loop-i
invariant-loop-i l = Looked l.dpid l.all l.i
