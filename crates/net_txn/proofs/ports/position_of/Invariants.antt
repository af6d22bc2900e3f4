use Rattle.flow_table.specs.laws.PortLaws.{PortsBefore}
use Rattle.net_txn.proofs.ports.position_of.Given as goal

abbrev pub invariant-loop-i : goal.invariant-loop-i
invariant-loop-i l = PortsBefore l.number l.ports l.i
