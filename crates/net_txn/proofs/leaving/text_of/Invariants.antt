use Rattle.std.proofs.Common.{◌≡◌, take}
use Rattle.net_txn.specs.Leaving.{ports_text}
use Rattle.net_txn.proofs.leaving.text_of.Given as goal

abbrev pub invariant-loop-port : goal.invariant-loop-port
invariant-loop-port l = l.bytes.items ≡ ports_text (take l.port-index l.ports)
