use Rattle.std.proofs.Common.{ap, drop, ◌∙◌, List, ℕ}
use Rattle.net_txn.specs.laws.LeavingLaws.{port_text-described}
use Rattle.net_txn.proofs.leaving.described.Goals as goal

pub returns-clause-text : goal.returns-clause-text
returns-clause-text c = ap (λ (b : List ℕ). drop 16 b) c.encode_into.ensures ∙ port_text-described c.args.port.now
