use Rattle.net_txn.specs.laws.PartingLaws.{link_plain, err_of}
use Rattle.net_txn.proofs.reverting.send_first.Goals as goal

pub returns-clause-plain : goal.returns-clause-plain
returns-clause-plain g c = err_of _ _ _ c.send-sent.result (λ t m. link_plain t m.0) c.send-sent.ensures
