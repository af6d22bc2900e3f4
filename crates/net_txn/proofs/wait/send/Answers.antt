use Rattle.net_txn.specs.laws.SaidLaws.{says_one, says_not}
use Rattle.net_txn.proofs.wait.send.Goals as goal

pub returns-in-Ok : goal.returns-in-Ok
returns-in-Ok g c = says_one c.in-Ok.field-0 c.in-Ok.ensures

pub returns-in-Err : goal.returns-in-Err
returns-in-Err g c = rw c.trouble_of.ensures (says_not _ c.in-Err.fault c.in-Err.ensures)
