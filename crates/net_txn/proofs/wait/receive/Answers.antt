use Rattle.std.proofs.Common.{refl}
use Rattle.net_txn.specs.laws.PartingLaws.{link_fault_plain}
use Rattle.net_txn.specs.laws.SaidLaws.{hears_one, hears_noise, hears_not}
use Rattle.net_txn.proofs.wait.receive.Goals as goal

pub returns-in-Err-clause-hears : goal.returns-in-Err-clause-hears
returns-in-Err-clause-hears g c = rw c.trouble_of.ensures (hears_not c.in-Err.fault c.in-Err.ensures.receives)

pub returns-in-Ok-check-clause-hears : goal.returns-in-Ok-check-clause-hears
returns-in-Ok-check-clause-hears g c = hears_one c.in-Ok.len c.in-Ok.ensures.receives

pub returns-in-Err-check-clause-hears : goal.returns-in-Err-check-clause-hears
returns-in-Err-check-clause-hears g c = (tt, hears_noise c.in-Ok.len (rw c.in-Err-check.ensures refl) c.in-Ok.ensures.receives)

pub returns-in-Err-clause-parted : goal.returns-in-Err-clause-parted
returns-in-Err-clause-parted g c = λ can. rw c.trouble_of.ensures (link_fault_plain c.in-Err.fault)

pub returns-in-Err-check-clause-parted : goal.returns-in-Err-check-clause-parted
returns-in-Err-check-clause-parted g c = λ can. absurd (let read = rw c.in-Err-check.ensures at (c.in-Ok.ensures.message can) in cc)
