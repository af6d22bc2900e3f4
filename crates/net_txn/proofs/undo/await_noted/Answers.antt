use Rattle.std.proofs.Common.{sym, subst}
use Rattle.net_txn.specs.laws.PartingLaws.{halt_plain, fault_plain, first_plain}
use Rattle.net_txn.specs.Parting.{IsPlainFault}
use Rattle.net_txn.proofs.undo.await_noted.Goals as goal

pub returns-in-Err-clause-parted : goal.returns-in-Err-clause-parted
returns-in-Err-clause-parted g c = λ can old. subst IsPlainFault (sym c.note.ensures.fault) (first_plain _ _ old (fault_plain _ (halt_plain _ _ _ (c.in-Err.ensures.parted can))))
