use Rattle.switch_laws.specs.laws.FaultLaws.{tables-since, fault-since, undone-but-failed}
use Rattle.switch_laws.proofs.transaction.faults_are_undone.Goals as goal

pub returns-clause-ready : goal.returns-clause-ready
returns-clause-ready g c = tables-since g.W.World.Tells

pub returns-clause-fault : goal.returns-clause-fault
returns-clause-fault g c = fault-since g.W.World.Tells

pub returns-clause-undone : goal.returns-clause-undone
returns-clause-undone g c = undone-but-failed g.W.World.Tells
