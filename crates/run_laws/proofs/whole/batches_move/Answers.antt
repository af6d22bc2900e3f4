use Rattle.run_laws.specs.laws.BatchMoveLaws.{batch-happens, batch-over}
use Rattle.run_laws.proofs.whole.batches_move.Goals as goal

pub returns-clause-happens : goal.returns-clause-happens
returns-clause-happens g c = batch-happens g.W.World.Tells

pub returns-clause-over : goal.returns-clause-over
returns-clause-over g c = batch-over
