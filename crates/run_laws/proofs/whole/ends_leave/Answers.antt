use Rattle.run_laws.specs.laws.EndingLaws.{leaves-then}
use Rattle.run_laws.specs.laws.LeaveLaws.{end-leaves}
use Rattle.run_laws.proofs.whole.ends_leave.Goals as goal

pub returns-clause-end : goal.returns-clause-end
returns-clause-end g c = end-leaves g.W.World.Tells

pub returns-clause-both : goal.returns-clause-both
returns-clause-both g c = leaves-then
