use Rattle.netlog_inverse.specs.laws.MeaningLaws.{said-planned}
use Rattle.netlog_inverse.specs.laws.RestoringLaws.{plan-restores}
use Rattle.netlog_inverse.proofs.laws.plans_undo.Goals as goal

pub returns-clause-said : goal.returns-clause-said
returns-clause-said c = said-planned

pub returns-clause-restores : goal.returns-clause-restores
returns-clause-restores c = plan-restores
