use Rattle.switch_sim.specs.laws.StepLaws.{features_sent, features_stay}
use Rattle.switch_sim.proofs.laws.features_are_answered.Goals as goal

pub returns-clause-sent : goal.returns-clause-sent
returns-clause-sent c = features_sent

pub returns-clause-stays : goal.returns-clause-stays
returns-clause-stays c = features_stay
