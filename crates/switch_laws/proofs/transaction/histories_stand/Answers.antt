use Rattle.switch_laws.specs.laws.StandLaws.{all-stand, table-serialed}
use Rattle.switch_laws.proofs.transaction.histories_stand.Goals as goal

pub returns-clause-all : goal.returns-clause-all
returns-clause-all g c = all-stand

pub returns-clause-serials : goal.returns-clause-serials
returns-clause-serials g c = table-serialed
