use Rattle.machine_apps.specs.laws.LearnLaws.{learning_resumes}
use Rattle.machine_apps.specs.laws.KeepNothingLaws.{cleaning_resumes, blocking_resumes}
use Rattle.machine_apps.proofs.laws.machines_resume.Goals as goal

pub returns-clause-learn : goal.returns-clause-learn
returns-clause-learn c = learning_resumes

pub returns-clause-clean : goal.returns-clause-clean
returns-clause-clean c = cleaning_resumes

pub returns-clause-block : goal.returns-clause-block
returns-clause-block c = blocking_resumes
