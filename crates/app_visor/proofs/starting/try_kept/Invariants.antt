use Rattle.app_visor.specs.laws.AttemptLaws.{carried}
use Rattle.app_visor.proofs.starting.try_kept.Given as goal

abbrev pub ghost-try_all : goal.ghost-try_all
ghost-try_all g a = carried a.frame.now
