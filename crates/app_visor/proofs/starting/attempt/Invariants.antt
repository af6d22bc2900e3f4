use Rattle.app_visor.proofs.starting.attempt.Given as goal

abbrev pub ghost-greet : goal.ghost-greet
ghost-greet g a = g.kept
