use Rattle.app_visor.proofs.laws.turns_are_dialogues.Goals as goal

pub returns : goal.returns
returns g c = λ accepts app budget rest frame unread old new net now_net end s t tells event runs passes. t.speaks tells event s runs passes
