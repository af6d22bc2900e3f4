use Rattle.app_visor.specs.laws.ReadTurnLaws.{turn_told}
use Rattle.app_visor.proofs.laws.turns_are_told.Goals as goal

pub returns : goal.returns
returns g c = λ accepts app budget rest frame unread old new net now_net end t tells event stood. turn_told t tells event stood
