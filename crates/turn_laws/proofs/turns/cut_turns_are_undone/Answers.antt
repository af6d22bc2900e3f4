use Rattle.lego_model.specs.laws.CutTurnLaws.{cut_undone}
use Rattle.turn_laws.proofs.turns.cut_turns_are_undone.Goals as goal

pub returns : goal.returns
returns g c = λ app budget old new. cut_undone app budget (Unit {0}) old new
