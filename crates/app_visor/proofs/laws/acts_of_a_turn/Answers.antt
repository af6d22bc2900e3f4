use Rattle.app_visor.specs.laws.JournalLaws.{chain_told}
use Rattle.app_visor.proofs.laws.acts_of_a_turn.Goals as goal

pub returns : goal.returns
returns g c = λ app trace old new net now_net tells chain. chain_told g.W.World.Tells app trace old new net now_net chain tells
