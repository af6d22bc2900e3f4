use Rattle.frame_votes.specs.laws.VoteLaws.{two_gave}
use Rattle.frame_votes.proofs.laws.two_gave_it.Goals as goal

pub returns : goal.returns
returns c = two_gave
