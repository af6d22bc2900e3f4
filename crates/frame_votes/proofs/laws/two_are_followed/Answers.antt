use Rattle.frame_votes.specs.laws.VoteLaws.{two_are_voted}
use Rattle.frame_votes.proofs.laws.two_are_followed.Goals as goal

pub returns : goal.returns
returns c = two_are_voted
