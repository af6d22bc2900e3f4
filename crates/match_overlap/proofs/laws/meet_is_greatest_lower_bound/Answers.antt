use Rattle.match_overlap.specs.laws.RelationsLaws.{IsMeet-left, IsMeet-right, IsMeet-greatest, IsMeet-unique}
use Rattle.match_overlap.proofs.laws.meet_is_greatest_lower_bound.Goals as goal

pub returns : goal.returns
returns c = record { lower_left = IsMeet-left; lower_right = IsMeet-right; greatest = IsMeet-greatest; one = IsMeet-unique }
