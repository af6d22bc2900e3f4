use Rattle.of_match.specs.laws.MatchLaws.{match_of-same, fields_in-injective}
use Rattle.of_match.proofs.laws.one_normal_form.Goals as goal

pub returns : goal.returns
returns c = record { bytes = match_of-same; fields = fields_in-injective }
