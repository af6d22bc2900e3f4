use Rattle.of_match.specs.laws.MatchLaws.{fields_in-within, fields_in-match_of-bytes_of}
use Rattle.of_match.proofs.laws.fields_of_matches.Goals as goal

pub returns : goal.returns
returns c = record { within = fields_in-within; all = fields_in-match_of-bytes_of }
