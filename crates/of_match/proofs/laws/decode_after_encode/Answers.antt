use Rattle.of_match.specs.laws.MatchLaws.{match_of-bytes_of}
use Rattle.of_match.proofs.laws.decode_after_encode.Goals as goal

pub returns : goal.returns
returns c = match_of-bytes_of
