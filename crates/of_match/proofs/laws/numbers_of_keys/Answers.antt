use Rattle.of_match.specs.laws.KeyLaws.{key_number-cmp, key_number-injective}
use Rattle.of_match.proofs.laws.numbers_of_keys.Goals as goal

pub returns : goal.returns
returns c = record { order = key_number-cmp; one = key_number-injective }
