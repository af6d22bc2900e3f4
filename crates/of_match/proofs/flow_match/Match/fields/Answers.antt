use Rattle.of_match.specs.laws.FieldsLaws.{fields_within}
use Rattle.of_match.proofs.flow_match.Match.fields.Goals as goal

pub returns-clause-within : goal.returns-clause-within
returns-clause-within c = rw c.read_fields.ensures (fields_within c.args.self.now.bytes)
