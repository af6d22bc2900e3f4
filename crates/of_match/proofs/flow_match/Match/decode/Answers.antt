use Rattle.of_match.specs.laws.FieldsLaws.{normal_again}
use Rattle.of_match.proofs.flow_match.Match.decode.Goals as goal

pub invariant_of-result : goal.invariant_of-result
invariant_of-result c = record { normal = rw (c.write_fields.ensures.value, c.read_fields.ensures) (normal_again c.args.bytes.now) }
