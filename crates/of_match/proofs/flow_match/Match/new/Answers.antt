use Rattle.std.proofs.Common.{ap, ◌∙◌}
use Rattle.of_match.specs.Fields.{fields_of}
use Rattle.of_match.specs.laws.FieldsLaws.{bytes_of-normal, fields_of-bytes_of_any}
use Rattle.of_match.specs.Match.{fields_in}
use Rattle.of_match.proofs.flow_match.Match.new.Goals as goal

pub invariant_of-result : goal.invariant_of-result
invariant_of-result c = record { normal = rw c.write_fields.ensures.value (bytes_of-normal c.args.fields.now c.write_fields.ensures.within c.requires) }

pub returns-clause-fields : goal.returns-clause-fields
unfolding fields_in
returns-clause-fields c = ap fields_of c.write_fields.ensures.value ∙ fields_of-bytes_of_any c.args.fields.now c.write_fields.ensures.within c.requires
