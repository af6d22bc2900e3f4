use Rattle.of_types.specs.laws.FieldLaws.{number_at-with_field, number_bytes-number_at}
use Rattle.of_types.proofs.fields.laws_of_fields.Goals as goal

pub returns-clause-put_is_got : goal.returns-clause-put_is_got
returns-clause-put_is_got c = number_at-with_field

pub returns-clause-got_is_there : goal.returns-clause-got_is_there
returns-clause-got_is_there c = number_bytes-number_at
