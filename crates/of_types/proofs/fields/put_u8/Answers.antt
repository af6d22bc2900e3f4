use Rattle.std.proofs.Common.{◌+◌, ap, take, refl, ◌∙◌, arith}
use Rattle.of_types.specs.Fields.{number_bytes}
use Rattle.of_types.proofs.Writing.{set-with_field, take-with_field}
use Rattle.of_types.proofs.fields.put_u8.Goals as goal

pub returns-clause-field : goal.returns-clause-field
returns-clause-field c = set-with_field c.args.at c.args.value c.args.bytes.now c.requires (omega arith)

pub returns-clause-front : goal.returns-clause-front
unfolding number_bytes
returns-clause-front c =
    ap (take (c.args.at + 1)) (set-with_field c.args.at c.args.value c.args.bytes.now c.requires (omega arith))
    ∙ take-with_field c.args.at 1 c.args.bytes.now (number_bytes 1 c.args.value) refl (omega arith)
