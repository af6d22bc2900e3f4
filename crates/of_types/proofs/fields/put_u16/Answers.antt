use Rattle.std.proofs.Common.{refl, arith, ◌∙◌, ap, take, ◌+◌}
use Rattle.of_types.specs.Fields.{number_bytes}
use Rattle.of_types.proofs.Writing.{put_mid-with_field, take-with_field}
use Rattle.of_types.proofs.fields.put_u16.Goals as goal

pub returns-clause-field : goal.returns-clause-field
unfolding number_bytes
returns-clause-field c = put_mid-with_field c.args.at 2 c.args.bytes.now _ (number_bytes 2 c.args.value) refl c.requires c.write_u16.ensures

pub returns-clause-front : goal.returns-clause-front
unfolding number_bytes
returns-clause-front c =
    ap (take (c.args.at + 2)) (put_mid-with_field c.args.at 2 c.args.bytes.now _ (number_bytes 2 c.args.value) refl c.requires c.write_u16.ensures)
    ∙ take-with_field c.args.at 2 c.args.bytes.now (number_bytes 2 c.args.value) refl (omega arith)
