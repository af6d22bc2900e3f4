use Rattle.of_types.proofs.Writing.{number_at-byte}
use Rattle.of_types.proofs.fields.get_u8.Goals as goal

pub returns : goal.returns
returns c = number_at-byte c.args.at c.args.bytes.now
