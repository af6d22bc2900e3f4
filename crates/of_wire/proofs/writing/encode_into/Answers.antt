use Rattle.std.proofs.Common.{arith}
use Rattle.of_wire.specs.Spelling.{message_size}
use Rattle.of_wire.proofs.writing.encode_into.Goals as goal

pub put_header-requires-clause-header : goal.put_header-requires-clause-header
unfolding message_size
put_header-requires-clause-header c = omega arith
