use Rattle.std.proofs.Common.{refl, arith}
use Rattle.of_wire.specs.declared.message.Message.TheVariants.{BarrierRequest}
use Rattle.of_wire.specs.Spelling.{message_size}
use Rattle.of_wire.specs.Grammar.{IsMessage}
use Rattle.of_wire.specs.laws.ReadingLaws.{reading_of-message_bytes}
use Rattle.net_txn.proofs.heard.barrier_request.Goals as goal

a_message : IsMessage BarrierRequest
unfolding message_size
a_message = record { fields = tt; tail = tt; size = omega arith }

pub returns-clause-read : goal.returns-clause-read
returns-clause-read c = rw (c.encode_into.ensures, reading_of-message_bytes c.args.xid BarrierRequest (omega arith) a_message) refl
