use Rattle.std.proofs.Common.{refl, arith}
use Rattle.of_wire.specs.declared.message.Message.TheVariants.{SetConfig}
use Rattle.of_wire.specs.Spelling.{message_size}
use Rattle.of_wire.specs.Grammar.{IsMessage}
use Rattle.of_wire.specs.laws.ReadingLaws.{reading_of-message_bytes}
use Rattle.flow_table.specs.Switch.{first_config}
use Rattle.net_txn.proofs.greeting.configuring.Goals as goal

a_message : IsMessage (SetConfig first_config)
unfolding message_size
a_message = record { fields = (omega arith, (omega arith, tt)); tail = tt; size = omega arith }

pub returns-clause-read : goal.returns-clause-read
returns-clause-read c = rw (c.encode_into.ensures, reading_of-message_bytes c.args.xid (SetConfig first_config) (omega arith) a_message) refl
