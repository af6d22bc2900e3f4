use Rattle.std.proofs.Common.{refl, arith}
use Rattle.std.proofs.lemmas.Result.{IfOk-weaker}
use Rattle.of_wire.specs.declared.message.Message.TheVariants.{PacketOut}
use Rattle.of_wire.specs.laws.ReadingLaws.{reading_of-message_bytes}
use Rattle.net_txn.proofs.release.packet_frame.Goals as goal

pub encode-requires : goal.encode-requires
encode-requires c = let size = c.requires.size in omega (arith, size)

pub returns-clause-read : goal.returns-clause-read
returns-clause-read c = IfOk-weaker c.encode.result _ _ (λ b is. rw (is, reading_of-message_bytes c.args.xid (PacketOut c.args.packet) (omega arith) c.requires) refl) c.encode.ensures
