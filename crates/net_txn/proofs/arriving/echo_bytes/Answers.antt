use Rattle.std.proofs.Common.{ℕ, List, refl, arith}
use Rattle.std.proofs.lemmas.Result.{IfOk-weaker}
use Rattle.of_wire.specs.declared.message.Message.TheVariants.{EchoRequest, EchoReply}
use Rattle.of_wire.specs.Spelling.{message_size}
use Rattle.of_wire.specs.Grammar.{IsMessage}
use Rattle.of_wire.specs.laws.ReadingLaws.{reading_of-message_bytes}
use Rattle.net_txn.proofs.arriving.echo_bytes.Goals as goal

a_reply : (payload : List ℕ) → IsMessage (EchoRequest payload) → IsMessage (EchoReply payload)
unfolding message_size
a_reply payload is = record { fields = tt; tail = tt; size = is.size }

pub encode-requires : goal.encode-requires
encode-requires c = rw (c.in_ok-payload.ensures, c.as_slice.ensures) (let size = (a_reply c.args.payload.now c.requires).size in omega (arith, size))

pub returns-clause-read : goal.returns-clause-read
returns-clause-read c =
    IfOk-weaker c.encode.result _ _ (λ b is. rw (is, c.in_ok-payload.ensures, c.as_slice.ensures, reading_of-message_bytes c.args.xid (EchoReply c.args.payload.now) (omega arith) (a_reply c.args.payload.now c.requires)) refl) c.encode.ensures
