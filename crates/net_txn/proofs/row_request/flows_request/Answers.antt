use Rattle.std.proofs.Common.{◌≡◌, ℕ, List, length, refl, ap, arith}
use Rattle.std.proofs.lemmas.Result.{IfOk-weaker}
use Rattle.of_wire.specs.declared.message.Message.TheVariants.{StatsRequest}
use Rattle.of_wire.specs.Spelling.{message_size}
use Rattle.of_wire.specs.Grammar.{IsMessage}
use Rattle.of_wire.specs.laws.ReadingLaws.{reading_of-message_bytes}
use Rattle.net_txn.proofs.row_request.flows_request.Goals as goal

a_message : (body : List ℕ) → length body ≡ 44 → IsMessage (StatsRequest (record { kind = 1; flags = 0; body = body }))
unfolding message_size
a_message body len = record { fields = (omega arith, (omega arith, tt)); tail = tt; size = omega (arith, len) }

pub returns-clause-read : goal.returns-clause-read
returns-clause-read c =
    IfOk-weaker c.encode.result _ _ (λ b is. rw (is, reading_of-message_bytes c.args.xid (StatsRequest (record { kind = 1; flags = 0; body = c.in_ok-body.body })) (omega arith) (a_message c.in_ok-body.body (omega (arith, ap (length) c.in_ok-body.ensures)))) refl) c.encode.ensures
