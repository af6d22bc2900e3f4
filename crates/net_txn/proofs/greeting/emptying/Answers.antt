use Rattle.std.proofs.Common.{refl, arith}
use Rattle.std.proofs.lemmas.Result.{IfOk-weaker}
use Rattle.of_wire.specs.declared.message.Message.TheVariants.{FlowMod}
use Rattle.of_wire.specs.Spelling.{message_size}
use Rattle.of_wire.specs.Grammar.{IsMessage}
use Rattle.of_wire.specs.laws.ReadingLaws.{reading_of-message_bytes}
use Rattle.net_txn.specs.Joining.{delete_all}
use Rattle.net_txn.proofs.greeting.emptying.Goals as goal

a_message : IsMessage (FlowMod delete_all)
unfolding message_size
a_message = record { fields = (omega arith, (omega arith, (omega arith, (omega arith, (omega arith, (omega arith, (omega arith, (omega arith, tt)))))))); tail = tt; size = omega arith }

pub returns-clause-read : goal.returns-clause-read
returns-clause-read c =
    IfOk-weaker c.encode.result _ _ (λ b is. rw (is, c.deletion_of_all.ensures, reading_of-message_bytes c.args.xid (FlowMod delete_all) (omega arith) a_message) refl) c.encode.ensures
