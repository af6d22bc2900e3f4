use Rattle.std.proofs.Common.{refl, arith}
use Rattle.of_wire.specs.declared.message.Message.TheVariants.{FlowMod}
use Rattle.of_wire.specs.Spelling.{message_size}
use Rattle.of_wire.specs.laws.ReadingLaws.{reading_of-message_bytes}
use Rattle.lego_model.specs.UndoFaults.{delete_strict}
use Rattle.net_txn.proofs.logged.inverse_of.Goals as goal

pub returns-clause-read : goal.returns-clause-read
unfolding message_size
returns-clause-read c =
    rw (c.encode_into.ensures, c.deletion.ensures) (rw (reading_of-message_bytes c.args.xid (FlowMod (delete_strict c.args.key.now)) (omega arith) (record {
      fields = (omega arith, (omega arith, (omega arith, (omega arith, (omega arith, (omega arith, (omega arith, (omega arith, tt))))))));
      tail = tt;
      size = omega arith;
    })) refl)
