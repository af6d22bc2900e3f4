use Rattle.std.proofs.Common.{arith}
use Rattle.of_wire.specs.declared.message.Message.TheVariants.{FlowRemoved}
use Rattle.of_wire.specs.Grammar.{IsMessage}
use Rattle.of_wire.specs.Spelling.{message_size}
use Rattle.switch_sim.specs.laws.ReadableLaws.{IsReadable-message_bytes}
use Rattle.switch_sim.proofs.notices.spell_removed.Goals as goal

pub returns-clause-readable : goal.returns-clause-readable
unfolding message_size
returns-clause-readable c =
    let m = FlowRemoved c.args.flow in
    let is : IsMessage m = record {
      fields = (omega arith, (omega arith, (omega arith, (omega arith, (omega arith, (omega arith, (omega arith, (omega arith, tt))))))));
      tail = tt;
      size = omega arith;
    } in
    rw c.fill.ensures (IsReadable-message_bytes 0 m (omega arith) is)
