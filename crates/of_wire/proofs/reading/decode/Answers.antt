use Rattle.std.proofs.Common.{subst, arith}
use Rattle.of_wire.specs.Reading.{Gives}
use Rattle.of_wire.specs.laws.ReadingLaws.{reading_of-SpellMessage}
use Rattle.of_wire.specs.laws.GrammarLaws.{found_from_Gives}
use Rattle.of_wire.proofs.reading.decode.Goals as goal

pub returns-clause-found : goal.returns-clause-found
returns-clause-found c = found_from_Gives c.args.bytes.now c.envelope.result (λ i. omega (arith, c.type_inv.bytes i)) c.envelope.ensures

pub returns-clause-only : goal.returns-clause-only
returns-clause-only c = λ xid message is spelled_is.
    subst (λ read. Gives c.envelope.result read) (reading_of-SpellMessage xid message c.args.bytes.now is spelled_is) c.envelope.ensures
