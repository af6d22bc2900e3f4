-- A change as it is sent is a message, and is read again.
use Rattle.std.specs.Prelude.{◌≡◌, ℕ, ◌^◌, ◌<◌, Ok}
use Rattle.std.proofs.Common.{arith}
use Rattle.of_wire.specs.declared.bodies.FlowMod.{FlowMod as Change}
use Rattle.of_wire.specs.declared.message.Message.TheVariants.{FlowMod}
use Rattle.of_wire.specs.Reading.{reading_of}
use Rattle.of_wire.specs.Spelling.{message_size, message_bytes}
use Rattle.of_wire.specs.Grammar.{IsMessage, enveloped}
use Rattle.of_wire.specs.laws.ReadingLaws.{reading_of-message_bytes}
use Rattle.lego_model.specs.Answers.{as_sent}

pub IsMessage-as_sent : (m : Change) → IsMessage (FlowMod m) → IsMessage (as_sent (FlowMod m))
unfolding message_size
IsMessage-as_sent m is = record {
  fields =
      let f = is.fields in
      let flags = f.1.1.1.1.1.1.1.0 in
      (f.0, (f.1.0, (f.1.1.0, (f.1.1.1.0, (f.1.1.1.1.0, (omega arith, (f.1.1.1.1.1.1.0, (omega (arith, flags), tt))))))));
  tail = is.tail;
  size = is.size;
}

pub reading_of-as_sent : (xid : ℕ) (m : Change) → xid < 2 ^ 32 → IsMessage (FlowMod m) → reading_of (message_bytes xid (as_sent (FlowMod m))) ≡ Ok (enveloped xid (as_sent (FlowMod m)))
reading_of-as_sent xid m lt is = reading_of-message_bytes xid (as_sent (FlowMod m)) lt (IsMessage-as_sent m is)
