use Rattle.std.proofs.Common.{◌≡◌, ℕ, List, Ok, ap, ◌∙◌, subst}
use Rattle.of_wire.specs.declared.message.Message.{Message}
use Rattle.of_wire.specs.declared.message.Envelope.{Envelope}
use Rattle.of_wire.specs.declared.fault.WireFault.{WireFault}
use Rattle.of_wire.specs.Reading.{reading_of}
use Rattle.of_wire.specs.Grammar.{IsMessage, enveloped}
use Rattle.std.specs.Prelude.{Result}
use Rattle.lego_model.specs.Answers.{Rows}
use Rattle.net_txn.specs.declared.host.HostAnswer.{HostAnswer}
use Rattle.net_txn.specs.declared.host.HostAnswer.TheVariants.{Answered, Holds, Asks, Queries}
use Rattle.net_txn.specs.Host.{IsHostAnswer, IsHostAnswerOf}
use Rattle.net_txn.proofs.host.answer_bytes.Goals as goal

abbrev read_as : ℕ → Message → Result Envelope WireFault
read_as xid message = Ok (enveloped xid message)

judged : (rows : Rows) (bytes : List ℕ) (e : Envelope) (j : HostAnswer) → reading_of bytes ≡ Ok e → IsMessage e.message → IsHostAnswerOf rows e.message j → IsHostAnswer rows bytes j
judged rows bytes e (Answered answer) read is h = (rw read h.0, λ d. rw read (h.1 d))
judged rows bytes e (Holds packet) read is h = (rw read h.0, (e.xid, read ∙ ap (read_as e.xid) h.1), subst IsMessage h.1 is)
judged rows bytes e (Asks m) read is h = (rw read h.0, (e.xid, read ∙ ap (read_as e.xid) h.1), subst IsMessage h.1 is)
judged rows bytes e (Queries q) read is h = (rw read h.0, (e.xid, read ∙ ap (read_as e.xid) h.1), subst IsMessage h.1 is)

pub returns-in-Ok : goal.returns-in-Ok
returns-in-Ok c = judged _ c.args.bytes.now c.in-Ok.envelope c.answer_message.result c.in-Ok.ensures.exact c.in-Ok.ensures.found.0 c.answer_message.ensures
