-- What the host makes of a message: its own answer, a packet that is held, or a change or a request of statistics that the switch must answer.
use Rattle.std.specs.Prelude.{◌≡◌, ℕ, List, [], Some, None, Ok, Result}
use Rattle.of_wire.specs.declared.message.Message.{Message}
use Rattle.of_wire.specs.declared.message.Message.TheVariants as messages
use Rattle.of_wire.specs.Reading.{reading_of}
use Rattle.of_wire.specs.Grammar.{IsMessage}
use Rattle.of_wire.specs.declared.message.Envelope.{Envelope}
use Rattle.of_wire.specs.declared.fault.WireFault.{WireFault}
use Rattle.app_frames.specs.declared.frame.Answer.{Answer}
use Rattle.app_frames.specs.declared.frame.Answer.TheVariants.{Fine}
use Rattle.lego_model.specs.Journal.{packet_in, packet_read}
use Rattle.lego_model.specs.Packets.{Held, held_of}
use Rattle.lego_model.specs.Answers.{Rows, host_refusal, host_answer_to, refused_or, host_answer_read}
use Rattle.net_txn.specs.declared.host.HostAnswer.{HostAnswer}
use Rattle.net_txn.specs.declared.host.HostAnswer.TheVariants.{Answered, Holds, Asks, Queries}

-- the packet of a message that is answered so, where one is held
abbrev pub held_in : ℕ → Message → Answer → List Held
held_in d message Fine = held_of (packet_in d message)
held_in d message other = []

abbrev pub held_read : ℕ → Result Envelope WireFault → Answer → List Held
held_read d read Fine = held_of (packet_read d read)
held_read d read other = []

-- of a message that was read
abbrev pub IsHostAnswerOf : Rows → Message → HostAnswer → Type 0
IsHostAnswerOf rows message (Answered answer) = (refused_or (host_refusal rows message) (host_answer_to rows message) ≡ Some answer) × ((d : ℕ) → held_in d message answer ≡ [])
IsHostAnswerOf rows message (Holds packet) = (refused_or (host_refusal rows message) (host_answer_to rows message) ≡ Some Fine) × (message ≡ messages.PacketOut packet)
IsHostAnswerOf rows message (Asks m) = (refused_or (host_refusal rows message) (host_answer_to rows message) ≡ None) × (message ≡ messages.FlowMod m)
IsHostAnswerOf rows message (Queries q) = (refused_or (host_refusal rows message) (host_answer_to rows message) ≡ None) × (message ≡ messages.StatsRequest q)

-- of bytes: what is held, or is asked, was read
abbrev pub IsHostAnswer : Rows → List ℕ → HostAnswer → Type 0
IsHostAnswer rows bytes (Answered answer) = (host_answer_read rows (reading_of bytes) ≡ Some answer) × ((d : ℕ) → held_read d (reading_of bytes) answer ≡ [])
IsHostAnswer rows bytes (Holds packet) =
    (host_answer_read rows (reading_of bytes) ≡ Some Fine) × ((xid : ℕ) × (reading_of bytes ≡ Ok (record { xid = xid; message = messages.PacketOut packet }))) × IsMessage (messages.PacketOut packet)
IsHostAnswer rows bytes (Asks m) =
    (host_answer_read rows (reading_of bytes) ≡ None) × ((xid : ℕ) × (reading_of bytes ≡ Ok (record { xid = xid; message = messages.FlowMod m }))) × IsMessage (messages.FlowMod m)
IsHostAnswer rows bytes (Queries q) =
    (host_answer_read rows (reading_of bytes) ≡ None) × ((xid : ℕ) × (reading_of bytes ≡ Ok (record { xid = xid; message = messages.StatsRequest q }))) × IsMessage (messages.StatsRequest q)
