-- What a message on a connection is to a live world. Our own choice but for the messages of OpenFlow 1.0.0.
use Rattle.std.specs.Prelude.{ℕ, Bool, ◌&&◌, ◌||◌, ◌==◌, List, length, Result, Ok, Err, IsOk, if◌then◌else◌, nat_lt, nat_le}
use Rattle.of_types.specs.Fields.{number_at}
use Rattle.of_wire.specs.declared.message.Envelope.{Envelope}
use Rattle.of_wire.specs.declared.message.Message.{Message}
use Rattle.of_wire.specs.declared.message.Message.TheVariants.{FeaturesReply}
use Rattle.of_wire.specs.declared.fault.WireFault.{WireFault}
use Rattle.of_wire.specs.Reading.{reading_of}
use Rattle.live_world.specs.declared.hearing.Greeting.{Greeting}
use Rattle.live_world.specs.declared.hearing.Greeting.TheVariants as greetings
use Rattle.live_world.specs.declared.hearing.Hearing.{Hearing}
use Rattle.live_world.specs.declared.hearing.Hearing.TheVariants as hearings

-- a HELLO (type 0) of a version above 1, to which this side's own HELLO is the answer (5.5.1 Hello)
abbrev pub is_later_hello : List ℕ → Bool
is_later_hello frame = nat_le 8 (length frame) && nat_lt 1 (number_at 1 0 frame) && (number_at 1 1 frame == 0)

-- an ECHO_REPLY (type 3, 5.5.3 Echo Reply) without a payload and with xid 0
abbrev pub is_own_echo : List ℕ → Bool
is_own_echo frame = (length frame == 8) && (number_at 1 1 frame == 3) && (number_at 4 4 frame == 0)

-- an ECHO_REQUEST of version 1 (type 2, 5.5.2 Echo Request)
abbrev pub is_echo_request : List ℕ → Bool
is_echo_request frame = nat_le 8 (length frame) && (number_at 1 0 frame == 1) && (number_at 1 1 frame == 2)

-- the types of messages that answer a request: ERROR, ECHO_REPLY, FEATURES_REPLY, GET_CONFIG_REPLY, STATS_REPLY, BARRIER_REPLY and
-- QUEUE_GET_CONFIG_REPLY (5.1 OpenFlow Header); all others a switch says by itself
abbrev pub answers_request : ℕ → Bool
answers_request kind =
    (kind == 1) || (kind == 3) || (kind == 6) || (kind == 8) || (kind == 17) || (kind == 19) || (kind == 21)

abbrev greeting_in : Message → Greeting
greeting_in (FeaturesReply features) = greetings.Features features.dpid
greeting_in other = greetings.Passed

abbrev greeting_read : Result Envelope WireFault → Greeting
greeting_read (Ok envelope) = greeting_in envelope.message
greeting_read (Err fault) = greetings.Refused

-- before the FEATURES_REPLY (5.3.1 Handshake): it alone matters, but bytes that are no message are refused
abbrev pub greeting_of : List ℕ → Greeting
greeting_of frame = if is_later_hello frame then greetings.Passed else greeting_read (reading_of frame)

-- what a message is
abbrev pub sort_of : List ℕ → Hearing
sort_of frame =
    if is_own_echo frame || is_echo_request frame then hearings.Passed else
    if nat_le 8 (length frame) && answers_request (number_at 1 1 frame) then hearings.Reply else hearings.Told

abbrev hearing_read : List ℕ → Result Envelope WireFault → Hearing
hearing_read frame (Ok envelope) = sort_of frame
hearing_read frame (Err fault) = hearings.Refused

-- after it: ECHO_REQUESTs and the answer to a question of the live world's own are passed over
abbrev pub hearing_of : List ℕ → Hearing
hearing_of frame = hearing_read frame (reading_of frame)

-- all but what is refused is a message
abbrev pub IsHearingRead : Hearing → List ℕ → Type 0
IsHearingRead hearings.Refused frame = Unit {0}
IsHearingRead other frame = IsOk (reading_of frame)
