-- What a journal tells: what happened, what each application was given and gave, what was released, which switches were lost, and that a
-- change and its barrier stand between two frames to an application. All of this is our own.
use Rattle.std.specs.Prelude.{◌≡◌, ◌==◌, ℕ, ◌<◌, Bool, true, false, List, [], ◌∷◌, length, filter, filter_map, Option, Some, None, Result, Ok, Err, if◌then◌else◌, slice_index, slice_get}
use Rattle.of_types.specs.declared.journal.Act.{Act}
use Rattle.of_types.specs.declared.journal.Act.TheVariants.{Started, Gave, Gone, Took, Ended, Sent, Got, Lost}
use Rattle.of_types.specs.declared.journal.TookWhat.TheVariants.{Bytes, Closed, Silent}
use Rattle.of_wire.specs.declared.message.Message.{Message}
use Rattle.of_wire.specs.declared.message.Message.TheVariants.{PacketOut, FlowMod, PortMod, SetConfig, BarrierRequest, BarrierReply}
use Rattle.of_wire.specs.declared.message.Envelope.{Envelope}
use Rattle.of_wire.specs.declared.bodies.PacketOut.{PacketOut as Packet}
use Rattle.of_wire.specs.declared.fault.WireFault.{WireFault}
use Rattle.of_wire.specs.Reading.{reading_of}
use Rattle.of_wire.specs.Spelling.{message_bytes}
unfoldable pub use Rattle.outside.specs.Stimuli.{stimuli}

abbrev pub Journal : Type 0
Journal = List Act

-- ---- What an application was given

abbrev pub given_to : ℕ → Act → Option (List ℕ)
given_to app (Gave to bytes) = if to == app then Some bytes else None
given_to app other = None

-- the application was given the bytes, or was gone before
abbrev pub give_act : Bool → ℕ → List ℕ → Act
give_act given app bytes = if given then Gave app bytes else Gone app bytes

unfoldable pub inputs : ℕ → Journal → List (List ℕ)
inputs app journal = filter_map (given_to app) journal

-- ---- The packets that were released (OpenFlow 1.0.0, 5.3.6 Send Packet Message), each with its switch

abbrev pub packet_in : ℕ → Message → Option (ℕ × Packet)
packet_in dpid (PacketOut packet) = Some (dpid, packet)
packet_in dpid other = None

abbrev pub packet_read : ℕ → Result Envelope WireFault → Option (ℕ × Packet)
packet_read dpid (Ok envelope) = packet_in dpid envelope.message
packet_read dpid (Err fault) = None

abbrev pub released_in : Act → Option (ℕ × Packet)
released_in (Sent dpid bytes) = packet_read dpid (reading_of bytes)
released_in other = None

unfoldable pub released : Journal → List (ℕ × Packet)
released journal = filter_map released_in journal

-- ---- The switches that were lost

abbrev pub lost_in : Act → Option ℕ
lost_in (Lost dpid) = Some dpid
lost_in other = None

unfoldable pub losses : Journal → List ℕ
losses journal = filter_map lost_in journal

-- ---- Attempts to start an application: each with whether it stands, and the acts of the application up to the next attempt

pub record Attempt : Type 0 where
  pub stands : Bool
  pub acts : List Act

abbrev pub is_of : ℕ → Act → Bool
is_of app (Started of stands) = of == app
is_of app (Gave of bytes) = of == app
is_of app (Gone of bytes) = of == app
is_of app (Took of what) = of == app
is_of app (Ended of) = of == app
is_of app other = false

-- the acts before the first attempt, and the attempts
abbrev pub in_attempts : List Act → List Act × List Attempt
in_attempts [] = ([], [])
in_attempts (Started app stands ∷ acts) = let rest = in_attempts acts in ([], record { stands = stands; acts = rest.0 } ∷ rest.1)
in_attempts (act ∷ acts) = let rest = in_attempts acts in (act ∷ rest.0, rest.1)

-- ---- The turns of an attempt that stands: what follows each Event that was given, or could not be given

-- an Event frame: its kind is 2
abbrev pub is_event : List ℕ → Bool
is_event frame = slice_index frame 4 == 2

pub record Asked : Type 0 where
  -- whether the Event could be given
  pub given : Bool
  pub acts : List Act

-- the acts of the start, and the turns
abbrev pub in_turns : List Act → List Act × List Asked
in_turns [] = ([], [])
in_turns (Gave app bytes ∷ acts) =
    let rest = in_turns acts in
    if is_event bytes then ([], record { given = true; acts = rest.0 } ∷ rest.1) else (Gave app bytes ∷ rest.0, rest.1)
in_turns (Gone app bytes ∷ acts) =
    let rest = in_turns acts in
    if is_event bytes then ([], record { given = false; acts = rest.0 } ∷ rest.1) else (Gone app bytes ∷ rest.0, rest.1)
in_turns (act ∷ acts) = let rest = in_turns acts in (act ∷ rest.0, rest.1)

-- ---- What an application gave

abbrev pub piece_of : Act → Option (List ℕ)
piece_of (Took app (Bytes bytes)) = Some bytes
piece_of other = None

abbrev pub pieces : List Act → List (List ℕ)
pieces acts = filter_map piece_of acts

-- how its bytes end: it closed its end, it was silent, or neither was told
pub data End : Type 0 where
  Closes : End
  Stalls : End
  Untold : End

abbrev pub end_by : End → Act → End
end_by before (Took app (Bytes bytes)) = Untold
end_by before (Took app Closed) = Closes
end_by before (Took app Silent) = Stalls
end_by before other = before

-- by the last of the acts that took
abbrev pub end_from : End → List Act → End
end_from before [] = before
end_from before (act ∷ acts) = end_from (end_by before act) acts

abbrev pub gave : Act → Bool
gave (Gave app bytes) = true
gave other = false

abbrev pub was_gone : Act → Bool
was_gone (Gone app bytes) = true
was_gone other = false

abbrev pub any_gone : List Act → Bool
any_gone [] = false
any_gone (act ∷ acts) = if was_gone act then true else any_gone acts

-- how many Answers could be given; without bound where none was refused
abbrev pub answers_given : List Act → Option ℕ
answers_given acts = if any_gone acts then Some (length (filter gave acts)) else None

pub record Reply : Type 0 where
  -- whether the Event could be given
  pub given : Bool
  pub pieces : List (List ℕ)
  pub answers : Option ℕ
  pub end : End

-- an application to which the Event could not be given has closed its end
unfoldable pub reply_of : Asked → Reply
reply_of turn =
    if turn.given then record { given = true; pieces = pieces turn.acts; answers = answers_given turn.acts; end = end_from Untold turn.acts }
    else record { given = false; pieces = []; answers = None; end = Closes }

-- a start: whether it stands, whether Restore could be given, and what the application gave then
pub record Start : Type 0 where
  pub stands : Bool
  pub restored : Bool
  pub pieces : List (List ℕ)
  pub end : End

unfoldable pub start_of : Attempt → Start
start_of attempt =
    let acts = (in_turns attempt.acts).0 in
    record { stands = attempt.stands; restored = if any_gone acts then false else true; pieces = pieces acts; end = end_from Untold acts }

-- ---- A change reached its switch: between two frames to an application stand the change, a barrier, and the barrier's reply,
-- and no other change is sent there (OpenFlow 1.0.0, 4.2 Message Handling and 5.3.7 Barrier Message).

abbrev pub is_change : Message → Bool
is_change (FlowMod m) = true
is_change (PortMod m) = true
is_change (SetConfig m) = true
is_change other = false

abbrev pub change_read : Result Envelope WireFault → Bool
change_read (Ok envelope) = is_change envelope.message
change_read (Err fault) = false

abbrev pub sends_change : Act → Bool
sends_change (Sent dpid bytes) = change_read (reading_of bytes)
sends_change other = false

pub record ReachedAtOnce (dpid : ℕ) (change : Message) (acts : List Act) : Type 0 where
  -- the transaction ids of the change and of the barrier
  pub xid : ℕ
  pub barrier : ℕ
  -- where the three acts stand
  pub sent : ℕ
  pub asked : ℕ
  pub told : ℕ
  pub change_sent : slice_get acts sent ≡ Some (Sent dpid (message_bytes xid change))
  pub barrier_sent : slice_get acts asked ≡ Some (Sent dpid (message_bytes barrier BarrierRequest))
  pub reply_got : slice_get acts told ≡ Some (Got dpid (message_bytes barrier BarrierReply))
  pub in_order : (sent < asked) × (asked < told)
  pub alone : length (filter sends_change acts) ≡ 1
