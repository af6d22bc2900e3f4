-- What the messages of an application are played on in a turn: the switches, and what is held until the turn completes: the packets that it sends
-- (OpenFlow 1.0.0, 5.3.6 Send Packet Message), and the notices of the entries that its changes remove (5.4.2 Flow Removed Message). A switch that
-- is lost at a message goes out. All but packets and notices is our own choice.
use Rattle.std.specs.Prelude.{ℕ, Bool, true, List, [], ◌∷◌, ◌++◌, map, fold, drop, Option, Some, None, Result, Ok, Err}
use Rattle.of_types.specs.declared.errors.OfError.{OfError}
use Rattle.of_wire.specs.declared.bodies.FlowMod.{FlowMod as Change}
use Rattle.of_wire.specs.declared.bodies.PacketOut.{PacketOut as Packet}
use Rattle.of_wire.specs.declared.message.Message.{Message}
use Rattle.of_wire.specs.declared.message.Message.TheVariants.{FlowMod}
use Rattle.of_wire.specs.declared.message.Envelope.{Envelope}
use Rattle.of_wire.specs.declared.fault.WireFault.{WireFault}
use Rattle.of_wire.specs.Reading.{reading_of}
use Rattle.app_frames.specs.declared.frame.Answer.{Answer}
use Rattle.app_frames.specs.declared.frame.Answer.TheVariants.{Fine, Unknown}
use Rattle.app_frames.specs.declared.frame.Event.{Event}
use Rattle.flow_table.specs.Switch.{SwitchState}
use Rattle.flow_table.specs.Change.{notices_of}
use Rattle.flow_table.specs.Refusals.{message_refusal}
use Rattle.lego_model.specs.Journal.{packet_read}
use Rattle.lego_model.specs.Answers.{host_answer}
use Rattle.lego_model.specs.Places.{Place, switch_at, with_place, rows_at, answer, undone_places}
use Rattle.lego_model.specs.Losses.{TurnLosses, next_flag, next_undo}
use Rattle.lego_model.specs.Events.{notice_event, leave_event}

-- ---- What is held

-- a packet with the number of its switch
abbrev pub Held : Type 0
Held = ℕ × Packet

-- the packets, and the notices, each in order
pub record HeldBack : Type 0 where
  pub packets : List Held
  pub notices : List Event

abbrev pub nothing_held : HeldBack
nothing_held = record { packets = []; notices = [] }

abbrev pub with_held : HeldBack → List Held → List Event → HeldBack
with_held h packets notices = record { packets = h.packets ++ packets; notices = h.notices ++ notices }

abbrev pub held_of : Option Held → List Held
held_of None = []
held_of (Some packet) = packet ∷ []

-- a message holds a packet where it is one and its answer is Fine
unfoldable pub holds : ℕ → List ℕ → Answer → List Held
holds dpid bytes Fine = held_of (packet_read dpid (reading_of bytes))
holds dpid bytes other = []

-- A change that its switch takes holds its notices: of each entry that it removes and whose owner asked for one.
abbrev pub notices_unless : Option OfError → ℕ → Change → SwitchState → List Event
notices_unless (Some e) dpid m s = []
notices_unless None dpid m s = map (notice_event dpid) (notices_of s.moment m s.table.entries)

abbrev pub notices_by : ℕ → Message → SwitchState → List Event
notices_by dpid (FlowMod m) s = notices_unless (message_refusal s (FlowMod m)) dpid m s
notices_by dpid other s = []

abbrev pub notices_sent : ℕ → Result Envelope WireFault → Option SwitchState → List Event
notices_sent dpid (Ok e) (Some s) = notices_by dpid e.message s
notices_sent dpid (Ok e) None = []
notices_sent dpid (Err fault) s = []

abbrev pub notices_past : Option Answer → ℕ → Result Envelope WireFault → Option SwitchState → List Event
notices_past (Some answer) dpid reading s = []
notices_past None dpid reading s = notices_sent dpid reading s

unfoldable pub notices_at : Option SwitchState → ℕ → List ℕ → List Event
notices_at s dpid bytes = notices_past (host_answer (rows_at s) bytes) dpid (reading_of bytes) s

-- ---- What a turn is played on: the switches; what is held; whether the switch of each message to come is lost at it, and which switches are
-- lost in each undo to come that the application asks for; and the Leave events of the switches that were lost, in order

pub record Play : Type 0 where
  pub places : List Place
  pub held : HeldBack
  pub losing : List Bool
  pub inner : List (List ℕ)
  pub left : List Event

-- nothing is held, and no switch was lost
abbrev pub fresh_play : TurnLosses → List Place → Play
fresh_play losses places = record { places = places; held = nothing_held; losing = losses.messages; inner = losses.inner; left = [] }

-- ---- A message

-- a message that is answered, with no switch lost
abbrev pub play_answered : Play → ℕ → List ℕ → Answer × Play
play_answered p dpid bytes =
    let answered = answer p.places dpid bytes in
    (answered.0, record p { places = answered.1; held = with_held p.held (holds dpid bytes answered.0) (notices_at (switch_at dpid p.places) dpid bytes) })

-- its switch is lost at it
abbrev pub play_lost : Play → ℕ → SwitchState → Answer × Play
play_lost p dpid s = (Unknown, record p { places = with_place dpid (λ o. None) p.places; left = p.left ++ leave_event s ∷ [] })

abbrev pub play_at : Bool → Option SwitchState → Play → ℕ → List ℕ → Answer × Play
play_at true (Some s) p dpid bytes = play_lost p dpid s
play_at lost o p dpid bytes = play_answered p dpid bytes

-- the answer to a message of an application, and what it is played on then
unfoldable pub play : Play → ℕ → List ℕ → Answer × Play
play p dpid bytes = play_at (next_flag p.losing) (switch_at dpid p.places) (record p { losing = drop 1 p.losing }) dpid bytes

-- ---- An undo: a switch that is lost in it goes out

-- the switches, with the Leave events of those that were lost
abbrev pub lose_at : ℕ → Option SwitchState → List Place × List Event → List Place × List Event
lose_at d None r = r
lose_at d (Some s) r = (with_place d (λ o. None) r.0, r.1 ++ leave_event s ∷ [])

abbrev pub lose : List Place × List Event → ℕ → List Place × List Event
lose r d = lose_at d (switch_at d r.0) r

unfoldable pub undoing : List ℕ → List Place → List Place → List Place × List Event
undoing lost before after = fold lose (undone_places before after, []) lost

-- An undo that the application asks for gives back the earlier tables, and what was held since then is dropped.
unfoldable pub play_undo : Play → Play → Play
play_undo before p =
    let done = undoing (next_undo p.inner) before.places p.places in
    record p { places = done.0; held = before.held; inner = drop 1 p.inner; left = p.left ++ done.1 }
