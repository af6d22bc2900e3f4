-- What `commit` does: the changes of the transaction stay, and each packet that was held goes to its switch, in order, with a barrier behind it
-- (OpenFlow 1.0.0, 5.3.6 Send Packet Message and 5.3.7 Barrier Message). What comes meanwhile becomes events, an ERROR too. All else is our own.
use Rattle.std.specs.Prelude.{◌≡◌, ◌≢◌, ◌⊎◌, ℕ, ◌^◌, ◌<◌, ◌≤◌, true, false, not, ◌&&◌, List, [], ◌∷◌, ◌++◌, length, map, filter, take, Some, Result, Ok, Err, IsOk, MatchResult}
use Rattle.std.specs.Option.{option_map}
use Rattle.of_types.specs.declared.journal.Act.TheVariants.{Sent}
use Rattle.of_wire.specs.declared.bodies.PacketOut.{PacketOut as Packet}
use Rattle.of_wire.specs.declared.message.Message.TheVariants.{PacketOut}
use Rattle.of_wire.specs.declared.message.Envelope.{Envelope}
use Rattle.of_wire.specs.declared.fault.WireFault.{WireFault}
use Rattle.of_wire.specs.Reading.{reading_of}
use Rattle.of_wire.specs.Spelling.{message_bytes}
use Rattle.of_wire.specs.Grammar.{IsMessage}
use Rattle.flow_table.specs.Switch.{SwitchState}
use Rattle.flow_table.specs.Step.{after_message, sent_by_message}
use Rattle.app_frames.specs.declared.frame.Event.{Event}
use Rattle.outside.specs.declared.step.WorldStep.{WorldStep}
use Rattle.outside.specs.declared.step.WorldStep.TheVariants.{Acted}
use Rattle.outside.specs.Seen.{Seen, Continues, journal}
use Rattle.outside.specs.State.{state, switch_of, waits_of}
use Rattle.outside.specs.Conforming.{Conforming}
use Rattle.outside.specs.InOrder.{InOrder, MessagesSince}
use Rattle.lego_model.specs.declared.fault.TxnFault.{TxnFault}
use Rattle.lego_model.specs.declared.fault.TxnFault.TheVariants.{SwitchBroke, Diverged, Flooded, NoMemory}
use Rattle.lego_model.specs.BarrierWaits.{barrier_sent, flood, next_xid}
use Rattle.lego_model.specs.Journal.{released, losses}
use Rattle.lego_model.specs.Packets.{Held, nothing_held}
use Rattle.lego_model.specs.Controller.{events_of}
use Rattle.lego_model.specs.AfterFault.{after_packets}
use Rattle.lego_model.specs.OwnIds.{IsShortRun, OwnIdsAscend, OwnIdsSoFar}
use Rattle.net_txn.specs.LinkSteps.{OnLinks, MakesNoStrayCall}
use Rattle.net_txn.specs.Causes.{IsCause, IsPlain}
use Rattle.net_txn.specs.Losing.{IsLost, lost_net}
use Rattle.of_types.specs.Membership.{is_among}
use Rattle.lego_model.specs.History.{lost_of}
use Rattle.net_txn.specs.Waits.{Brought, Waits, IfFlooded}
use Rattle.net_txn.specs.Views.{is_viewed}
use Rattle.net_txn.specs.Arriving.{event_of, net_after}
use Rattle.net_txn.specs.Undos.{AreJoined, Undoes}
use Rattle.net_txn.specs.Net.{NetState}
use Rattle.lego_model.specs.FlowQueries.{asked_from}
use Rattle.lego_model.specs.Events.{event_list}

-- ---- One packet

-- The packet is sent, and then a barrier, whose reply alone is awaited: an ERROR for the packet is taken as any other message.
abbrev pub packet_steps : ℕ → ℕ → Packet → List WorldStep
packet_steps d xid packet = Acted (Sent d (message_bytes xid (PacketOut packet))) ∷ barrier_sent (asked_from d xid) ∷ []

-- what the host knows, and the events that wait
abbrev pub Knows : Type 0
Knows = NetState × List Event

abbrev pub takes_read : ℕ → Result Envelope WireFault → Knows → Knows
takes_read d (Ok e) k = (net_after d e.message k.0, k.1 ++ event_list (event_of d k.0.views e.message))
takes_read d (Err fault) k = k

-- messages that came are taken one after the other, as if they came of themselves
abbrev pub takes_all : List (ℕ × List ℕ) → Knows → Knows
takes_all [] k = k
takes_all (m ∷ more) k = takes_all more (takes_read m.0 (reading_of m.1) k)

-- Where the world keeps its word and nothing of the switch waited, it moves as by the packet alone, what it sends then becomes events, and
-- nothing of it waits. No other switch moves, and nothing else changes of what the host keeps but the transaction id.
pub record PacketInStep {Own : Type 0} (d : ℕ) (packet : Packet) (s : SwitchState) (old new : Seen Own) (net now_net : NetState) (queue now_queue : List Event) : Type 0 where
  pub moved : switch_of d (state new) ≡ Some (after_message (PacketOut packet) s)
  pub waits : waits_of d (state new) ≡ []
  pub others : (e : ℕ) → e ≢ d → switch_of e (state new) ≡ switch_of e (state old)
  pub others_wait : (e : ℕ) → e ≢ d → waits_of e (state new) ≡ waits_of e (state old)
  pub net_is : now_net ≡ record net { xid = now_net.xid }
  pub queue_is : now_queue ≡ queue ++ events_of d (sent_by_message 0 (PacketOut packet) s)

-- The history goes on by steps that release these packets and lose no switch, and each switch moves by those that are sent to it, and by
-- nothing else.
pub record MovesBy {Own : Type 0} (packets : List Held) (old new : Seen Own) : Type 0 where
  pub steps : List WorldStep
  pub history : new.history ≡ old.history ++ steps
  pub released_is : released (journal steps) ≡ packets
  pub unlost : losses (journal steps) ≡ []
  pub moved : (e : ℕ) → switch_of e (state new) ≡ option_map (after_packets e packets) (switch_of e (state old))

-- It was sent, and then a barrier, and its reply came; what came before it was taken.
pub record SendsPacket {Own : Type 0} (Tells : Type 0) (held : Held) (old new : Seen Own) (net now_net : NetState) (queue now_queue : List Event) : Type 0 where
  pub continues : Continues Tells old new
  pub message : IsMessage (PacketOut held.1)
  pub is_xid : (1 ≤ net.xid) × (net.xid < 2 ^ 32)
  pub came : List (ℕ × List ℕ)
  pub brought : Brought
  pub waits : Waits Tells (asked_from held.0 net.xid) (packet_steps held.0 net.xid held.1) old new [] came brought
  pub taken : (now_net, now_queue) ≡ takes_all came (record net { xid = next_xid (next_xid net.xid) }, queue)
  pub moves : Tells → MovesBy (held ∷ []) old new
  pub in_step : (s : SwitchState) → Tells → Conforming new → switch_of held.0 (state old) ≡ Some s → waits_of held.0 (state old) ≡ []
      → PacketInStep held.0 held.1 s old new net now_net queue now_queue

-- where its switch is not joined nothing is done
pub record PassesOver {Own : Type 0} (held : Held) (old new : Seen Own) (net now_net : NetState) (queue now_queue : List Event) : Type 0 where
  pub unviewed : is_viewed held.0 net.views ≡ false
  pub seen : new ≡ old
  pub net_is : now_net ≡ net
  pub queue_is : now_queue ≡ queue

-- Its switch was lost, before the packet was sent, or behind it: nothing of it becomes an event, and nothing else changes of what the host keeps
-- but the transaction id.
pub record LosesPacket {Own : Type 0} (Tells : Type 0) (sent : List Held) (held : Held) (old new : Seen Own) (net now_net : NetState) (queue now_queue : List Event) : Type 0 where
  pub continues : Continues Tells old new
  pub viewed : is_viewed held.0 net.views ≡ true
  pub is_lost : IsLost Tells held.0 sent old new
  pub net_is : now_net ≡ record (lost_net held.0 net) { xid = now_net.xid }
  pub queue_is : now_queue ≡ queue

-- what becomes of one packet, with the packets that were sent: itself, or none
abbrev pub ReleasesOne : {Own : Type 0} → Type 0 → Held → List Held → Seen Own → Seen Own → NetState → NetState → List Event → List Event → Type 0
ReleasesOne Tells held sent old new net now_net queue now_queue =
    ((sent ≡ held ∷ []) × (is_viewed held.0 net.views ≡ true) × SendsPacket Tells held old new net now_net queue now_queue)
    ⊎ ((sent ≡ []) × PassesOver held old new net now_net queue now_queue)
    ⊎ ((sent ≡ []) × LosesPacket Tells [] held old new net now_net queue now_queue)
    ⊎ ((sent ≡ held ∷ []) × LosesPacket Tells (held ∷ []) held old new net now_net queue now_queue)

-- all of them, in order
abbrev pub ReleasesAll : {Own : Type 0} → Type 0 → List Held → List Held → Seen Own → Seen Own → NetState → NetState → List Event → List Event → Type 0
ReleasesAll Tells [] sent old new net now_net queue now_queue = (sent ≡ []) × (new ≡ old) × (now_net ≡ net) × (now_queue ≡ queue)
ReleasesAll Tells (held ∷ more) sent old new net now_net queue now_queue =
    (first : List Held) × ((later : List Held) × ((sent ≡ first ++ later)
    × ((mid : Seen _) × ((mid_net : NetState) × ((mid_queue : List Event)
    × (ReleasesOne Tells held first old mid net mid_net queue mid_queue × ReleasesAll Tells more later mid new mid_net now_net mid_queue now_queue))))))

-- the packet made more messages than a wait takes
abbrev pub IsFloodBy : Held → SwitchState → TxnFault → Type 0
IsFloodBy held s (Flooded of n) = (of ≡ held.0) × (n ≡ flood) × (flood ≤ length (sent_by_message 0 (PacketOut held.1) s))
IsFloodBy held s (SwitchBroke of bytes) = ⊥
IsFloodBy held s (Diverged of sent got) = ⊥
IsFloodBy held s NoMemory = ⊥

-- ---- A packet that could not be sent, or whose barrier was not answered, or memory was wanting for what came

pub record BreaksAt {Own : Type 0} (Tells : Type 0) (held : Held) (old new : Seen Own) (net : NetState) (fault : TxnFault) : Type 0 where
  pub viewed : is_viewed held.0 net.views ≡ true
  pub cause : IsCause Tells held.0 old new fault
  pub flooded : IfFlooded Tells (asked_from held.0 net.xid) (packet_steps held.0 net.xid held.1) old new fault
  -- the packet was sent, or nothing
  pub packets : List Held
  pub at_most : (packets ≡ []) ⊎ (packets ≡ held ∷ [])
  pub moves : Tells → MovesBy packets old new
  -- its first call leaves a step, unless the world's own memory is wanting
  pub begun : Tells → new.history ≡ old.history → fault ≡ NoMemory
  pub plain : (s : SwitchState) → Tells → Conforming new → switch_of held.0 (state old) ≡ Some s → waits_of held.0 (state old) ≡ [] → IsPlain fault ⊎ IsFloodBy held s fault

-- ---- The whole

-- what the transaction keeps: its changes stay, and nothing is held any more
abbrev pub committed : ℕ → NetState → NetState
committed start net = record net { log = take start net.log; held = nothing_held }

-- The notices that were held became events, and then each packet was released that was sent, and is answered with how many bytes it has.
pub record Released {Own : Type 0} (Tells : Type 0) (start : ℕ) (old new : Seen Own) (net now_net : NetState) (queue now_queue : List Event) (answer : List (ℕ × ℕ)) : Type 0 where
  pub sent : List Held
  pub all : ReleasesAll Tells net.held.packets sent old new (committed start net) now_net (queue ++ net.held.notices) now_queue
  pub answer_is : answer ≡ map (λ h. (h.0, length h.1.payload)) sent

-- the release stopped behind some packets
pub record StopsRelease {Own : Type 0} (Tells : Type 0) (start : ℕ) (old new : Seen Own) (net : NetState) (queue : List Event) (fault : TxnFault) : Type 0 where
  pub front : List Held
  pub broken : Held
  pub rest : List Held
  pub held_is : net.held.packets ≡ front ++ broken ∷ rest
  pub sent : List Held
  pub mid : Seen Own
  pub mid_net : NetState
  pub mid_queue : List Event
  pub before : ReleasesAll Tells front sent old mid (committed start net) mid_net (queue ++ net.held.notices) mid_queue
  pub breaks : BreaksAt Tells broken mid new mid_net fault

-- no memory was left before the release, and the transaction was undone
pub record UndoneForMemory {Own : Type 0} (Tells : Type 0) (start : ℕ) (old new : Seen Own) (net now_net : NetState) (queue now_queue : List Event) (fault : TxnFault) : Type 0 where
  pub fault_is : fault ≡ NoMemory
  pub result : Result (Unit {0}) TxnFault
  pub undoes : Undoes Tells start old new net now_net result
  pub queue_is : now_queue ≡ queue

-- Its changes stay, and what was held is released; or the release stopped, and its changes stay all the same; or no memory was left before it,
-- and it was undone. It goes on past the loss of a switch with the others. The calls are those of links alone, and in place where the world tells
-- in order and each switch that has a view is joined.
pub record Commits {Own : Type 0} (Tells : Type 0) (start : ℕ) (old new : Seen Own) (net now_net : NetState) (queue now_queue : List Event) (result : Result (List (ℕ × ℕ)) TxnFault) : Type 0 where
  pub continues : Continues Tells old new
  pub links : OnLinks Tells old new
  pub no_strays : Tells → InOrder new → AreJoined net.views (state old) → MakesNoStrayCall old new
  pub read : IsOk result → Tells → MessagesSince old new
  -- the ids of its own messages ascend still
  pub ids : Tells → IsShortRun new → AreJoined net.views (state old) → OwnIdsSoFar 0 old net.xid → OwnIdsAscend new × (IsOk result → OwnIdsSoFar 0 new now_net.xid)
  -- the switches that were lost, in order
  pub lost : List ℕ
  pub losses : Tells → AreJoined net.views (state old) → lost_of new ≡ lost_of old ++ lost
  pub moment : now_net.moment ≡ net.moment
  pub room : IsOk result → now_net.room ≡ net.room
  pub kept : IsOk result → now_net.kept ≡ filter (λ m. not (is_among m.0 lost)) net.kept
  pub switches : (e : ℕ) → is_viewed e now_net.views ≡ (is_viewed e net.views && not (is_among e lost))
  pub ended : MatchResult result (Released Tells start old new net now_net queue now_queue)
      (λ fault. UndoneForMemory Tells start old new net now_net queue now_queue fault ⊎ StopsRelease Tells start old new net queue fault)
