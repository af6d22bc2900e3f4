-- What the parts of a release do: one packet is sent, what came is taken, and all packets go in order. All of this is our own.
use Rattle.std.specs.Prelude.{◌≡◌, ◌⊎◌, ℕ, Bool, true, false, not, ◌&&◌, List, [], ◌∷◌, ◌++◌, length, map, filter, Result, Ok, Err, IsOk, MatchResult}
use Rattle.of_wire.specs.declared.bodies.PacketOut.{PacketOut as Packet}
use Rattle.of_wire.specs.declared.message.Message.TheVariants.{PacketOut}
use Rattle.of_wire.specs.Spelling.{message_bytes}
use Rattle.flow_table.specs.View.{TableView}
use Rattle.app_frames.specs.declared.frame.Event.{Event}
use Rattle.outside.specs.Seen.{Seen, Continues}
use Rattle.outside.specs.State.{state}
use Rattle.outside.specs.InOrder.{InOrder, MessagesSince}
use Rattle.lego_model.specs.declared.fault.TxnFault.{TxnFault}
use Rattle.lego_model.specs.declared.fault.TxnFault.TheVariants.{NoMemory}
use Rattle.lego_model.specs.declared.wait.Awaited.{Awaited}
use Rattle.lego_model.specs.History.{lost_of}
use Rattle.lego_model.specs.Packets.{Held}
use Rattle.net_txn.specs.declared.queue.Storage.TheVariants.{Growing}
use Rattle.net_txn.specs.LinkSteps.{OnLinks, MakesNoStrayCall}
use Rattle.net_txn.specs.OwnIds.{IdsGoOn, StopsIds}
use Rattle.net_txn.specs.declared.halt.Halt.{Halt}
use Rattle.net_txn.specs.declared.halt.Halt.TheVariants.{Lost, Fault}
use Rattle.net_txn.specs.Losing.{lost_net}
use Rattle.of_types.specs.Membership.{is_among}
use Rattle.net_txn.specs.Said.{Says, Calls, SaysNot, barrier_of, Replied, BreaksBy}
use Rattle.net_txn.specs.Waits.{Brought}
use Rattle.net_txn.specs.Undos.{AreJoined}
use Rattle.net_txn.specs.Views.{is_viewed}
use Rattle.net_txn.specs.Net.{NetState}
use Rattle.net_txn.specs.Releases.{takes_all, ReleasesOne, ReleasesAll, BreaksAt}
use Rattle.lego_model.specs.FlowQueries.{asked_from}

-- ---- What stays, and what is called

-- of the net, where these switches were lost: moment and room; the kept messages of the others; and which of them have views
pub record StaysSo (lost : List ℕ) (net now_net : NetState) : Type 0 where
  pub moment : now_net.moment ≡ net.moment
  pub room : now_net.room ≡ net.room
  pub kept : now_net.kept ≡ filter (λ m. not (is_among m.0 lost)) net.kept
  pub switches : (e : ℕ) → is_viewed e now_net.views ≡ (is_viewed e net.views && not (is_among e lost))

-- links alone were called, in place where the world tells in order and each switch that has a view is joined, and these switches were lost
pub record CallsLinks {Own : Type 0} (Tells : Type 0) (lost : List ℕ) (views : List TableView) (old new : Seen Own) : Type 0 where
  pub continues : Continues Tells old new
  pub links : OnLinks Tells old new
  pub no_strays : Tells → InOrder new → AreJoined views (state old) → MakesNoStrayCall old new
  pub losses : Tells → AreJoined views (state old) → lost_of new ≡ lost_of old ++ lost

-- ---- One packet

-- it was sent
abbrev pub PacketSent : {Own : Type 0} → Type 0 → ℕ → ℕ → Packet → Seen Own → Seen Own → Type 0
PacketSent Tells d xid packet old new = Calls Tells d (Says d (message_bytes xid (PacketOut packet)) ∷ []) old new

-- it was not: its switch was lost, or memory was wanting
abbrev pub PacketUnsent : {Own : Type 0} → Type 0 → ℕ → Seen Own → Seen Own → Halt → Type 0
PacketUnsent Tells d old new halt = ((new ≡ old) × (halt ≡ Fault NoMemory)) ⊎ SaysNot Tells d old new halt

-- the reply to the barrier behind it came
pub record BarrierPassed {Own : Type 0} (Tells : Type 0) (a : Awaited) (old new : Seen Own) (came : List (ℕ × List ℕ)) : Type 0 where
  pub brought : Brought
  pub replied : Replied Tells a (barrier_of a ∷ []) Growing [] old new [] came brought

-- the wait for it failed
pub record BarrierBroke {Own : Type 0} (Tells : Type 0) (a : Awaited) (old new : Seen Own) (halt : Halt) : Type 0 where
  pub came : List (ℕ × List ℕ)
  pub breaks : BreaksBy Tells a (barrier_of a ∷ []) old new [] came halt

-- memory was wanting behind its reply
pub record BarrierShort {Own : Type 0} (Tells : Type 0) (a : Awaited) (old new : Seen Own) (halt : Halt) : Type 0 where
  pub came : List (ℕ × List ℕ)
  pub passed : BarrierPassed Tells a old new came
  pub short : halt ≡ Fault NoMemory

abbrev pub BarrierStops : {Own : Type 0} → Type 0 → Awaited → Seen Own → Seen Own → Halt → Type 0
BarrierStops Tells a old new halt = BarrierBroke Tells a old new halt ⊎ BarrierShort Tells a old new halt

-- ---- The two together

abbrev pub packet_frames : ℕ → ℕ → Packet → List (List ℕ)
packet_frames d xid packet = message_bytes xid (PacketOut packet) ∷ barrier_of (asked_from d xid) ∷ []

-- the packet was sent, and the reply to its barrier came
pub record PacketTold {Own : Type 0} (Tells : Type 0) (d xid : ℕ) (packet : Packet) (old new : Seen Own) (came : List (ℕ × List ℕ)) : Type 0 where
  pub brought : Brought
  pub replied : Replied Tells (asked_from d xid) (packet_frames d xid packet) Growing [] old new [] came brought

-- a fault came of it
pub record PacketBroke {Own : Type 0} (Tells : Type 0) (d xid : ℕ) (packet : Packet) (old new : Seen Own) (fault : TxnFault) : Type 0 where
  pub came : List (ℕ × List ℕ)
  pub breaks : BreaksBy Tells (asked_from d xid) (packet_frames d xid packet) old new [] came (Fault fault)

-- memory was wanting behind its reply
pub record PacketShort {Own : Type 0} (Tells : Type 0) (d xid : ℕ) (packet : Packet) (old new : Seen Own) (fault : TxnFault) : Type 0 where
  pub came : List (ℕ × List ℕ)
  pub told : PacketTold Tells d xid packet old new came
  pub short : fault ≡ NoMemory

-- memory was wanting before, or a fault came of it, or memory was wanting behind it
abbrev pub PacketStops : {Own : Type 0} → Type 0 → ℕ → ℕ → Packet → Seen Own → Seen Own → TxnFault → Type 0
PacketStops Tells d xid packet old new fault = ((new ≡ old) × (fault ≡ NoMemory)) ⊎ (PacketBroke Tells d xid packet old new fault ⊎ PacketShort Tells d xid packet old new fault)

-- ---- What became of what came

-- what came before the reply was taken in
pub record TakenBeforeReply {Own : Type 0} (Tells : Type 0) (a : Awaited) (old new : Seen Own) (net now_net : NetState) (queue now_queue : List Event) : Type 0 where
  pub came : List (ℕ × List ℕ)
  pub passed : BarrierPassed Tells a old new came
  pub taken : (now_net, now_queue) ≡ takes_all came (net, queue)
  pub stays : StaysSo [] net now_net

-- the switch was lost
pub record LostBeforeReply {Own : Type 0} (Tells : Type 0) (a : Awaited) (old new : Seen Own) (net now_net : NetState) (queue now_queue : List Event) : Type 0 where
  pub broke : BarrierBroke Tells a old new Lost
  pub net_is : now_net ≡ lost_net a.dpid net
  pub queue_is : now_queue ≡ queue

-- a fault
pub record StopsBeforeReply {Own : Type 0} (Tells : Type 0) (a : Awaited) (old new : Seen Own) (net now_net : NetState) (fault : TxnFault) : Type 0 where
  pub stops : BarrierStops Tells a old new (Fault fault)
  pub stays : StaysSo [] net now_net

abbrev pub TakesUntilReply : {Own : Type 0} → Type 0 → Awaited → Seen Own → Seen Own → NetState → NetState → List Event → List Event → Result (Unit {0}) TxnFault → Type 0
TakesUntilReply Tells a old new net now_net queue now_queue result =
    MatchResult result (λ _. TakenBeforeReply Tells a old new net now_net queue now_queue ⊎ LostBeforeReply Tells a old new net now_net queue now_queue) (StopsBeforeReply Tells a old new net now_net)

-- the packets that were sent: this one, or none
abbrev pub sent_by : Bool → Held → List Held
sent_by true held = held ∷ []
sent_by false held = []

pub record ReleasesPacket {Own : Type 0} (Tells : Type 0) (held : Held) (old new : Seen Own) (net now_net : NetState) (queue now_queue : List Event) (result : Result Bool TxnFault) : Type 0 where
  pub lost : List ℕ
  pub stays : StaysSo lost net now_net
  pub calls : CallsLinks Tells lost net.views old new
  pub read : IsOk result → Tells → MessagesSince old new
  pub ids : MatchResult result (λ sent. IdsGoOn Tells 0 old new net.xid now_net.xid) (λ fault. StopsIds Tells old new net.xid)
  pub does : MatchResult result (λ sent. ReleasesOne Tells held (sent_by sent held) old new net now_net queue now_queue) (BreaksAt Tells held old new net)

-- ---- All of them

-- of each packet its switch, and how many bytes it has
abbrev pub size_of : Held → ℕ × ℕ
size_of held = (held.0, length held.1.payload)

-- some were released so far, and those that were sent are noted
pub record ReleasedFront {Own : Type 0} (Tells : Type 0) (front : List Held) (old new : Seen Own) (net now_net : NetState) (queue now_queue : List Event) (sizes : List (ℕ × ℕ)) : Type 0 where
  pub lost : List ℕ
  pub stays : StaysSo lost net now_net
  pub calls : CallsLinks Tells lost net.views old new
  pub read : Tells → MessagesSince old new
  pub ids : IdsGoOn Tells 0 old new net.xid now_net.xid
  pub sent : List Held
  pub all : ReleasesAll Tells front sent old new net now_net queue now_queue
  pub sizes_is : sizes ≡ map size_of sent

-- one is released, and noted where it was sent
abbrev pub ReleasesNoted : {Own : Type 0} → Type 0 → Held → Seen Own → Seen Own → NetState → NetState → List Event → List Event → List (ℕ × ℕ) → List (ℕ × ℕ) → Result (Unit {0}) TxnFault → Type 0
ReleasesNoted Tells held old new net now_net queue now_queue sizes now_sizes (Ok x) =
    (sent : Bool) × (ReleasesPacket Tells held old new net now_net queue now_queue (Ok sent) × (now_sizes ≡ sizes ++ map size_of (sent_by sent held)))
ReleasesNoted Tells held old new net now_net queue now_queue sizes now_sizes (Err fault) = ReleasesPacket Tells held old new net now_net queue now_queue (Err fault)

-- it stopped behind some of them
pub record StopsBehind {Own : Type 0} (Tells : Type 0) (held : List Held) (old new : Seen Own) (net now_net : NetState) (queue : List Event) (fault : TxnFault) : Type 0 where
  pub lost : List ℕ
  pub stays : StaysSo lost net now_net
  pub calls : CallsLinks Tells lost net.views old new
  pub ids : StopsIds Tells old new net.xid
  pub front : List Held
  pub broken : Held
  pub rest : List Held
  pub held_is : held ≡ front ++ broken ∷ rest
  pub sent : List Held
  pub mid : Seen Own
  pub mid_net : NetState
  pub mid_queue : List Event
  pub before : ReleasesAll Tells front sent old mid net mid_net queue mid_queue
  pub breaks : BreaksAt Tells broken mid new mid_net fault
