-- Laws of what came of switches by calls that succeeded: all of it was messages.
use Rattle.std.specs.Prelude.{◌≡◌, ◌⊎◌, ℕ, ◌^◌, ◌<◌, Bool, true, List, [], ◌∷◌, ◌++◌, Option, Result, Ok, Err, IsOk, is_ok, OnOk, IsOkAnd, MatchResult, refl}
use Rattle.std.specs.List.{AllByRecursion}
use Rattle.std.proofs.Common.{ap, inl, inr}
use Rattle.of_types.specs.declared.port_desc.PortDesc.{PortDesc}
use Rattle.of_wire.specs.declared.bodies.FlowMod.{FlowMod as Change}
use Rattle.of_wire.specs.declared.message.Envelope.{Envelope}
use Rattle.of_wire.specs.declared.message.Message.{Message}
use Rattle.of_wire.specs.declared.message.Message.TheVariants as messages
use Rattle.of_wire.specs.declared.fault.WireFault.{WireFault}
use Rattle.of_wire.specs.Reading.{reading_of}
use Rattle.of_wire.specs.laws.ReadingLaws.{reading_of-message_bytes}
use Rattle.app_frames.specs.declared.frame.Answer.{Answer}
use Rattle.app_frames.specs.declared.frame.Event.{Event}
use Rattle.outside.specs.declared.step.WorldStep.{WorldStep}
use Rattle.outside.specs.Seen.{Seen}
use Rattle.outside.specs.InOrder.{brings_message, BringMessages, MessagesSince}
use Rattle.outside.specs.laws.InOrderLaws.{messages-append, messages-by}
use Rattle.lego_model.specs.declared.fault.TxnFault.{TxnFault}
use Rattle.lego_model.specs.declared.wait.Awaited.{Awaited}
use Rattle.lego_model.specs.declared.wait.Heard.{Heard}
use Rattle.lego_model.specs.declared.wait.Heard.TheVariants.{Reply, Refused, Notice, Echo, Other}
use Rattle.net_txn.specs.Net.{NetState}
use Rattle.lego_model.specs.BarrierWaits.{next_xid, heard, steps_by, wait_steps, reply_got}
use Rattle.net_txn.specs.laws.HeardLaws.{IsMessage-reply, next_xid-lt}
use Rattle.net_txn.specs.Waits.{Brought, IsRead, Waits}
use Rattle.net_txn.specs.Changes.{Asked, Stopped}
use Rattle.net_txn.specs.Arriving.{arrival_steps, Becomes, ArrivesLost, Arrives}
use Rattle.net_txn.specs.Joining.{Joins}

-- ---- Messages that were got

by_brings : (d : ℕ) (h : Heard) (bytes : List ℕ) → BringMessages (steps_by d h bytes)
by_brings d Reply bytes = tt
by_brings d (Refused r) bytes = tt
by_brings d Notice bytes = tt
by_brings d Echo bytes = (refl, tt)
by_brings d Other bytes = tt

wait_brings : (a : Awaited) (got : List (List ℕ)) → AllByRecursion (λ b. IsOk (reading_of b)) got → BringMessages (wait_steps a got)
wait_brings a [] read = tt
wait_brings a (b ∷ bs) read = (read.0, messages-append (steps_by a.dpid (heard a b) b) (wait_steps a bs) (by_brings a.dpid (heard a b) b) (wait_brings a bs read.1))

abbrev is_read : Result Envelope WireFault → Bool
is_read r = is_ok r

reply_brings : (a : Awaited) → a.barrier < 2 ^ 32 → brings_message (reply_got a) ≡ true
reply_brings a small = ap is_read (reading_of-message_bytes a.barrier messages.BarrierReply small IsMessage-reply)

-- some, and then the reply to the barrier
pub barred_brings : (a : Awaited) (got : List (List ℕ)) → a.barrier < 2 ^ 32 → AllByRecursion (λ b. IsOk (reading_of b)) got → BringMessages (wait_steps a got ++ reply_got a ∷ [])
barred_brings a got small read = messages-append (wait_steps a got) (reply_got a ∷ []) (wait_brings a got read) (reply_brings a small, tt)

pub all_read : (got : List (List ℕ)) → AllByRecursion IsRead got → AllByRecursion (λ b. IsOk (reading_of b)) got
all_read [] read = tt
all_read (b ∷ bs) read = (read.0.1, all_read bs read.1)

-- ---- A wait that ended by the reply

pub waits_read : {Own : Type 0} {Tells : Type 0} {a : Awaited} {old new : Seen Own} {kept now_kept : List (ℕ × List ℕ)} {answer : Brought} (front : List WorldStep) → BringMessages front → a.barrier < 2 ^ 32 → Waits Tells a front old new kept now_kept answer → Tells
    → MessagesSince old new
waits_read {a = a} {old = old} {new = new} front sent small w told =
    messages-by old new (front ++ (wait_steps a w.got ++ reply_got a ∷ [])) (w.hears.told told)
    (messages-append front (wait_steps a w.got ++ reply_got a ∷ []) sent (barred_brings a w.got small (all_read w.got w.hears.read)))

-- ---- Calls

pub asked_read : {Own : Type 0} (Tells : Type 0) (d : ℕ) (m : Change) (old new : Seen Own) (net now_net : NetState) (result : Result Answer TxnFault) → MatchResult result (Asked Tells d m old new net now_net) (λ f. Stopped d m old new net now_net) → IsOk result → Tells → MessagesSince old new
asked_read Tells d m old new net now_net (Ok answer) asked ok told = waits_read _ (refl, (refl, tt)) (next_xid-lt net.xid asked.is_xid.1) asked.waits told
asked_read Tells d m old new net now_net (Err fault) asked ok told = absurd cc

pub joins_read : {Own : Type 0} (Tells : Type 0) (d : ℕ) (ports : List PortDesc) (old new : Seen Own) (net now_net : NetState) (result : Result (Unit {0}) TxnFault) → net.xid < 2 ^ 32 → OnOk result (Joins Tells d ports old new net now_net) → OnOk result (Tells → MessagesSince old new)
joins_read Tells d ports old new net now_net (Ok x) small j = λ told. waits_read _ (refl, (refl, (refl, tt))) (next_xid-lt (next_xid net.xid) (next_xid-lt net.xid small)) j.waits told
joins_read Tells d ports old new net now_net (Err fault) small j = tt

-- an ECHO_REQUEST is answered, and nothing is got

arrival_brings : (d xid : ℕ) (m : Message) → BringMessages (arrival_steps d xid m)
arrival_brings d xid (messages.EchoRequest payload) = (refl, tt)
arrival_brings d xid (messages.Hello payload) = tt
arrival_brings d xid (messages.Error kind code payload) = tt
arrival_brings d xid (messages.EchoReply payload) = tt
arrival_brings d xid (messages.Vendor payload) = tt
arrival_brings d xid messages.FeaturesRequest = tt
arrival_brings d xid (messages.FeaturesReply features) = tt
arrival_brings d xid messages.GetConfigRequest = tt
arrival_brings d xid (messages.GetConfigReply config) = tt
arrival_brings d xid (messages.SetConfig config) = tt
arrival_brings d xid (messages.PacketIn packet) = tt
arrival_brings d xid (messages.FlowRemoved flow) = tt
arrival_brings d xid (messages.PortStatus status) = tt
arrival_brings d xid (messages.PacketOut packet) = tt
arrival_brings d xid (messages.FlowMod m) = tt
arrival_brings d xid (messages.PortMod port) = tt
arrival_brings d xid (messages.StatsRequest m) = tt
arrival_brings d xid (messages.StatsReply m) = tt
arrival_brings d xid messages.BarrierRequest = tt
arrival_brings d xid messages.BarrierReply = tt
arrival_brings d xid (messages.QueueGetConfigRequest payload) = tt
arrival_brings d xid (messages.QueueGetConfigReply payload) = tt

became_read : {Own : Type 0} (Tells : Type 0) (d : ℕ) (r : Result Envelope WireFault) (old new : Seen Own) (net now_net : NetState) (event : Option Event)
    → IsOkAnd r (λ e. Becomes Tells d e.xid e.message old new net now_net event ⊎ ArrivesLost Tells d e.message old new net now_net event) → Tells → MessagesSince old new
became_read Tells d (Ok e) old new net now_net event (inl b) told = messages-by old new (arrival_steps d e.xid e.message) (b.told told) (arrival_brings d e.xid e.message)
became_read Tells d (Ok e) old new net now_net event (inr lost) told = lost.read told
became_read Tells d (Err fault) old new net now_net event b told = absurd b

pub arrives_read : {Own : Type 0} {Tells : Type 0} {d : ℕ} {frame : List ℕ} {old new : Seen Own} {net now_net : NetState} {result : Result (Option Event) TxnFault} → Arrives Tells d frame old new net now_net result → IsOk result → Tells → MessagesSince old new
arrives_read {Tells = Tells} {d = d} {frame = frame} {old = old} {new = new} {net = net} {now_net = now_net} {result = Ok event} a ok told = became_read Tells d (reading_of frame) old new net now_net event a.read told
arrives_read {result = Err fault} a ok told = absurd cc
