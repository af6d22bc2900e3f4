-- What becomes of a message that came of itself.
use Rattle.std.specs.Prelude.{◌≡◌, ◌⊎◌, ℕ, List, Option, Result, Ok, Err, IfErr, IsOkAnd}
use Rattle.std.proofs.Common.{sym, ap, ◌∙◌, subst, inl, inr, refl}
use Rattle.of_wire.specs.declared.message.Message.{Message}
use Rattle.of_wire.specs.declared.message.Message.TheVariants as messages
use Rattle.of_wire.specs.declared.message.Envelope.{Envelope}
use Rattle.of_wire.specs.declared.fault.WireFault.{WireFault}
use Rattle.of_wire.specs.Reading.{reading_of}
use Rattle.app_frames.specs.declared.frame.Event.{Event}
use Rattle.outside.specs.Seen.{Seen}
use Rattle.lego_model.specs.declared.fault.TxnFault.{TxnFault}
use Rattle.net_txn.specs.declared.halt.Halt.{Halt}
use Rattle.net_txn.specs.Net.{NetState}
use Rattle.net_txn.specs.Losing.{SaysHalt}
use Rattle.net_txn.specs.Said.{SaysTo}
use Rattle.net_txn.specs.Arriving.{net_after, IsArrivalCause, Becomes, ArrivesLost, TakesIn, Arrives}
use Rattle.net_txn.specs.laws.OwnIdLaws.{speaks_none_taken}
use Rattle.net_txn.specs.laws.LostLaws.{says_halts}
use Rattle.net_txn.specs.laws.TalkLaws.{speaks_on, speaks_links, speaks_place}

-- no transaction id is taken for it
pub net_after_xid : (d : ℕ) (m : Message) (net : NetState) → (net_after d m net).xid ≡ net.xid
net_after_xid d (messages.Hello payload) net = refl
net_after_xid d (messages.Error kind code payload) net = refl
net_after_xid d (messages.EchoRequest payload) net = refl
net_after_xid d (messages.EchoReply payload) net = refl
net_after_xid d (messages.Vendor payload) net = refl
net_after_xid d messages.FeaturesRequest net = refl
net_after_xid d (messages.FeaturesReply features) net = refl
net_after_xid d messages.GetConfigRequest net = refl
net_after_xid d (messages.GetConfigReply config) net = refl
net_after_xid d (messages.SetConfig config) net = refl
net_after_xid d (messages.PacketIn packet) net = refl
net_after_xid d (messages.FlowRemoved flow) net = refl
net_after_xid d (messages.PortStatus status) net = refl
net_after_xid d (messages.PacketOut packet) net = refl
net_after_xid d (messages.FlowMod flow) net = refl
net_after_xid d (messages.PortMod port) net = refl
net_after_xid d (messages.StatsRequest stats) net = refl
net_after_xid d (messages.StatsReply stats) net = refl
net_after_xid d messages.BarrierRequest net = refl
net_after_xid d messages.BarrierReply net = refl
net_after_xid d (messages.QueueGetConfigRequest payload) net = refl
net_after_xid d (messages.QueueGetConfigReply payload) net = refl

pub net_after_kept : (d : ℕ) (m : Message) (net : NetState) → (net_after d m net).kept ≡ net.kept
net_after_kept d (messages.FlowRemoved f) net = refl
net_after_kept d (messages.PortStatus status) net = refl
net_after_kept d (messages.Error kind code payload) net = refl
net_after_kept d (messages.Hello payload) net = refl
net_after_kept d (messages.EchoRequest payload) net = refl
net_after_kept d (messages.EchoReply payload) net = refl
net_after_kept d (messages.Vendor payload) net = refl
net_after_kept d messages.FeaturesRequest net = refl
net_after_kept d (messages.FeaturesReply features) net = refl
net_after_kept d messages.GetConfigRequest net = refl
net_after_kept d (messages.GetConfigReply config) net = refl
net_after_kept d (messages.SetConfig config) net = refl
net_after_kept d (messages.PacketIn packet) net = refl
net_after_kept d (messages.PacketOut packet) net = refl
net_after_kept d (messages.FlowMod m) net = refl
net_after_kept d (messages.PortMod port) net = refl
net_after_kept d (messages.StatsRequest m) net = refl
net_after_kept d (messages.StatsReply m) net = refl
net_after_kept d messages.BarrierRequest net = refl
net_after_kept d messages.BarrierReply net = refl
net_after_kept d (messages.QueueGetConfigRequest payload) net = refl
net_after_kept d (messages.QueueGetConfigReply payload) net = refl

pub says_halt : {Own T : Type 0} (Tells : Type 0) (d : ℕ) (frame : List ℕ) (old new : Seen Own) (result : Result T Halt) → SaysTo Tells d frame old new result → IfErr result (SaysHalt Tells d old new)
says_halt Tells d frame old new (Ok x) says = tt
says_halt Tells d frame old new (Err halt) says = says_halts halt says

-- one that was read
pub arrives_read_as : {Own : Type 0} {Tells : Type 0} (d : ℕ) (frame : List ℕ) (e : Envelope) (old new : Seen Own) (net now_net : NetState) (result : Result (Option Event) TxnFault) → reading_of frame ≡ Ok e → TakesIn Tells d e.xid e.message old new net now_net result
    → Arrives Tells d frame old new net now_net result
arrives_read_as {Tells = Tells} d frame e old new net now_net (Ok event) is t = record {
  continues = speaks_on t.speaks;
  links = speaks_links t.speaks;
  no_strays = speaks_place t.speaks;
  ids = speaks_none_taken net.xid now_net.xid t.speaks (taken_xid t.taken);
  cause = tt;
  err = tt;
  losses = tt;
  read = subst (λ (r : Result Envelope WireFault). IsOkAnd r (λ m. Becomes Tells d m.xid m.message old new net now_net event ⊎ ArrivesLost Tells d m.message old new net now_net event)) (sym is) t.taken;
}
  where
    taken_xid : Becomes Tells d e.xid e.message old new net now_net event ⊎ ArrivesLost Tells d e.message old new net now_net event → now_net.xid ≡ net.xid
    taken_xid (inl b) = ap (λ (n : NetState). n.xid) b.net_is ∙ net_after_xid d e.message net
    taken_xid (inr l) = ap (λ (n : NetState). n.xid) l.net_is
arrives_read_as d frame e old new net now_net (Err fault) is t = record {
  continues = speaks_on t.speaks;
  links = speaks_links t.speaks;
  no_strays = speaks_place t.speaks;
  ids = speaks_none_taken net.xid now_net.xid t.speaks (ap (λ (n : NetState). n.xid) t.err);
  cause = subst (λ (f : TxnFault). IsArrivalCause d frame old new f) (sym t.fault) tt;
  err = t.err;
  losses = t.losses;
  read = tt;
}
