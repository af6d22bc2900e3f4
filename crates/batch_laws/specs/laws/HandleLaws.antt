-- What the engine does at an item, of what its parts do.
use Rattle.std.specs.Prelude.{◌≡◌, ◌⊎◌, ℕ, Bool, true, false, List, [], ◌∷◌, ◌++◌, Option, None, Result, Ok, Err, IsSome, IsOkAnd, is_some, refl}
use Rattle.std.proofs.Common.{sym, ap, ap₂, ◌∙◌, subst, inl, inr}
use Rattle.std.proofs.lemmas.List.{append-nil}
use Rattle.of_types.specs.Fields.{IsBytes}
use Rattle.of_wire.specs.declared.message.Message.{Message}
use Rattle.of_wire.specs.declared.message.Message.TheVariants.{Hello, Error, EchoRequest, EchoReply, Vendor, FeaturesRequest, FeaturesReply, GetConfigRequest, GetConfigReply, SetConfig, PacketIn, FlowRemoved, PortStatus, PacketOut, FlowMod, PortMod, StatsRequest, StatsReply, BarrierRequest, BarrierReply, QueueGetConfigRequest, QueueGetConfigReply}
use Rattle.of_wire.specs.declared.message.Envelope.{Envelope}
use Rattle.of_wire.specs.declared.fault.WireFault.{WireFault}
use Rattle.of_wire.specs.Reading.{reading_of}
use Rattle.app_frames.specs.declared.frame.Event.{Event}
use Rattle.app_frames.specs.declared.frame.EventKind.TheVariants as kinds
use Rattle.outside.specs.declared.step.WorldStep.TheVariants.{From, Joined, Left, Moment, Idle, End}
use Rattle.outside.specs.Seen.{Seen, Continues}
use Rattle.outside.specs.laws.SeenLaws.{Continues-refl}
use Rattle.net_txn.specs.Net.{NetState}
use Rattle.net_txn.specs.Views.{rows_at}
use Rattle.net_txn.specs.Leaving.{ports_at, ports_text, without}
use Rattle.net_txn.specs.declared.ports.KnownPorts.{KnownPorts}
use Rattle.net_txn.specs.LinkSteps.{OnLinks, AsksWithoutStrays}
use Rattle.net_txn.specs.Losing.{lost_net}
use Rattle.net_txn.specs.Arriving.{net_after, Becomes, ArrivesLost, Arrives}
use Rattle.lego_model.specs.Echoes.{IsEchoRead}
use Rattle.batch_laws.specs.Knowledge.{Knowledge, knowledge_of, with_event, views_by, ports_by, told_message, joined_read, left_by, handled, left_events, lost_text, ports_lost, lost_by}
use Rattle.batch_laws.specs.Items.{answers, DoesLeft, kept_left, Departs, EntersStill, EntersNot, Enters, HandlesStill, HandlesLost, Handles}

-- ---- Of a switch that has a view, or none

none_is : {X : Type 0} (o : Option X) → o ≡ None → is_some o ≡ false
none_is o is = ap is_some is

-- ---- A message

record NetAfter (d : ℕ) (m : Message) (net now_net : NetState) : Type 0 where
  views : now_net.views ≡ views_by d m net.views
  ports : now_net.ports ≡ ports_by d m net.ports
  moment : now_net.moment ≡ net.moment
  log : now_net.log ≡ net.log
  room : now_net.room ≡ net.room
  held : now_net.held ≡ net.held
  left : now_net.left ≡ net.left
  kept : now_net.kept ≡ net.kept

net_is : (d : ℕ) (m : Message) (net : NetState) → NetAfter d m net (net_after d m net)
net_is d (Hello payload) net = record { views = refl; ports = refl; moment = refl; log = refl; room = refl; held = refl; left = refl; kept = refl }
net_is d (Error kind code payload) net = record { views = refl; ports = refl; moment = refl; log = refl; room = refl; held = refl; left = refl; kept = refl }
net_is d (EchoRequest payload) net = record { views = refl; ports = refl; moment = refl; log = refl; room = refl; held = refl; left = refl; kept = refl }
net_is d (EchoReply payload) net = record { views = refl; ports = refl; moment = refl; log = refl; room = refl; held = refl; left = refl; kept = refl }
net_is d (Vendor payload) net = record { views = refl; ports = refl; moment = refl; log = refl; room = refl; held = refl; left = refl; kept = refl }
net_is d FeaturesRequest net = record { views = refl; ports = refl; moment = refl; log = refl; room = refl; held = refl; left = refl; kept = refl }
net_is d (FeaturesReply features) net = record { views = refl; ports = refl; moment = refl; log = refl; room = refl; held = refl; left = refl; kept = refl }
net_is d GetConfigRequest net = record { views = refl; ports = refl; moment = refl; log = refl; room = refl; held = refl; left = refl; kept = refl }
net_is d (GetConfigReply config) net = record { views = refl; ports = refl; moment = refl; log = refl; room = refl; held = refl; left = refl; kept = refl }
net_is d (SetConfig config) net = record { views = refl; ports = refl; moment = refl; log = refl; room = refl; held = refl; left = refl; kept = refl }
net_is d (PacketIn packet) net = record { views = refl; ports = refl; moment = refl; log = refl; room = refl; held = refl; left = refl; kept = refl }
net_is d (FlowRemoved flow) net = record { views = refl; ports = refl; moment = refl; log = refl; room = refl; held = refl; left = refl; kept = refl }
net_is d (PortStatus status) net = record { views = refl; ports = refl; moment = refl; log = refl; room = refl; held = refl; left = refl; kept = refl }
net_is d (PacketOut packet) net = record { views = refl; ports = refl; moment = refl; log = refl; room = refl; held = refl; left = refl; kept = refl }
net_is d (FlowMod flow) net = record { views = refl; ports = refl; moment = refl; log = refl; room = refl; held = refl; left = refl; kept = refl }
net_is d (PortMod change) net = record { views = refl; ports = refl; moment = refl; log = refl; room = refl; held = refl; left = refl; kept = refl }
net_is d (StatsRequest stats) net = record { views = refl; ports = refl; moment = refl; log = refl; room = refl; held = refl; left = refl; kept = refl }
net_is d (StatsReply stats) net = record { views = refl; ports = refl; moment = refl; log = refl; room = refl; held = refl; left = refl; kept = refl }
net_is d BarrierRequest net = record { views = refl; ports = refl; moment = refl; log = refl; room = refl; held = refl; left = refl; kept = refl }
net_is d BarrierReply net = record { views = refl; ports = refl; moment = refl; log = refl; room = refl; held = refl; left = refl; kept = refl }
net_is d (QueueGetConfigRequest payload) net = record { views = refl; ports = refl; moment = refl; log = refl; room = refl; held = refl; left = refl; kept = refl }
net_is d (QueueGetConfigReply payload) net = record { views = refl; ports = refl; moment = refl; log = refl; room = refl; held = refl; left = refl; kept = refl }

knows : (net : NetState) (queue : List Event) (k : Knowledge) → net.views ≡ k.views → net.ports ≡ k.ports → net.moment ≡ k.moment → queue ≡ k.queue → knowledge_of net queue ≡ k
knows net queue k views ports moment waits = rw (views, ports, moment, waits) refl

from_known : (d : ℕ) (bytes : List ℕ) (k : Knowledge) (e : Envelope) → is_some (rows_at d k.views) ≡ true → reading_of bytes ≡ Ok e → handled (From d bytes) k ≡ told_message d e.message k
unfolding handled
from_known d bytes k e known read = rw (known, read) refl

from_out : (d : ℕ) (bytes : List ℕ) (k : Knowledge) → is_some (rows_at d k.views) ≡ false → handled (From d bytes) k ≡ k
unfolding handled
from_out d bytes k out = rw out refl

becomes_still : {Own Tells : Type 0} {d : ℕ} {bytes : List ℕ} {old new : Seen Own} {net now_net : NetState} {queue now_queue : List Event} {text : List ℕ} (event : Option Event) (e : Envelope) → reading_of bytes ≡ Ok e → IsSome (rows_at d net.views) → IsBytes bytes
    → now_queue ≡ with_event event queue → text ≡ [] → Becomes Tells d e.xid e.message old new net now_net event → HandlesStill Tells (From d bytes) text old new net now_net queue now_queue
becomes_still {Tells = Tells} {d = d} {bytes = bytes} {old = old} {new = new} {net = net} {now_net = now_net} {queue = queue} {now_queue = now_queue} event e read known fit waits none is =
    let after : NetAfter d e.message net now_net = subst (λ (n : NetState). NetAfter d e.message net n) (sym is.net_is) (net_is d e.message net) in
    let sees : is_some (rows_at d net.views) ≡ true = known in
    record {
      knowledge = knows now_net now_queue (told_message d e.message (knowledge_of net queue)) after.views after.ports after.moment (waits ∙ ap (λ (o : Option Event). with_event o queue) is.event_is)
          ∙ sym (from_known d bytes (knowledge_of net queue) e sees read);
      does = rw sees (record { fit = fit; read = rw read refl; told = λ told. is.told told ∙ ap (λ (r : Result Envelope WireFault). old.history ++ answers d r) (sym read); kept = after.kept });
      text_is = none;
    }

-- what the host keeps behind a message, once the switches that were lost are told
record Told (net mid_net now_net : NetState) (queue mid_queue now_queue : List Event) (text : List ℕ) : Type 0 where
  none : net.left ≡ []
  net_is : now_net ≡ record mid_net { left = [] }
  queue_is : now_queue ≡ mid_queue ++ left_events mid_net.left
  text_is : text ≡ lost_text mid_net.left

echo_read : (r : Result Envelope WireFault) (e : Envelope) (payload : List ℕ) → r ≡ Ok e → e.message ≡ EchoRequest payload → IsEchoRead r
echo_read r e payload read request = rw (read, request) tt

lost_left : (d : ℕ) (net mid_net : NetState) → net.left ≡ [] → mid_net ≡ lost_net d net → mid_net.left ≡ ports_lost d net.ports
lost_left d net mid_net none is = ap (λ (n : NetState). n.left) is ∙ ap (λ (ks : List KnownPorts). ks ++ ports_lost d net.ports) none

arrives_by : {Own Tells : Type 0} {d : ℕ} {bytes : List ℕ} {old new : Seen Own} {net mid_net now_net : NetState} {queue mid_queue now_queue : List Event} {text : List ℕ} (event : Option Event) (r : Result Envelope WireFault) → reading_of bytes ≡ r → IsSome (rows_at d net.views)
    → IsBytes bytes → Continues Tells old new → OnLinks Tells old new → AsksWithoutStrays Tells d old new → mid_queue ≡ with_event event queue → Told net mid_net now_net queue mid_queue now_queue text
    → IsOkAnd r (λ e. Becomes Tells d e.xid e.message old new net mid_net event ⊎ ArrivesLost Tells d e.message old new net mid_net event) → Handles Tells (From d bytes) text old new net now_net queue now_queue
arrives_by {Tells = Tells} {d = d} {bytes = bytes} {old = old} {new = new} {net = net} {mid_net = mid_net} {now_net = now_net} {queue = queue} {mid_queue = mid_queue} {now_queue = now_queue} {text = text} event (Ok e) read known fit continues links no_strays waits told (inl is) =
    let after : NetAfter d e.message net mid_net = subst (λ (n : NetState). NetAfter d e.message net n) (sym is.net_is) (net_is d e.message net) in
    let none : mid_net.left ≡ [] = after.left ∙ told.none in
    let same : now_net ≡ mid_net = told.net_is ∙ ap (λ (ks : List KnownPorts). record mid_net { left = ks }) (sym none) in
    let queue_is : now_queue ≡ mid_queue = told.queue_is ∙ ap (λ (ks : List KnownPorts). mid_queue ++ left_events ks) none ∙ append-nil mid_queue in
    let now_is : Becomes Tells d e.xid e.message old new net now_net event = subst (λ (n : NetState). Becomes Tells d e.xid e.message old new net n event) (sym same) is in
    record {
      continues = continues;
      log = ap (λ (n : NetState). n.log) same ∙ after.log;
      room = ap (λ (n : NetState). n.room) same ∙ after.room;
      held = ap (λ (n : NetState). n.held) same ∙ after.held;
      left = ap (λ (n : NetState). n.left) told.net_is;
      went = inl (becomes_still event e read known fit (queue_is ∙ waits) (told.text_is ∙ ap lost_text none) now_is);
    }
arrives_by {Tells = Tells} {d = d} {bytes = bytes} {old = old} {new = new} {net = net} {mid_net = mid_net} {now_net = now_net} {queue = queue} {mid_queue = mid_queue} {now_queue = now_queue} {text = text} event (Ok e) read known fit continues links no_strays waits told (inr lost) =
    let gone : mid_net.left ≡ ports_lost d net.ports = lost_left d net mid_net told.none lost.net_is in
    let after : now_net ≡ record (lost_net d net) { left = [] } = told.net_is ∙ ap (λ (n : NetState). record n { left = [] }) lost.net_is in
    let same : mid_queue ≡ queue = waits ∙ ap (λ (o : Option Event). with_event o queue) lost.no_event in
    record {
      continues = continues;
      log = ap (λ (n : NetState). n.log) after;
      room = ap (λ (n : NetState). n.room) after;
      held = ap (λ (n : NetState). n.held) after;
      left = ap (λ (n : NetState). n.left) after;
      went = inr (record {
        dpid = d;
        at = (refl, known, echo_read (reading_of bytes) e lost.payload read lost.request);
        is_lost = lost.is_lost;
        links = links;
        no_strays = no_strays;
        knowledge = knows now_net now_queue (lost_by d (knowledge_of net queue)) (ap (λ (n : NetState). n.views) after) (ap (λ (n : NetState). n.ports) after) (ap (λ (n : NetState). n.moment) after)
            (told.queue_is ∙ ap₂ (λ (q : List Event) (ks : List KnownPorts). q ++ left_events ks) same gone);
        kept = ap (λ (n : NetState). n.kept) after;
        text_is = told.text_is ∙ ap lost_text gone;
      });
    }
arrives_by event (Err fault) read known fit continues links no_strays waits told is = absurd is

-- A message is handled where the switches that were lost are told behind it, each with its line and its Leave event.
pub arrived_handles : {Own : Type 0} {Tells : Type 0} (d : ℕ) (bytes : List ℕ) (old new : Seen Own) (net mid_net now_net : NetState) (queue mid_queue now_queue : List Event) (text : List ℕ) (event : Option Event) → net.left ≡ [] → IsSome (rows_at d net.views) → IsBytes bytes
    → Arrives Tells d bytes old new net mid_net (Ok event) → mid_queue ≡ with_event event queue → now_net ≡ record mid_net { left = [] } → now_queue ≡ mid_queue ++ left_events mid_net.left → text ≡ lost_text mid_net.left
    → Handles Tells (From d bytes) text old new net now_net queue now_queue
arrived_handles d bytes old new net mid_net now_net queue mid_queue now_queue text event none known fit arrives waits net_is queue_is text_is =
    arrives_by event (reading_of bytes) refl known fit arrives.continues arrives.links arrives.no_strays waits (record { none = none; net_is = net_is; queue_is = queue_is; text_is = text_is }) arrives.read

pub from_ignored : {Own : Type 0} {Tells : Type 0} (d : ℕ) (bytes : List ℕ) (seen : Seen Own) (net : NetState) (queue : List Event) → net.left ≡ [] → rows_at d net.views ≡ None → Handles Tells (From d bytes) [] seen seen net net queue queue
from_ignored {Tells = Tells} d bytes seen net queue none out =
    let sees : is_some (rows_at d net.views) ≡ false = none_is (rows_at d net.views) out in
    record {
      continues = Continues-refl Tells seen;
      log = refl;
      room = refl;
      held = refl;
      left = none;
      went = inl (record { knowledge = sym (from_out d bytes (knowledge_of net queue) sees); does = rw sees (record { seen = refl; kept = refl }); text_is = refl });
    }

-- ---- A switch that leaves

left_known : (d : ℕ) (k : Knowledge) → is_some (rows_at d k.views) ≡ true → handled (Left d) k ≡ left_by d k
unfolding handled
left_known d k known = rw known refl

left_out : (d : ℕ) (k : Knowledge) → is_some (rows_at d k.views) ≡ false → handled (Left d) k ≡ k
unfolding handled
left_out d k out = rw out refl

pub left_departs : (d : ℕ) (net now_net : NetState) (queue now_queue : List Event) (event : Event) → IsSome (rows_at d net.views) → event ≡ record { kind = kinds.Leave; dpid = d; body = ports_text (ports_at d net.ports) } → now_net ≡ without d net → now_queue ≡ queue ++ event ∷ []
    → Departs d net now_net queue now_queue
left_departs d net now_net queue now_queue event known is after waits =
    let sees : is_some (rows_at d net.views) ≡ true = known in
    record {
      knowledge = knows now_net now_queue (left_by d (knowledge_of net queue)) (ap (λ (n : NetState). n.views) after) (ap (λ (n : NetState). n.ports) after) (ap (λ (n : NetState). n.moment) after) (waits ∙ ap (λ (e : Event). queue ++ e ∷ []) is)
          ∙ sym (left_known d (knowledge_of net queue) sees);
      log = ap (λ (n : NetState). n.log) after;
      room = ap (λ (n : NetState). n.room) after;
      held = ap (λ (n : NetState). n.held) after;
      left = ap (λ (n : NetState). n.left) after;
      kept = rw sees (ap (λ (n : NetState). n.kept) after);
    }

pub left_ignored : (d : ℕ) (net : NetState) (queue : List Event) → rows_at d net.views ≡ None → Departs d net net queue queue
left_ignored d net queue out =
    let sees : is_some (rows_at d net.views) ≡ false = none_is (rows_at d net.views) out in
    record { knowledge = sym (left_out d (knowledge_of net queue) sees); log = refl; room = refl; held = refl; left = refl; kept = rw sees refl }

departs_does : {Own : Type 0} (d : ℕ) (known : Bool) (seen : Seen Own) (net now_net : NetState) → now_net.kept ≡ kept_left known d net.kept → DoesLeft d known seen seen net now_net
departs_does d true seen net now_net kept = record { seen = refl; kept = kept }
departs_does d false seen net now_net kept = record { seen = refl; kept = kept }

pub departs_handles : {Own : Type 0} {Tells : Type 0} (d : ℕ) (seen : Seen Own) (net now_net : NetState) (queue now_queue : List Event) → net.left ≡ [] → Departs d net now_net queue now_queue → Handles Tells (Left d) [] seen seen net now_net queue now_queue
departs_handles {Tells = Tells} d seen net now_net queue now_queue none departs = record {
  continues = Continues-refl Tells seen;
  log = departs.log;
  room = departs.room;
  held = departs.held;
  left = departs.left ∙ none;
  went = inl (record { knowledge = departs.knowledge; does = departs_does d (is_some (rows_at d net.views)) seen net now_net departs.kept; text_is = refl });
}

-- ---- A switch that joins

joined_out : (d : ℕ) (bytes : List ℕ) (k : Knowledge) → is_some (rows_at d k.views) ≡ false → handled (Joined d bytes) k ≡ joined_read d (reading_of bytes) k
unfolding handled
joined_out d bytes k out = rw out refl

joined_known : (d : ℕ) (bytes : List ℕ) (k : Knowledge) → is_some (rows_at d k.views) ≡ true → handled (Joined d bytes) k ≡ k
unfolding handled
joined_known d bytes k known = rw known refl

enters_by : {Own Tells : Type 0} {d : ℕ} {bytes : List ℕ} {e : Envelope} {text : List ℕ} {old new : Seen Own} {net now_net : NetState} {queue now_queue : List Event} → rows_at d net.views ≡ None → reading_of bytes ≡ Ok e → OnLinks Tells old new → AsksWithoutStrays Tells d old new
    → EntersStill Tells d e.message text old new net now_net queue now_queue ⊎ EntersNot Tells d text old new net now_net queue now_queue
    → HandlesStill Tells (Joined d bytes) text old new net now_net queue now_queue ⊎ HandlesLost Tells (Joined d bytes) text old new net now_net queue now_queue
enters_by {d = d} {bytes = bytes} {net = net} {queue = queue} out read links no_strays (inl still) =
    let sees : is_some (rows_at d net.views) ≡ false = none_is (rows_at d net.views) out in
    inl (record {
      knowledge = still.knowledge ∙ sym (joined_out d bytes (knowledge_of net queue) sees ∙ ap (λ (r : Result Envelope WireFault). joined_read d r (knowledge_of net queue)) read);
      does = rw (sees, read) still.takes;
      text_is = still.text_is;
    })
enters_by {d = d} {net = net} out read links no_strays (inr lost) = inr (record {
  dpid = d;
  at = (refl, none_is (rows_at d net.views) out);
  is_lost = lost.is_lost;
  links = links;
  no_strays = no_strays;
  knowledge = lost.knowledge;
  kept = lost.kept;
  text_is = lost.text_is;
})

pub enters_handles : {Own : Type 0} {Tells : Type 0} (d : ℕ) (bytes : List ℕ) (e : Envelope) (text : List ℕ) (old new : Seen Own) (net now_net : NetState) (queue now_queue : List Event) → net.left ≡ [] → rows_at d net.views ≡ None → reading_of bytes ≡ Ok e
    → Continues Tells old new → OnLinks Tells old new → AsksWithoutStrays Tells d old new → Enters Tells d e.message text old new net now_net queue now_queue → Handles Tells (Joined d bytes) text old new net now_net queue now_queue
enters_handles d bytes e text old new net now_net queue now_queue none out read continues links no_strays enters = record {
  continues = continues;
  log = enters.log;
  room = enters.room;
  held = enters.held;
  left = enters.left ∙ none;
  went = enters_by out read links no_strays enters.went;
}

pub unread_handles : {Own : Type 0} {Tells : Type 0} (d : ℕ) (bytes : List ℕ) (fault : WireFault) (seen : Seen Own) (net : NetState) (queue : List Event) → net.left ≡ [] → rows_at d net.views ≡ None → reading_of bytes ≡ Err fault → Handles Tells (Joined d bytes) [] seen seen net net queue queue
unread_handles {Tells = Tells} d bytes fault seen net queue none out read =
    let sees : is_some (rows_at d net.views) ≡ false = none_is (rows_at d net.views) out in
    record {
      continues = Continues-refl Tells seen;
      log = refl;
      room = refl;
      held = refl;
      left = none;
      went = inl (record {
        knowledge = sym (joined_out d bytes (knowledge_of net queue) sees ∙ ap (λ (r : Result Envelope WireFault). joined_read d r (knowledge_of net queue)) read);
        does = rw (sees, read) (record { seen = refl; kept = refl });
        text_is = refl;
      });
    }

pub joined_ignored : {Own : Type 0} {Tells : Type 0} (d : ℕ) (bytes : List ℕ) (seen : Seen Own) (net : NetState) (queue : List Event) → net.left ≡ [] → IsSome (rows_at d net.views) → Handles Tells (Joined d bytes) [] seen seen net net queue queue
joined_ignored {Tells = Tells} d bytes seen net queue none known =
    let sees : is_some (rows_at d net.views) ≡ true = known in
    record {
      continues = Continues-refl Tells seen;
      log = refl;
      room = refl;
      held = refl;
      left = none;
      went = inl (record { knowledge = sym (joined_known d bytes (knowledge_of net queue) sees); does = rw sees (record { seen = refl; kept = refl }); text_is = refl });
    }

-- ---- The others

moment_is : (t : ℕ) (k : Knowledge) → handled (Moment t) k ≡ record k { moment = t }
unfolding handled
moment_is t k = refl

pub moment_handles : {Own : Type 0} {Tells : Type 0} (t : ℕ) (seen : Seen Own) (net now_net : NetState) (queue : List Event) → net.left ≡ [] → now_net ≡ record net { moment = t } → Handles Tells (Moment t) [] seen seen net now_net queue queue
moment_handles {Tells = Tells} t seen net now_net queue none is = subst (λ (n : NetState). Handles Tells (Moment t) [] seen seen net n queue queue) (sym is) (record {
  continues = Continues-refl Tells seen;
  log = refl;
  room = refl;
  held = refl;
  left = none;
  went = inl (record { knowledge = sym (moment_is t (knowledge_of net queue)); does = record { seen = refl; kept = refl }; text_is = refl });
})

pub idle_is : (k : Knowledge) → handled Idle k ≡ k
unfolding handled
idle_is k = refl

pub idle_handles : {Own : Type 0} {Tells : Type 0} (seen : Seen Own) (net : NetState) (queue : List Event) → net.left ≡ [] → Handles Tells Idle [] seen seen net net queue queue
idle_handles {Tells = Tells} seen net queue none = record {
  continues = Continues-refl Tells seen;
  log = refl;
  room = refl;
  held = refl;
  left = none;
  went = inl (record { knowledge = sym (idle_is (knowledge_of net queue)); does = record { seen = refl; same = refl }; text_is = refl });
}

pub end_is : (k : Knowledge) → handled End k ≡ k
unfolding handled
end_is k = refl

pub end_handles : {Own : Type 0} {Tells : Type 0} (seen : Seen Own) (net : NetState) (queue : List Event) → net.left ≡ [] → Handles Tells End [] seen seen net net queue queue
end_handles {Tells = Tells} seen net queue none = record {
  continues = Continues-refl Tells seen;
  log = refl;
  room = refl;
  held = refl;
  left = none;
  went = inl (record { knowledge = sym (end_is (knowledge_of net queue)); does = record { seen = refl; same = refl }; text_is = refl });
}
