-- Laws of an item that is handled, where its switch may be lost: the host keeps up with the switches again, and what came are messages.
use Rattle.std.specs.Prelude.{◌≡◌, ◌≢◌, ◌==◌, ℕ, Bool, true, false, not, ◌||◌, List, [], ◌∷◌, ◌++◌, filter, Option, Some, None, Result, Ok, Err, IsOk, IsSome, IsOkAnd, if◌then◌else◌, refl}
use Rattle.std.specs.Option.{is_some}
use Rattle.std.proofs.Common.{sym, ap, ◌∙◌, subst, inl, inr, true≢false}
use Rattle.std.proofs.lemmas.List.{append-nil}
use Rattle.std.proofs.lemmas.Bool.{cases_Bool, cases_eq, eqb-true, ne_eqb}
use Rattle.of_match.specs.declared.key.Key.{Key}
use Rattle.of_wire.specs.declared.message.Envelope.{Envelope}
use Rattle.of_wire.specs.declared.message.Message.{Message}
use Rattle.of_wire.specs.declared.message.Message.TheVariants as messages
use Rattle.of_wire.specs.declared.fault.WireFault.{WireFault}
use Rattle.of_wire.specs.Reading.{reading_of}
use Rattle.flow_table.specs.View.{TableView}
use Rattle.app_frames.specs.declared.frame.Answer.{Answer}
use Rattle.app_frames.specs.declared.frame.Event.{Event}
use Rattle.outside.specs.declared.item.Item.{Item}
use Rattle.outside.specs.declared.item.Item.TheVariants as items
use Rattle.outside.specs.declared.step.WorldStep.{WorldStep}
use Rattle.outside.specs.declared.step.WorldStep.TheVariants.{From, Joined, Left}
use Rattle.outside.specs.Seen.{Seen, Continues, journal}
use Rattle.outside.specs.State.{State, state, is_joined, switch_of}
use Rattle.outside.specs.Calls.{item_step}
use Rattle.of_wire.specs.Handshake.{IsFeatures}
use Rattle.outside.specs.InOrder.{brings_message, MessagesSince}
use Rattle.net_txn.specs.Net.{NetState}
use Rattle.net_txn.specs.LinkSteps.{OnLinks, LinkSteps}
use Rattle.net_txn.specs.Abreast.{Abreast}
use Rattle.net_txn.specs.Asks.{Inquiry}
use Rattle.net_txn.specs.Queries.{Queried}
use Rattle.net_txn.specs.Settling.{key_inquiry, shows_gone}
use Rattle.net_txn.specs.laws.SettleLaws.{still_joined}
use Rattle.net_txn.specs.Losing.{GoesOut, lost_net}
use Rattle.net_txn.specs.laws.LostLaws.{losses_then}
use Rattle.lego_model.specs.Journal.{losses}
use Rattle.lego_model.specs.History.{lost_of}
use Rattle.net_txn.specs.Views.{rows_at, is_viewed}
use Rattle.net_txn.specs.Joining.{with_view}
use Rattle.net_txn.specs.laws.AgreeLaws.{viewed}
use Rattle.net_txn.specs.laws.AbreastLaws.{links-stay, links-due, with_rows-viewed, with_view-viewed, with_view-viewed-other, abreast-out, asks_abreast, viewed_joined, arrival_none_lost}
use Rattle.lego_model.specs.Echoes.{IsEchoRead}
use Rattle.batch_laws.specs.Knowledge.{Knowledge, knowledge_of, is_known, views_by, told_read, joined_read, left_by, handled}
use Rattle.batch_laws.specs.Items.{answers, DoesFrom, DoesJoined, DoesLeft, TakesInBy, TakesInAs, doubt_in, HandlesStill, HandlesLost, HandlesDoubt, WentBy, HandlesTold, SettledBy}
use Rattle.batch_laws.specs.laws.DeletionLaws.{doubt-of}
use Rattle.event_dispatch.specs.Told.{IsTold, CatchesUp}

-- ---- The views behind an item

views_by-viewed : (d e : ℕ) (m : Message) (vs : List TableView) → is_viewed e (views_by d m vs) ≡ is_viewed e vs
views_by-viewed d e (messages.FlowRemoved f) vs = with_rows-viewed d e _ vs
views_by-viewed d e (messages.Hello payload) vs = refl
views_by-viewed d e (messages.Error kind code payload) vs = refl
views_by-viewed d e (messages.EchoRequest payload) vs = refl
views_by-viewed d e (messages.EchoReply payload) vs = refl
views_by-viewed d e (messages.Vendor payload) vs = refl
views_by-viewed d e messages.FeaturesRequest vs = refl
views_by-viewed d e (messages.FeaturesReply features) vs = refl
views_by-viewed d e messages.GetConfigRequest vs = refl
views_by-viewed d e (messages.GetConfigReply config) vs = refl
views_by-viewed d e (messages.SetConfig config) vs = refl
views_by-viewed d e (messages.PacketIn packet) vs = refl
views_by-viewed d e (messages.PortStatus status) vs = refl
views_by-viewed d e (messages.PacketOut packet) vs = refl
views_by-viewed d e (messages.FlowMod m) vs = refl
views_by-viewed d e (messages.PortMod port) vs = refl
views_by-viewed d e (messages.StatsRequest m) vs = refl
views_by-viewed d e (messages.StatsReply m) vs = refl
views_by-viewed d e messages.BarrierRequest vs = refl
views_by-viewed d e messages.BarrierReply vs = refl
views_by-viewed d e (messages.QueueGetConfigRequest payload) vs = refl
views_by-viewed d e (messages.QueueGetConfigReply payload) vs = refl

read_viewed : (d e : ℕ) (r : Result Envelope WireFault) (k : Knowledge) → is_viewed e (told_read d r k).views ≡ is_viewed e k.views
read_viewed d e (Ok x) k = views_by-viewed d e x.message k.views
read_viewed d e (Err fault) k = refl

from_viewed : (d e : ℕ) (r : Result Envelope WireFault) (k : Knowledge) (known : Bool) → is_viewed e (if known then told_read d r k else k).views ≡ is_viewed e k.views
from_viewed d e r k true = read_viewed d e r k
from_viewed d e r k false = refl

left_here : (d : ℕ) (vs : List TableView) → is_viewed d (filter (λ v. not (v.dpid == d)) vs) ≡ false
left_here d [] = refl
left_here d (v ∷ vs) =
    elim (cases_Bool (v.dpid == d)) [
      | inl here ↦ rw here (left_here d vs)
      | inr other ↦ rw other (rw other (left_here d vs))
    ]

left_other : (d e : ℕ) (vs : List TableView) → e ≢ d → is_viewed e (filter (λ v. not (v.dpid == d)) vs) ≡ is_viewed e vs
left_other d e [] other = refl
left_other d e (v ∷ vs) other =
    elim (cases_Bool (v.dpid == d)) [
      | inl here ↦
          let apart : (v.dpid == e) ≡ false = ne_eqb v.dpid e (λ same. other (sym same ∙ eqb-true v.dpid d here)) in
          rw (here, apart) (left_other d e vs other)
      | inr there ↦ rw there (ap (λ (b : Bool). (v.dpid == e) || b) (left_other d e vs other))
    ]

features_views : (d : ℕ) (m : Message) (k : Knowledge) → IsFeatures d m → (joined_read d (Ok (record { xid = 0; message = m })) k).views ≡ with_view d k.views
features_views d (messages.FeaturesReply features) k is = refl
features_views d (messages.Hello payload) k is = absurd is
features_views d (messages.Error kind code payload) k is = absurd is
features_views d (messages.EchoRequest payload) k is = absurd is
features_views d (messages.EchoReply payload) k is = absurd is
features_views d (messages.Vendor payload) k is = absurd is
features_views d messages.FeaturesRequest k is = absurd is
features_views d messages.GetConfigRequest k is = absurd is
features_views d (messages.GetConfigReply config) k is = absurd is
features_views d (messages.SetConfig config) k is = absurd is
features_views d (messages.PacketIn packet) k is = absurd is
features_views d (messages.FlowRemoved flow) k is = absurd is
features_views d (messages.PortStatus status) k is = absurd is
features_views d (messages.PacketOut packet) k is = absurd is
features_views d (messages.FlowMod m) k is = absurd is
features_views d (messages.PortMod port) k is = absurd is
features_views d (messages.StatsRequest m) k is = absurd is
features_views d (messages.StatsReply m) k is = absurd is
features_views d messages.BarrierRequest k is = absurd is
features_views d messages.BarrierReply k is = absurd is
features_views d (messages.QueueGetConfigRequest payload) k is = absurd is
features_views d (messages.QueueGetConfigReply payload) k is = absurd is

joined_views : (d : ℕ) (r : Result Envelope WireFault) (k : Knowledge) → IsOkAnd r (λ e. IsFeatures d e.message) → (joined_read d r k).views ≡ with_view d k.views
joined_views d (Ok e) k is = features_views d e.message k is
joined_views d (Err fault) k is = absurd is

apart : (d e : ℕ) → e ≢ d → (d == e) ≡ false
apart d e other = ne_eqb d e (λ same. other (sym same))

-- each switch that is joined has a view then, and no other one
from_keeps : (d : ℕ) (bytes : List ℕ) (s : State) (k : Knowledge) → IsTold (From d bytes) s k.views → (e : ℕ) → is_joined e s ≡ is_viewed e (handled (From d bytes) k).views
unfolding handled
from_keeps d bytes s k told e = told.others e refl ∙ sym (from_viewed d e (reading_of bytes) k (is_known d k))

joined_keeps : (d : ℕ) (bytes : List ℕ) (s : State) (k : Knowledge) → IsTold (Joined d bytes) s k.views → (e : ℕ) → is_joined e s ≡ is_viewed e (handled (Joined d bytes) k).views
unfolding handled
joined_keeps d bytes s k told e =
    let out : is_known d k ≡ false = sym (viewed d k.views) ∙ told.told_of.1 in
    let views : (joined_read d (reading_of bytes) k).views ≡ with_view d k.views = joined_views d (reading_of bytes) k told.told_of.2 in
    let after : (if is_known d k then k else joined_read d (reading_of bytes) k).views ≡ with_view d k.views =
    ap (λ (b : Bool). (if b then k else joined_read d (reading_of bytes) k).views) out ∙ views in
    elim (cases_eq e d) [
      | inl same ↦ subst (λ (n : ℕ). is_joined n s ≡ is_viewed n (if is_known d k then k else joined_read d (reading_of bytes) k).views) (sym same)
          (told.told_of.0 ∙ sym (ap (λ (vs : List TableView). is_viewed d vs) after ∙ with_view-viewed d k.views))
      | inr other ↦ told.others e (apart d e other) ∙ sym (ap (λ (vs : List TableView). is_viewed e vs) after ∙ with_view-viewed-other d e k.views other)
    ]

left_keeps : (d : ℕ) (s : State) (k : Knowledge) → IsTold (Left d) s k.views → (e : ℕ) → is_joined e s ≡ is_viewed e (handled (Left d) k).views
unfolding handled
left_keeps d s k told e =
    let known : is_known d k ≡ true = sym (viewed d k.views) ∙ told.told_of.1 in
    let after : (if is_known d k then left_by d k else k).views ≡ filter (λ v. not (v.dpid == d)) k.views = ap (λ (b : Bool). (if b then left_by d k else k).views) known in
    elim (cases_eq e d) [
      | inl same ↦ subst (λ (n : ℕ). is_joined n s ≡ is_viewed n (if is_known d k then left_by d k else k).views) (sym same)
          (told.told_of.0 ∙ sym (ap (λ (vs : List TableView). is_viewed d vs) after ∙ left_here d k.views))
      | inr other ↦ told.others e (apart d e other) ∙ sym (ap (λ (vs : List TableView). is_viewed e vs) after ∙ left_other d e k.views other)
    ]

item_keeps : (item : Item) (buf : List ℕ) (s : State) (k : Knowledge) → IsTold (item_step item buf) s k.views → (e : ℕ) → is_joined e s ≡ is_viewed e (handled (item_step item buf) k).views
unfolding item_step handled
item_keeps (items.From d n) buf s k told e = from_keeps d _ s k told e
item_keeps (items.Joined d n) buf s k told e = joined_keeps d _ s k told e
item_keeps (items.Left d) buf s k told e = left_keeps d s k told e
item_keeps (items.Moment t) buf s k told e = told.others e refl
item_keeps items.Idle buf s k told e = told.others e refl
item_keeps items.End buf s k told e = told.others e refl

-- ---- The whole

-- a message of a switch that is joined was read
from_read : {Own : Type 0} (Tells : Type 0) (old new : Seen Own) (net now_net : NetState) (d : ℕ) (bytes : List ℕ) (known : Bool) → known ≡ true → DoesFrom Tells d bytes known old new net now_net → IsOk (reading_of bytes)
from_read Tells old new net now_net d bytes true is does = does.read
from_read Tells old new net now_net d bytes false is does = absurd (true≢false (sym is))

item_read : {Own Tells : Type 0} {text : List ℕ} {old new : Seen Own} {net now_net : NetState} {queue now_queue : List Event} (item : Item) (buf : List ℕ) → HandlesStill Tells (item_step item buf) text old new net now_net queue now_queue → IsTold (item_step item buf) (state old) net.views
    → brings_message (item_step item buf) ≡ true
unfolding item_step
item_read {Tells = Tells} {old = old} {new = new} {net = net} {now_net = now_net} (items.From d n) buf still told =
    from_read Tells old new net now_net d _ (is_some (rows_at d net.views)) (sym (viewed d net.views) ∙ sym (told.others d refl) ∙ told.told_of) still.does
item_read (items.Joined d n) buf still told = refl
item_read (items.Left d) buf still told = refl
item_read (items.Moment t) buf still told = refl
item_read items.Idle buf still told = refl
item_read items.End buf still told = refl

-- ---- No switch is lost

same_losses : {Own : Type 0} (old new : Seen Own) → new ≡ old → lost_of new ≡ lost_of old
same_losses old new same = ap lost_of same

answers_none : (d : ℕ) (r : Result Envelope WireFault) → losses (journal (answers d r)) ≡ []
unfolding journal losses
answers_none d (Ok e) = arrival_none_lost d e.xid e.message
answers_none d (Err fault) = refl

from_losses : {Own : Type 0} (Tells : Type 0) (d : ℕ) (bytes : List ℕ) (known : Bool) (old new : Seen Own) (net now_net : NetState) → DoesFrom Tells d bytes known old new net now_net → Tells → lost_of new ≡ lost_of old
from_losses Tells d bytes true old new net now_net does told =
    losses_then old new (answers d (reading_of bytes)) (does.told told) ∙ ap (λ (ds : List ℕ). lost_of old ++ ds) (answers_none d (reading_of bytes)) ∙ append-nil (lost_of old)
from_losses Tells d bytes false old new net now_net does told = same_losses old new does.seen

taken_losses : {Own : Type 0} (Tells : Type 0) (d : ℕ) (m : Message) (old new : Seen Own) (net now_net : NetState) → TakesInBy Tells d m old new net now_net → Tells → lost_of new ≡ lost_of old
taken_losses Tells d (messages.FeaturesReply features) old new net now_net takes told = takes.joins.losses told
taken_losses Tells d (messages.Hello payload) old new net now_net takes told = same_losses old new takes.seen
taken_losses Tells d (messages.Error kind code payload) old new net now_net takes told = same_losses old new takes.seen
taken_losses Tells d (messages.EchoRequest payload) old new net now_net takes told = same_losses old new takes.seen
taken_losses Tells d (messages.EchoReply payload) old new net now_net takes told = same_losses old new takes.seen
taken_losses Tells d (messages.Vendor payload) old new net now_net takes told = same_losses old new takes.seen
taken_losses Tells d messages.FeaturesRequest old new net now_net takes told = same_losses old new takes.seen
taken_losses Tells d messages.GetConfigRequest old new net now_net takes told = same_losses old new takes.seen
taken_losses Tells d (messages.GetConfigReply config) old new net now_net takes told = same_losses old new takes.seen
taken_losses Tells d (messages.SetConfig config) old new net now_net takes told = same_losses old new takes.seen
taken_losses Tells d (messages.PacketIn packet) old new net now_net takes told = same_losses old new takes.seen
taken_losses Tells d (messages.FlowRemoved flow) old new net now_net takes told = same_losses old new takes.seen
taken_losses Tells d (messages.PortStatus status) old new net now_net takes told = same_losses old new takes.seen
taken_losses Tells d (messages.PacketOut packet) old new net now_net takes told = same_losses old new takes.seen
taken_losses Tells d (messages.FlowMod m) old new net now_net takes told = same_losses old new takes.seen
taken_losses Tells d (messages.PortMod port) old new net now_net takes told = same_losses old new takes.seen
taken_losses Tells d (messages.StatsRequest m) old new net now_net takes told = same_losses old new takes.seen
taken_losses Tells d (messages.StatsReply m) old new net now_net takes told = same_losses old new takes.seen
taken_losses Tells d messages.BarrierRequest old new net now_net takes told = same_losses old new takes.seen
taken_losses Tells d messages.BarrierReply old new net now_net takes told = same_losses old new takes.seen
taken_losses Tells d (messages.QueueGetConfigRequest payload) old new net now_net takes told = same_losses old new takes.seen
taken_losses Tells d (messages.QueueGetConfigReply payload) old new net now_net takes told = same_losses old new takes.seen

taken_as : {Own : Type 0} (Tells : Type 0) (d : ℕ) (r : Result Envelope WireFault) (old new : Seen Own) (net now_net : NetState) → TakesInAs Tells d r old new net now_net → Tells → lost_of new ≡ lost_of old
taken_as Tells d (Ok e) old new net now_net takes told = taken_losses Tells d e.message old new net now_net takes told
taken_as Tells d (Err fault) old new net now_net takes told = same_losses old new takes.seen

joined_losses : {Own : Type 0} (Tells : Type 0) (d : ℕ) (bytes : List ℕ) (known : Bool) (old new : Seen Own) (net now_net : NetState) → DoesJoined Tells d bytes known old new net now_net → Tells → lost_of new ≡ lost_of old
joined_losses Tells d bytes true old new net now_net does told = same_losses old new does.seen
joined_losses Tells d bytes false old new net now_net does told = taken_as Tells d (reading_of bytes) old new net now_net does told

left_losses : {Own : Type 0} (d : ℕ) (known : Bool) (old new : Seen Own) (net now_net : NetState) → DoesLeft d known old new net now_net → lost_of new ≡ lost_of old
left_losses d true old new net now_net does = same_losses old new does.seen
left_losses d false old new net now_net does = same_losses old new does.seen

still_losses : {Own Tells : Type 0} {text : List ℕ} {old new : Seen Own} {net now_net : NetState} {queue now_queue : List Event} (item : Item) (buf : List ℕ) → HandlesStill Tells (item_step item buf) text old new net now_net queue now_queue → Tells → lost_of new ≡ lost_of old
unfolding item_step
still_losses {Tells = Tells} {old = old} {new = new} {net = net} {now_net = now_net} (items.From d n) buf still told = from_losses Tells d _ (is_some (rows_at d net.views)) old new net now_net still.does told
still_losses {Tells = Tells} {old = old} {new = new} {net = net} {now_net = now_net} (items.Joined d n) buf still told = joined_losses Tells d _ (is_some (rows_at d net.views)) old new net now_net still.does told
still_losses {old = old} {new = new} {net = net} {now_net = now_net} (items.Left d) buf still told = left_losses d (is_some (rows_at d net.views)) old new net now_net still.does
still_losses {old = old} {new = new} (items.Moment t) buf still told = same_losses old new still.does.seen
still_losses {old = old} {new = new} items.Idle buf still told = same_losses old new still.does.seen
still_losses {old = old} {new = new} items.End buf still told = same_losses old new still.does.seen

-- An item was handled by calls of links alone, and what came were messages.
still_caught_up : {Own Tells : Type 0} {text : List ℕ} {old new : Seen Own} {net now_net : NetState} {queue now_queue : List Event} (item : Item) (buf : List ℕ) → Continues Tells old new → HandlesStill Tells (item_step item buf) text old new net now_net queue now_queue → OnLinks Tells old new
    → (Tells → MessagesSince old new) → CatchesUp Tells (item_step item buf) old new net now_net
still_caught_up {Tells = Tells} {old = old} {new = new} {net = net} {now_net = now_net} {queue = queue} {now_queue = now_queue} item buf later still links read = record {
  abreast = λ told order at. record {
    joined = λ e. links-stay later (links told) (still_losses item buf still told) e ∙ item_keeps item buf (state old) (knowledge_of net queue) at e ∙ sym (ap (λ (k : Knowledge). is_viewed e k.views) still.knowledge);
    none_due = links-due later (links told) ∙ at.none_due;
  };
  item = λ told order at. item_read item buf still at;
  read = read;
}

-- ---- Its switch is lost

out_joined : {Own : Type 0} (d : ℕ) (seen : Seen Own) → switch_of d (state seen) ≡ None → is_joined d (state seen) ≡ false
out_joined d seen out = ap is_some out

-- it joined, and is out again
joined_out : {Own : Type 0} (Tells : Type 0) (d : ℕ) (bytes : List ℕ) (old new : Seen Own) (net now_net : NetState) → Continues Tells old new → LinkSteps old new → IsTold (Joined d bytes) (state old) net.views → GoesOut d [] old new → now_net.views ≡ net.views → Abreast new now_net
joined_out Tells d bytes old new net now_net later links told out views = record {
  joined = λ e. elim (cases_eq e d) [
    | inl same ↦ subst (λ (n : ℕ). is_joined n (state new) ≡ is_viewed n now_net.views) (sym same) (out_joined d new out.out ∙ sym (ap (is_viewed d) views ∙ told.told_of.1))
    | inr other ↦ ap is_some (out.others e other) ∙ told.others e (apart d e other) ∙ sym (ap (is_viewed e) views)
  ];
  none_due = links-due later links ∙ told.none_due;
}

-- its message came
from_out : {Own : Type 0} (Tells : Type 0) (d : ℕ) (bytes : List ℕ) (old new : Seen Own) (net now_net : NetState) → Continues Tells old new → LinkSteps old new → IsTold (From d bytes) (state old) net.views → GoesOut d [] old new → now_net.views ≡ (lost_net d net).views → Abreast new now_net
from_out Tells d bytes old new net now_net later links told out views = abreast-out net now_net [] later links out views (record { joined = λ e. told.others e refl; none_due = told.none_due })

-- the message can be read
echo_brings : (r : Result Envelope WireFault) → IsEchoRead r → IsOk r
echo_brings (Ok e) is = refl
echo_brings (Err fault) is = absurd is

at_from : {Own Tells : Type 0} {e : ℕ} {bytes text : List ℕ} {old new : Seen Own} {net now_net : NetState} {queue now_queue : List Event} → Continues Tells old new → HandlesLost Tells (From e bytes) text old new net now_net queue now_queue → OnLinks Tells old new → (Tells → MessagesSince old new)
    → CatchesUp Tells (From e bytes) old new net now_net
at_from {Tells = Tells} {e = e} {bytes = bytes} {old = old} {new = new} {net = net} {now_net = now_net} later lost links read = record {
  abreast = λ told order at.
      let here : IsTold (From lost.dpid bytes) (state old) net.views = subst (λ (n : ℕ). IsTold (From n bytes) (state old) net.views) lost.at.0 at in
      from_out Tells lost.dpid bytes old new net now_net later (links told) here (lost.is_lost.out told here.told_of) (ap (λ (k : Knowledge). k.views) lost.knowledge);
  item = λ told order at. echo_brings (reading_of bytes) lost.at.2;
  read = read;
}

at_joined : {Own Tells : Type 0} {e : ℕ} {bytes text : List ℕ} {old new : Seen Own} {net now_net : NetState} {queue now_queue : List Event} → Continues Tells old new → HandlesLost Tells (Joined e bytes) text old new net now_net queue now_queue → OnLinks Tells old new → (Tells → MessagesSince old new)
    → CatchesUp Tells (Joined e bytes) old new net now_net
at_joined {Tells = Tells} {e = e} {bytes = bytes} {old = old} {new = new} {net = net} {now_net = now_net} later lost links read = record {
  abreast = λ told order at.
      let here : IsTold (Joined lost.dpid bytes) (state old) net.views = subst (λ (n : ℕ). IsTold (Joined n bytes) (state old) net.views) lost.at.0 at in
      joined_out Tells lost.dpid bytes old new net now_net later (links told) here (lost.is_lost.out told here.told_of.0) (ap (λ (k : Knowledge). k.views) lost.knowledge);
  item = λ told order at. refl;
  read = read;
}

lost_caught_up : {Own Tells : Type 0} {text : List ℕ} {old new : Seen Own} {net now_net : NetState} {queue now_queue : List Event} (item : Item) (buf : List ℕ) → Continues Tells old new → HandlesLost Tells (item_step item buf) text old new net now_net queue now_queue → OnLinks Tells old new
    → (Tells → MessagesSince old new) → CatchesUp Tells (item_step item buf) old new net now_net
unfolding item_step
lost_caught_up (items.From d n) buf later lost links read = at_from later lost links read
lost_caught_up (items.Joined d n) buf later lost links read = at_joined later lost links read
lost_caught_up (items.Left d) buf later lost links read = absurd lost.at
lost_caught_up (items.Moment t) buf later lost links read = absurd lost.at
lost_caught_up items.Idle buf later lost links read = absurd lost.at
lost_caught_up items.End buf later lost links read = absurd lost.at

-- ---- A notice in doubt: its switch is asked, and then it is taken or dropped

-- what was asked moves no switch, or loses the one that was asked
pub asked_abreast : {Own Tells : Type 0} {i : Inquiry} {old new : Seen Own} (net now_net : NetState) (answer : Answer) → Queried Tells i old new net now_net (Ok answer) → is_viewed i.dpid net.views ≡ true → Tells → Abreast old net → Abreast new now_net
asked_abreast {i = i} net now_net answer asked is told abreast = elim asked.queried [
  | inl q ↦ asks_abreast net now_net asked.continues (asked.links told) (q.losses told) (ap (λ (n : NetState). n.views) q.stays) abreast
  | inr lost ↦ abreast-out net now_net [] asked.continues (asked.links told) (lost.1.is_lost.out told (viewed_joined abreast i.dpid is)) (ap (λ (n : NetState). n.views) lost.1.net_is) abreast
]

settled_abreast : {Own Tells : Type 0} (d : ℕ) (bytes text : List ℕ) (mid new : Seen Own) (mid_net now_net : NetState) (queue now_queue : List Event) (gone : Bool) → Continues Tells mid new → OnLinks Tells mid new → Tells → (gone ≡ true → IsSome (rows_at d mid_net.views)) → Abreast mid mid_net
    → SettledBy Tells (From d bytes) text gone mid new mid_net now_net queue now_queue → Abreast new now_net
settled_abreast {Tells = Tells} d bytes text mid new mid_net now_net queue now_queue true later links told known there still =
    let at : IsTold (From d bytes) (state mid) mid_net.views = record { others = λ e other. there.joined e; told_of = there.joined d ∙ viewed d mid_net.views ∙ known refl; none_due = there.none_due } in
    record {
      joined = λ e. links-stay later (links told) (from_losses Tells d bytes (is_some (rows_at d mid_net.views)) mid new mid_net now_net still.does told) e ∙ from_keeps d bytes (state mid) (knowledge_of mid_net queue) at e
          ∙ sym (ap (λ (k : Knowledge). is_viewed e k.views) still.knowledge);
      none_due = links-due later (links told) ∙ there.none_due;
    }
settled_abreast d bytes text mid new mid_net now_net queue now_queue false later links told known there dropped =
    subst (λ (s : Seen _). Abreast s now_net) (sym dropped.0) (record { joined = λ e. there.joined e ∙ sym (ap (λ (n : NetState). is_viewed e n.views) dropped.1); none_due = there.none_due })

doubt_caught_up : {Own Tells : Type 0} {item : WorldStep} {text : List ℕ} {key : Key} {old new : Seen Own} {net now_net : NetState} {queue now_queue : List Event} → HandlesDoubt Tells item text key old new net now_net queue now_queue → (Tells → MessagesSince old new) → CatchesUp Tells item old new net now_net
doubt_caught_up {Tells = Tells} {text = text} {key = key} {old = old} {new = new} {net = net} {now_net = now_net} {queue = queue} {now_queue = now_queue} doubt read =
    let d = doubt.dpid in
    let of = doubt-of d net.views (reading_of doubt.bytes) key doubt.doubt in
    let settled = subst (λ (i : WorldStep). SettledBy Tells i text (shows_gone key doubt.answer) doubt.mid new doubt.mid_net now_net queue now_queue) doubt.item_is doubt.settled in
    subst (λ (i : WorldStep). CatchesUp Tells i old new net now_net) (sym doubt.item_is) (record {
      abreast = λ told order at.
          let is : is_viewed d net.views ≡ true = sym (at.others d refl) ∙ at.told_of in
          let there = asked_abreast net doubt.mid_net doubt.answer doubt.asked is told (record { joined = λ e. at.others e refl; none_due = at.none_due }) in
          settled_abreast d doubt.bytes text doubt.mid new doubt.mid_net now_net queue now_queue (shows_gone key doubt.answer) doubt.later doubt.links told
          (λ gone. still_joined (key_inquiry d net.xid key) key old doubt.mid net doubt.mid_net doubt.answer doubt.asked gone (sym (viewed d net.views) ∙ is)) there settled;
      item = λ told order at. rw of.read_is refl;
      read = read;
    })

caught_by : {Own Tells : Type 0} (text : List ℕ) (old new : Seen Own) (net now_net : NetState) (queue now_queue : List Event) (item : Item) (buf : List ℕ) (doubt : Option Key) → Continues Tells old new → WentBy Tells (item_step item buf) text doubt old new net now_net queue now_queue → OnLinks Tells old new
    → (Tells → MessagesSince old new) → CatchesUp Tells (item_step item buf) old new net now_net
caught_by text old new net now_net queue now_queue item buf None later (inl still) links read = still_caught_up item buf later still links read
caught_by text old new net now_net queue now_queue item buf None later (inr lost) links read = lost_caught_up item buf later lost links read
caught_by text old new net now_net queue now_queue item buf (Some key) later doubt links read = doubt_caught_up doubt read

pub caught_up : {Own Tells : Type 0} {text : List ℕ} {old new : Seen Own} {net now_net : NetState} {queue now_queue : List Event} (item : Item) (buf : List ℕ) → HandlesTold Tells (item_step item buf) text old new net now_net queue now_queue → OnLinks Tells old new → (Tells → MessagesSince old new)
    → CatchesUp Tells (item_step item buf) old new net now_net
caught_up {text = text} {old = old} {new = new} {net = net} {now_net = now_net} {queue = queue} {now_queue = now_queue} item buf handles links read =
    caught_by text old new net now_net queue now_queue item buf (doubt_in (item_step item buf) net.views) handles.continues handles.went links read
