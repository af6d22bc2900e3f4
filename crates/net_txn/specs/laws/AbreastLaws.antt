-- Laws of hosts that keep up with their switches: calls of links move no switch in, and out those alone that are lost, and make nothing due, so
-- that a host whose views lose these switches goes on to keep up.
use Rattle.std.specs.Prelude.{◌≡◌, ◌≢◌, ◌==◌, ◌⊎◌, ℕ, Bool, true, false, not, ◌&&◌, ◌||◌, List, [], ◌∷◌, ◌++◌, map, drop, filter, Option, Result, Ok, Err, IsOkAnd, if◌then◌else◌, refl}
use Rattle.std.specs.Option.{is_some}
use Rattle.std.proofs.Common.{sym, ap, ◌∙◌, subst, inl, inr}
use Rattle.std.proofs.lemmas.Bool.{eqb-true}
use Rattle.std.proofs.lemmas.List.{append-nil, append_cancel_left}
use Rattle.of_match.specs.declared.key.Key.{Key}
use Rattle.of_wire.specs.declared.message.Envelope.{Envelope}
use Rattle.of_wire.specs.declared.message.Message.{Message}
use Rattle.of_wire.specs.declared.message.Message.TheVariants as messages
use Rattle.of_wire.specs.declared.fault.WireFault.{WireFault}
use Rattle.of_wire.specs.Reading.{reading_of}
use Rattle.flow_table.specs.declared.view.ViewRow.{ViewRow}
use Rattle.flow_table.specs.View.{TableView}
use Rattle.app_frames.specs.declared.frame.Answer.{Answer}
use Rattle.app_frames.specs.declared.frame.Event.{Event}
use Rattle.outside.specs.declared.step.WorldStep.{WorldStep}
use Rattle.outside.specs.Seen.{Seen, Continues, journal}
use Rattle.outside.specs.State.{State, state, is_joined}
use Rattle.outside.specs.laws.StateLaws.{state-append}
use Rattle.outside.specs.Quiescence.{NoneQuiescent, NoneQuiescentSince}
use Rattle.outside.specs.laws.QuiescenceLaws.{none_since-by}
use Rattle.lego_model.specs.declared.fault.TxnFault.{TxnFault}
use Rattle.net_txn.specs.LinkSteps.{AreLinkSteps, LinkSteps}
use Rattle.net_txn.specs.Views.{with_rows, is_viewed}
use Rattle.net_txn.specs.Net.{NetState}
use Rattle.net_txn.specs.Joining.{with_view}
use Rattle.net_txn.specs.laws.JoiningLaws.{rows_at-with_view, rows_at-with_view-other}
use Rattle.net_txn.specs.Arriving.{net_after, arrival_steps, Becomes, ArrivesLost, Arrives}
use Rattle.flow_table.specs.Sorted.{without_key}
use Rattle.net_txn.specs.Changes.{Changes}
use Rattle.net_txn.specs.Undos.{without_keys, key_logged, lost_parts, AreJoined, Undoes}
use Rattle.net_txn.specs.Releases.{Commits}
use Rattle.net_txn.specs.Losing.{lost_net, lose_all, GoesOut}
use Rattle.lego_model.specs.Journal.{losses}
use Rattle.lego_model.specs.Packets.{Held}
use Rattle.lego_model.specs.History.{lost_of}
use Rattle.net_txn.specs.laws.ViewLaws.{viewed}
use Rattle.net_txn.specs.Abreast.{Abreast}
use Rattle.net_txn.specs.laws.LinkPresenceLaws.{LeavesSo, lost_by_all, stays_in, stays-none, stays-then, step_leaves, steps_leave, losses_by}
use Rattle.net_txn.specs.laws.LostLaws.{losses_then}

-- ---- Steps of links alone

links_leave : {Own : Type 0} {Tells : Type 0} {old new : Seen Own} → Continues Tells old new → (l : LinkSteps old new) → LeavesSo (lost_by_all l.steps) (state old) (state new)
links_leave {old = old} {new = new} later links =
    subst (λ (s : State). LeavesSo (lost_by_all links.steps) (state old) s) (sym (state-append old new links.steps later.given links.history)) (steps_leave links.steps (state old) links.all)

pub links-joined : {Own : Type 0} {Tells : Type 0} {old new : Seen Own} → Continues Tells old new → (l : LinkSteps old new) → (d : ℕ) → is_joined d (state new) ≡ stays_in d (losses (journal l.steps)) (is_joined d (state old))
links-joined {old = old} later links d = (links_leave later links).joined d ∙ ap (λ (ds : List ℕ). stays_in d ds (is_joined d (state old))) (sym (losses_by links.steps links.all))

-- which are lost, by what the history tells
pub links-lost : {Own : Type 0} {Tells : Type 0} {old new : Seen Own} (lost : List ℕ) → Continues Tells old new → LinkSteps old new → lost_of new ≡ lost_of old ++ lost → (d : ℕ) → is_joined d (state new) ≡ stays_in d lost (is_joined d (state old))
links-lost {old = old} {new = new} lost later links told d =
    links-joined later links d
    ∙ ap (λ (ds : List ℕ). stays_in d ds (is_joined d (state old))) (append_cancel_left (lost_of old) (losses (journal links.steps)) lost (sym (losses_then old new links.steps links.history) ∙ told))

-- none
pub links-stay : {Own : Type 0} {Tells : Type 0} {old new : Seen Own} → Continues Tells old new → LinkSteps old new → lost_of new ≡ lost_of old → (d : ℕ) → is_joined d (state new) ≡ is_joined d (state old)
links-stay {old = old} later links told d = links-lost [] later links (told ∙ sym (append-nil (lost_of old))) d ∙ sym (stays-none d (is_joined d (state old)))

pub links-due : {Own : Type 0} {Tells : Type 0} {old new : Seen Own} → Continues Tells old new → LinkSteps old new → (state new).due ≡ (state old).due
links-due later links = (links_leave later links).due

pub links-begun : {Own : Type 0} {Tells : Type 0} {old new : Seen Own} → Continues Tells old new → LinkSteps old new → (state new).begun ≡ (state old).begun
links-begun later links = (links_leave later links).begun

-- what a step is does not depend on the state
none_quiescent : (steps : List WorldStep) (s : State) → AreLinkSteps steps → NoneQuiescent steps
none_quiescent [] s all = tt
none_quiescent (x ∷ xs) s all = ((step_leaves x s all.0).none_quiescent, none_quiescent xs s all.1)

pub links-none_quiescent : {Own : Type 0} {old new : Seen Own} → LinkSteps old new → NoneQuiescentSince old new
links-none_quiescent {old = old} {new = new} links = none_since-by old new links.steps links.history (none_quiescent links.steps (state old) links.all)

-- ---- Views that keep their switches

row_viewed : (e : ℕ) (change : List ViewRow → List ViewRow) (v : TableView) (vs changed : List TableView) (here : Bool) → is_viewed e changed ≡ is_viewed e vs
    → is_viewed e (if here then record v { rows = change v.rows } ∷ vs else v ∷ changed) ≡ is_viewed e (v ∷ vs)
row_viewed e change v vs changed true rest = refl
row_viewed e change v vs changed false rest = ap (λ (b : Bool). (v.dpid == e) || b) rest

pub with_rows-viewed : (d e : ℕ) (change : List ViewRow → List ViewRow) (vs : List TableView) → is_viewed e (with_rows d change vs) ≡ is_viewed e vs
with_rows-viewed d e change [] = refl
with_rows-viewed d e change (v ∷ vs) = row_viewed e change v vs (with_rows d change vs) (v.dpid == d) (with_rows-viewed d e change vs)

pub without_keys-viewed : (e : ℕ) (ps : List (ℕ × Key)) (vs : List TableView) → is_viewed e (without_keys ps vs) ≡ is_viewed e vs
without_keys-viewed e [] vs = refl
without_keys-viewed e (p ∷ ps) vs = without_keys-viewed e ps (with_rows p.0 (without_key p.1) vs) ∙ with_rows-viewed p.0 e (without_key p.1) vs

abbrev rows_there : Option (List ViewRow) → Bool
rows_there o = is_some o

pub with_view-viewed : (d : ℕ) (vs : List TableView) → is_viewed d (with_view d vs) ≡ true
with_view-viewed d vs = viewed d (with_view d vs) ∙ ap rows_there (rows_at-with_view d vs)

pub with_view-viewed-other : (d e : ℕ) (vs : List TableView) → e ≢ d → is_viewed e (with_view d vs) ≡ is_viewed e vs
with_view-viewed-other d e vs other = viewed e (with_view d vs) ∙ ap rows_there (rows_at-with_view-other d e vs other) ∙ sym (viewed e vs)

abbrev pub in_views : ℕ → List TableView → Bool
in_views e vs = is_viewed e vs

pub arrival_viewed : (d e : ℕ) (m : Message) (net : NetState) → is_viewed e (net_after d m net).views ≡ is_viewed e net.views
arrival_viewed d e (messages.FlowRemoved f) net = with_rows-viewed d e _ net.views
arrival_viewed d e (messages.PortStatus status) net = refl
arrival_viewed d e (messages.Hello payload) net = refl
arrival_viewed d e (messages.Error kind code payload) net = refl
arrival_viewed d e (messages.EchoRequest payload) net = refl
arrival_viewed d e (messages.EchoReply payload) net = refl
arrival_viewed d e (messages.Vendor payload) net = refl
arrival_viewed d e messages.FeaturesRequest net = refl
arrival_viewed d e (messages.FeaturesReply features) net = refl
arrival_viewed d e messages.GetConfigRequest net = refl
arrival_viewed d e (messages.GetConfigReply config) net = refl
arrival_viewed d e (messages.SetConfig config) net = refl
arrival_viewed d e (messages.PacketIn packet) net = refl
arrival_viewed d e (messages.PacketOut packet) net = refl
arrival_viewed d e (messages.FlowMod m) net = refl
arrival_viewed d e (messages.PortMod port) net = refl
arrival_viewed d e (messages.StatsRequest m) net = refl
arrival_viewed d e (messages.StatsReply m) net = refl
arrival_viewed d e messages.BarrierRequest net = refl
arrival_viewed d e messages.BarrierReply net = refl
arrival_viewed d e (messages.QueueGetConfigRequest payload) net = refl
arrival_viewed d e (messages.QueueGetConfigReply payload) net = refl

-- views without a switch

at_once : (b : Bool) → (b && false) ≡ false
at_once true = refl
at_once false = refl

abbrev goes : ℕ → TableView → Bool
goes d v = not (v.dpid == d)

forget_at : (d e : ℕ) (v : TableView) (vs : List TableView) → is_viewed e (filter (goes d) vs) ≡ stays_in e (d ∷ []) (is_viewed e vs) → (here there : Bool) → (v.dpid == d) ≡ here → (d == e) ≡ there
    → is_viewed e (if not here then v ∷ filter (goes d) vs else filter (goes d) vs) ≡ stays_in e (d ∷ []) ((v.dpid == e) || is_viewed e vs)
forget_at d e v vs rest true true h t = rest ∙ rw t (at_once (is_viewed e vs) ∙ sym (at_once ((v.dpid == e) || is_viewed e vs)))
forget_at d e v vs rest true false h t =
    let other : (v.dpid == e) ≡ false = ap (λ (n : ℕ). n == e) (eqb-true v.dpid d h) ∙ t in
    rest ∙ rw other refl
forget_at d e v vs rest false true h t =
    let other : (v.dpid == e) ≡ false = ap (λ (n : ℕ). v.dpid == n) (sym (eqb-true d e t)) ∙ h in
    rw other rest
forget_at d e v vs rest false false h t =
    ap (λ (b : Bool). (v.dpid == e) || b) (rest ∙ kept (is_viewed e vs)) ∙ sym (kept ((v.dpid == e) || is_viewed e vs))
  where
    kept : (b : Bool) → stays_in e (d ∷ []) b ≡ b
    kept true = rw t refl
    kept false = refl

pub forget-viewed : (d e : ℕ) (vs : List TableView) → is_viewed e (filter (goes d) vs) ≡ stays_in e (d ∷ []) (is_viewed e vs)
forget-viewed d e [] = refl
forget-viewed d e (v ∷ vs) = forget_at d e v vs (forget-viewed d e vs) (v.dpid == d) (d == e) refl refl

pub lose_all-viewed : (e : ℕ) (lost : List ℕ) (net : NetState) → is_viewed e (lose_all lost net).views ≡ stays_in e lost (is_viewed e net.views)
lose_all-viewed e [] net = stays-none e (is_viewed e net.views)
lose_all-viewed e (d ∷ ds) net =
    lose_all-viewed e ds (lost_net d net) ∙ ap (stays_in e ds) (forget-viewed d e net.views) ∙ stays-then e (d ∷ []) ds (is_viewed e net.views)

-- ---- The host keeps up

-- where these switches are lost
pub abreast-lost : {Own : Type 0} {Tells : Type 0} {old new : Seen Own} (net now_net : NetState) (lost : List ℕ) → Continues Tells old new → LinkSteps old new → lost_of new ≡ lost_of old ++ lost
    → ((e : ℕ) → is_viewed e now_net.views ≡ stays_in e lost (is_viewed e net.views)) → Abreast old net → Abreast new now_net
abreast-lost net now_net lost later links told views abreast = record {
  joined = λ e. links-lost lost later links told e ∙ ap (stays_in e lost) (abreast.joined e) ∙ sym (views e);
  none_due = links-due later links ∙ abreast.none_due;
}

-- where none is lost
pub abreast-by : {Own : Type 0} {Tells : Type 0} {old new : Seen Own} (net now_net : NetState) → Continues Tells old new → LinkSteps old new → lost_of new ≡ lost_of old → ((e : ℕ) → is_viewed e now_net.views ≡ is_viewed e net.views) → Abreast old net → Abreast new now_net
abreast-by net now_net later links told views abreast = record {
  joined = λ e. links-stay later links told e ∙ abreast.joined e ∙ sym (views e);
  none_due = links-due later links ∙ abreast.none_due;
}

-- where one is lost
pub abreast-out : {Own : Type 0} {Tells : Type 0} {old new : Seen Own} {d : ℕ} (net now_net : NetState) (packets : List Held) → Continues Tells old new → LinkSteps old new → GoesOut d packets old new → now_net.views ≡ (lost_net d net).views → Abreast old net → Abreast new now_net
abreast-out {old = old} {new = new} {d = d} net now_net packets later links out views abreast =
    abreast-lost net now_net (d ∷ []) later links (losses_then old new out.steps out.history ∙ ap (λ (ds : List ℕ). lost_of old ++ ds) out.lost)
    (λ e. ap (in_views e) views ∙ forget-viewed d e net.views) abreast

-- a call that leaves the views
pub asks_abreast : {Own : Type 0} {Tells : Type 0} {old new : Seen Own} (net now_net : NetState) → Continues Tells old new → LinkSteps old new → lost_of new ≡ lost_of old → now_net.views ≡ net.views → Abreast old net → Abreast new now_net
asks_abreast net now_net later links told views abreast = abreast-by net now_net later links told (λ e. ap (in_views e) views) abreast

pub viewed_joined : {Own : Type 0} {seen : Seen Own} {net : NetState} → Abreast seen net → AreJoined net.views (state seen)
viewed_joined abreast d viewed = abreast.joined d ∙ viewed

pub changes_abreast : {Own : Type 0} {Tells : Type 0} {d : ℕ} {bytes : List ℕ} {old new : Seen Own} {net now_net : NetState} {result : Result Answer TxnFault} → Changes Tells d bytes old new net now_net result → Tells → Abreast old net → Abreast new now_net
changes_abreast {d = d} {net = net} {now_net = now_net} c told abreast =
    elim c.answered [
      | inl j ↦ abreast-by net now_net c.continues (c.links told) (j.losses told) (λ e. viewed e now_net.views ∙ j.switches e ∙ sym (viewed e net.views)) abreast
      | inr l ↦ abreast-out net now_net [] c.continues (c.links told) (l.2.is_lost.out told (viewed_joined abreast d l.2.viewed)) (ap (λ (n : NetState). n.views) l.2.net_is) abreast
    ]

pub undoes_abreast : {Own : Type 0} {Tells : Type 0} {start : ℕ} {old new : Seen Own} {net now_net : NetState} {result : Result (Unit {0}) TxnFault} → Undoes Tells start old new net now_net result → Tells → Abreast old net → Abreast new now_net
undoes_abreast {start = start} {net = net} {now_net = now_net} u told abreast =
    let lost = lost_parts u.parts in
    abreast-lost net now_net lost u.continues (u.links told) (u.losses told (viewed_joined abreast))
    (λ e. ap (λ (n : NetState). is_viewed e n.views) u.net_is ∙ lose_all-viewed e lost _ ∙ ap (stays_in e lost) (without_keys-viewed e (map key_logged (drop start net.log)) net.views)) abreast

pub commits_abreast : {Own : Type 0} {Tells : Type 0} {start : ℕ} {old new : Seen Own} {net now_net : NetState} {queue now_queue : List Event} {result : Result (List (ℕ × ℕ)) TxnFault} → Commits Tells start old new net now_net queue now_queue result → Tells → Abreast old net → Abreast new now_net
commits_abreast {net = net} {now_net = now_net} c told abreast = abreast-lost net now_net c.lost c.continues (c.links told) (c.losses told (viewed_joined abreast)) c.switches abreast

-- an ECHO_REQUEST alone is answered
pub arrival_none_lost : (d xid : ℕ) (m : Message) → losses (journal (arrival_steps d xid m)) ≡ []
unfolding journal losses
arrival_none_lost d xid (messages.EchoRequest payload) = refl
arrival_none_lost d xid (messages.Hello payload) = refl
arrival_none_lost d xid (messages.Error kind code payload) = refl
arrival_none_lost d xid (messages.EchoReply payload) = refl
arrival_none_lost d xid (messages.Vendor payload) = refl
arrival_none_lost d xid messages.FeaturesRequest = refl
arrival_none_lost d xid (messages.FeaturesReply features) = refl
arrival_none_lost d xid messages.GetConfigRequest = refl
arrival_none_lost d xid (messages.GetConfigReply config) = refl
arrival_none_lost d xid (messages.SetConfig config) = refl
arrival_none_lost d xid (messages.PacketIn packet) = refl
arrival_none_lost d xid (messages.FlowRemoved flow) = refl
arrival_none_lost d xid (messages.PortStatus status) = refl
arrival_none_lost d xid (messages.PacketOut packet) = refl
arrival_none_lost d xid (messages.FlowMod m) = refl
arrival_none_lost d xid (messages.PortMod port) = refl
arrival_none_lost d xid (messages.StatsRequest m) = refl
arrival_none_lost d xid (messages.StatsReply m) = refl
arrival_none_lost d xid messages.BarrierRequest = refl
arrival_none_lost d xid messages.BarrierReply = refl
arrival_none_lost d xid (messages.QueueGetConfigRequest payload) = refl
arrival_none_lost d xid (messages.QueueGetConfigReply payload) = refl

became_abreast : {Own : Type 0} {Tells : Type 0} {d xid : ℕ} {m : Message} {old new : Seen Own} {net now_net : NetState} {event : Option Event} → Continues Tells old new → LinkSteps old new → Tells → Abreast old net → is_viewed d net.views ≡ true
    → Becomes Tells d xid m old new net now_net event ⊎ ArrivesLost Tells d m old new net now_net event → Abreast new now_net
became_abreast {d = d} {xid = xid} {m = m} {old = old} {new = new} {net = net} {now_net = now_net} later links told abreast joined (inl b) =
    abreast-by net now_net later links (losses_then old new (arrival_steps d xid m) (b.told told) ∙ ap (λ (ds : List ℕ). lost_of old ++ ds) (arrival_none_lost d xid m) ∙ append-nil (lost_of old))
    (λ e. ap (λ (n : NetState). is_viewed e n.views) b.net_is ∙ arrival_viewed d e m net) abreast
became_abreast {d = d} {net = net} {now_net = now_net} later links told abreast joined (inr l) =
    abreast-out net now_net [] later links (l.is_lost.out told (viewed_joined abreast d joined)) (ap (λ (n : NetState). n.views) l.net_is) abreast

read_abreast : {Own : Type 0} {Tells : Type 0} {old new : Seen Own} {net now_net : NetState} (d : ℕ) (event : Option Event) (r : Result Envelope WireFault) → Continues Tells old new → LinkSteps old new → Tells → Abreast old net → is_viewed d net.views ≡ true
    → IsOkAnd r (λ x. Becomes Tells d x.xid x.message old new net now_net event ⊎ ArrivesLost Tells d x.message old new net now_net event) → Abreast new now_net
read_abreast d event (Ok x) later links told abreast joined b = became_abreast later links told abreast joined b
read_abreast d event (Err fault) later links told abreast joined b = absurd b

-- a message of a switch that is joined
pub arrives_abreast : {Own : Type 0} {Tells : Type 0} {d : ℕ} {frame : List ℕ} {old new : Seen Own} {net now_net : NetState} {result : Result (Option Event) TxnFault} → is_viewed d net.views ≡ true → Arrives Tells d frame old new net now_net result → Tells → Abreast old net → Abreast new now_net
arrives_abreast {d = d} {frame = frame} {result = Ok event} joined a told abreast = read_abreast d event (reading_of frame) a.continues (a.links told) told abreast joined a.read
arrives_abreast {net = net} {now_net = now_net} {result = Err fault} joined a told abreast = abreast-by net now_net a.continues (a.links told) (a.losses told) (λ e. ap (λ (n : NetState). is_viewed e n.views) a.err) abreast
