-- What the engine knows after messages of a switch that are neither notices nor news of ports: nothing but more events that wait.
use Rattle.std.proofs.Common.{◌≡◌, ℕ, true, List, [], ◌∷◌, ◌++◌, map, Option, Some, None, Result, Ok, Err, refl, sym, ap, ◌∙◌, append_assoc}
use Rattle.std.proofs.lemmas.List.{append-nil}
use Rattle.std.specs.Prelude.{is_some}
use Rattle.std.specs.List.{cons_option}
use Rattle.of_wire.specs.declared.message.Message.{Message}
use Rattle.of_wire.specs.declared.message.Message.TheVariants.{Hello, Error, EchoRequest, EchoReply, Vendor, FeaturesRequest, FeaturesReply, GetConfigRequest, GetConfigReply, SetConfig, PacketIn, FlowRemoved, PortStatus, PacketOut, FlowMod, PortMod, StatsRequest, StatsReply, BarrierRequest, BarrierReply, QueueGetConfigRequest, QueueGetConfigReply}
use Rattle.of_wire.specs.declared.message.Envelope.{Envelope}
use Rattle.of_wire.specs.declared.fault.WireFault.{WireFault}
use Rattle.of_wire.specs.Reading.{reading_of}
use Rattle.flow_table.specs.declared.view.ViewRow.{ViewRow}
use Rattle.flow_table.specs.View.{TableView}
use Rattle.app_frames.specs.declared.frame.Event.{Event}
use Rattle.lego_model.specs.Events.{event_of_message, event_of_read, events_of}
use Rattle.outside.specs.declared.step.WorldStep.TheVariants.{From}
use Rattle.net_txn.specs.Views.{rows_at}
use Rattle.batch_laws.specs.Knowledge.{Knowledge, is_known, with_event, told_message, told_read, handled, handled_all}
use Rattle.batch_laws.specs.Tells.{IsPlain, IsPlainRead, AllPlain, ViewChanged}

-- ---- Plain messages

abbrev with_queue : Knowledge → List Event → Knowledge
with_queue k queue = record k { queue = queue }

plain-told : (d : ℕ) (m : Message) (k : Knowledge) → IsPlain m → told_message d m k ≡ with_queue k (with_event (event_of_message d m) k.queue)
plain-told d (Error kind code payload) k plain = refl
plain-told d (FlowRemoved f) k plain = absurd plain
plain-told d (PortStatus status) k plain = absurd plain
plain-told d (FlowMod m) k plain = refl
plain-told d (PacketOut m) k plain = refl
plain-told d (PortMod m) k plain = refl
plain-told d (SetConfig c) k plain = refl
plain-told d (Hello payload) k plain = refl
plain-told d (EchoRequest payload) k plain = refl
plain-told d (EchoReply payload) k plain = refl
plain-told d (Vendor payload) k plain = refl
plain-told d FeaturesRequest k plain = refl
plain-told d (FeaturesReply features) k plain = refl
plain-told d GetConfigRequest k plain = refl
plain-told d (GetConfigReply config) k plain = refl
plain-told d (PacketIn packet) k plain = refl
plain-told d (StatsRequest stats) k plain = refl
plain-told d (StatsReply stats) k plain = refl
plain-told d BarrierRequest k plain = refl
plain-told d BarrierReply k plain = refl
plain-told d (QueueGetConfigRequest payload) k plain = refl
plain-told d (QueueGetConfigReply payload) k plain = refl

-- and then more of them
pub queued-more : (o : Option Event) (queue more : List Event) → with_event o queue ++ more ≡ queue ++ cons_option o more
queued-more None queue more = refl
queued-more (Some event) queue more = append_assoc queue (event ∷ []) more

plain-read : (d : ℕ) (r : Result Envelope WireFault) (k : Knowledge) → IsPlainRead r → told_read d r k ≡ with_queue k (with_event (event_of_read d r) k.queue)
plain-read d (Ok e) k plain = plain-told d e.message k plain
plain-read d (Err fault) k plain = refl

-- a message of a switch that is known
pub known-handled : (d : ℕ) (bytes : List ℕ) (k : Knowledge) → is_known d k ≡ true → handled (From d bytes) k ≡ told_read d (reading_of bytes) k
unfolding handled
known-handled d bytes k known = rw known refl

-- Plain messages of a switch that is known become events, and change nothing else.
pub plain-handled : (d : ℕ) (list : List (List ℕ)) (k : Knowledge) → is_known d k ≡ true → AllPlain list → handled_all (map (From d) list) k ≡ record k { queue = k.queue ++ events_of d list }
unfolding events_of
plain-handled d [] k known all = ap (with_queue k) (sym (append-nil k.queue))
plain-handled d (bytes ∷ list) k known all =
    let o : Option Event = event_of_read d (reading_of bytes) in
    let next : Knowledge = with_queue k (with_event o k.queue) in
    let first : handled (From d bytes) k ≡ next = known-handled d bytes k known ∙ plain-read d (reading_of bytes) k all.0 in
    ap (handled_all (map (From d) list)) first ∙ plain-handled d list next known all.1
    ∙ ap (with_queue k) (queued-more o k.queue (events_of d list))

-- ---- What one switch made of a stimulus, as the engine knows it then

pub is-known : (d : ℕ) (rows : List ViewRow) (k : Knowledge) → rows_at d k.views ≡ Some rows → is_known d k ≡ true
is-known d rows k are = ap is_some are

pub view-kept : (d : ℕ) (rows : List ViewRow) (views : List TableView) → rows_at d views ≡ Some rows → ViewChanged d rows views views
view-kept d rows views are = record { here = are; others = λ e other. refl; order = λ least ascend. ascend }
