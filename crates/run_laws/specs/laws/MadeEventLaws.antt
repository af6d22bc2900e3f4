-- What messages make that are taken: events behind those that wait, and tables, as the course of a run says. They were kept, or came as a packet
-- was released, or were told.
use Rattle.std.specs.Prelude.{if◌then◌else◌}
use Rattle.std.proofs.Common.{◌≡◌, ℕ, Bool, true, false, List, [], ◌∷◌, ◌++◌, Option, Some, None, Result, Ok, Err, refl, sym, ap, ◌∙◌, append_assoc}
use Rattle.std.proofs.lemmas.List.{append-nil}
use Rattle.std.specs.List.{AllByRecursion}
use Rattle.of_wire.specs.declared.message.Message.{Message}
use Rattle.of_wire.specs.declared.message.Message.TheVariants as messages
use Rattle.of_wire.specs.declared.message.Envelope.{Envelope}
use Rattle.of_wire.specs.declared.fault.WireFault.{WireFault}
use Rattle.of_wire.specs.Reading.{reading_of}
use Rattle.flow_table.specs.View.{TableView}
use Rattle.app_frames.specs.declared.frame.Event.{Event}
use Rattle.app_frames.specs.declared.frame.EventKind.TheVariants as kinds
use Rattle.outside.specs.declared.step.WorldStep.TheVariants.{From}
use Rattle.net_txn.specs.Net.{NetState}
use Rattle.net_txn.specs.Views.{rows_at}
use Rattle.net_txn.specs.Arriving.{is_told, event_from, event_of, net_after}
use Rattle.flow_table.specs.Sorted.{without_key}
use Rattle.flow_table.specs.RowKeys.{key_removed}
use Rattle.net_txn.specs.Releases.{Knows, takes_read, takes_all}
use Rattle.lego_model.specs.Events.{event_list}
use Rattle.net_txn.specs.laws.SaidLaws.{all_weaker}
use Rattle.batch_laws.specs.Knowledge.{Knowledge, is_known, with_event, views_by, told_read, handled, handled_all}
use Rattle.batch_laws.specs.laws.KnownPortsLaws.{views_stay}
use Rattle.run_course.specs.Tables.{Tables}
use Rattle.run_course.specs.Messages.{events_made, events_read, tables_left, tables_read, all_events, tables_behind}
use Rattle.run_laws.specs.Course.{as_told}
use Rattle.run_laws.specs.laws.TableHoldingLaws.{tables_of, table_changed, same_events, same_behind}

-- ---- One message

told_or_not : (event : Event) (told : Bool) → event_list (if told then Some event else None) ≡ (if told then event ∷ [] else [])
told_or_not event true = refl
told_or_not event false = refl

made_is : (d : ℕ) (views : List TableView) (m : Message) → event_list (event_of d views m) ≡ events_made d (rows_at d views) m
made_is d views (messages.FlowRemoved f) =
    let event = event_from kinds.FlowRemoved d (messages.FlowRemoved f) in
    told_or_not event (is_told d views f)
made_is d views (messages.Hello payload) = refl
made_is d views (messages.EchoRequest payload) = refl
made_is d views (messages.EchoReply payload) = refl
made_is d views (messages.Vendor payload) = refl
made_is d views messages.FeaturesRequest = refl
made_is d views (messages.FeaturesReply features) = refl
made_is d views messages.GetConfigRequest = refl
made_is d views (messages.GetConfigReply config) = refl
made_is d views (messages.SetConfig config) = refl
made_is d views (messages.PacketIn packet) = refl
made_is d views (messages.PortStatus status) = refl
made_is d views (messages.PacketOut packet) = refl
made_is d views (messages.FlowMod change) = refl
made_is d views (messages.PortMod port) = refl
made_is d views (messages.StatsRequest stats) = refl
made_is d views (messages.StatsReply stats) = refl
made_is d views messages.BarrierRequest = refl
made_is d views messages.BarrierReply = refl
made_is d views (messages.QueueGetConfigRequest payload) = refl
made_is d views (messages.QueueGetConfigReply payload) = refl
made_is d views (messages.Error kind code payload) = refl

left_is : (d e : ℕ) (m : Message) (views : List TableView) → rows_at e (views_by d m views) ≡ tables_left d m (tables_of views) e
left_is d e (messages.FlowRemoved f) views = table_changed d e (without_key (key_removed f)) views
left_is d e (messages.Hello payload) views = refl
left_is d e (messages.EchoRequest payload) views = refl
left_is d e (messages.EchoReply payload) views = refl
left_is d e (messages.Vendor payload) views = refl
left_is d e messages.FeaturesRequest views = refl
left_is d e (messages.FeaturesReply features) views = refl
left_is d e messages.GetConfigRequest views = refl
left_is d e (messages.GetConfigReply config) views = refl
left_is d e (messages.SetConfig config) views = refl
left_is d e (messages.PacketIn packet) views = refl
left_is d e (messages.PortStatus status) views = refl
left_is d e (messages.PacketOut packet) views = refl
left_is d e (messages.FlowMod change) views = refl
left_is d e (messages.PortMod port) views = refl
left_is d e (messages.StatsRequest stats) views = refl
left_is d e (messages.StatsReply stats) views = refl
left_is d e messages.BarrierRequest views = refl
left_is d e messages.BarrierReply views = refl
left_is d e (messages.QueueGetConfigRequest payload) views = refl
left_is d e (messages.QueueGetConfigReply payload) views = refl
left_is d e (messages.Error kind code payload) views = refl

after_is : (d e : ℕ) (m : Message) (net : NetState) → rows_at e (net_after d m net).views ≡ tables_left d m (tables_of net.views) e
after_is d e (messages.FlowRemoved f) net = table_changed d e (without_key (key_removed f)) net.views
after_is d e (messages.Hello payload) net = refl
after_is d e (messages.EchoRequest payload) net = refl
after_is d e (messages.EchoReply payload) net = refl
after_is d e (messages.Vendor payload) net = refl
after_is d e messages.FeaturesRequest net = refl
after_is d e (messages.FeaturesReply features) net = refl
after_is d e messages.GetConfigRequest net = refl
after_is d e (messages.GetConfigReply config) net = refl
after_is d e (messages.SetConfig config) net = refl
after_is d e (messages.PacketIn packet) net = refl
after_is d e (messages.PortStatus status) net = refl
after_is d e (messages.PacketOut packet) net = refl
after_is d e (messages.FlowMod change) net = refl
after_is d e (messages.PortMod port) net = refl
after_is d e (messages.StatsRequest stats) net = refl
after_is d e (messages.StatsReply stats) net = refl
after_is d e messages.BarrierRequest net = refl
after_is d e messages.BarrierReply net = refl
after_is d e (messages.QueueGetConfigRequest payload) net = refl
after_is d e (messages.QueueGetConfigReply payload) net = refl
after_is d e (messages.Error kind code payload) net = refl

-- ---- Messages that came as a packet was released

list_or_none : (o : Option Event) → event_list o ≡ event_list o
list_or_none None = refl
list_or_none (Some event) = refl

read_queue : (d : ℕ) (r : Result Envelope WireFault) (k : Knows) → (takes_read d r k).1 ≡ k.1 ++ events_read d (rows_at d k.0.views) r
read_queue d (Ok e) k = ap (λ (events : List Event). k.1 ++ events) (list_or_none (event_of d k.0.views e.message) ∙ made_is d k.0.views e.message)
read_queue d (Err fault) k = sym (append-nil k.1)

read_tables : (d e : ℕ) (r : Result Envelope WireFault) (k : Knows) → rows_at e (takes_read d r k).0.views ≡ tables_read d r (tables_of k.0.views) e
read_tables d e (Ok x) k = after_is d e x.message k.0
read_tables d e (Err fault) k = refl

-- the first message, and then the others
first_then : (m : ℕ × List ℕ) (more : List (ℕ × List ℕ)) (t now : Tables) (queue mid last : List Event) → mid ≡ queue ++ events_read m.0 (t m.0) (reading_of m.1) → last ≡ mid ++ all_events more now
    → ((e : ℕ) → now e ≡ tables_read m.0 (reading_of m.1) t e) → last ≡ queue ++ all_events (m ∷ more) t
first_then m more t now queue mid last first rest same =
    let events = events_read m.0 (t m.0) (reading_of m.1) in
    rest ∙ (ap (λ (q : List Event). q ++ all_events more now) first ∙ (append_assoc queue events (all_events more now)
    ∙ ap (λ (later : List Event). queue ++ (events ++ later)) (same_events more now (tables_read m.0 (reading_of m.1) t) same)))

pub came_events : (came : List (ℕ × List ℕ)) (k : Knows) → (takes_all came k).1 ≡ k.1 ++ all_events came (tables_of k.0.views)
came_events [] k = sym (append-nil k.1)
came_events (m ∷ more) k =
    let next = takes_read m.0 (reading_of m.1) k in
    first_then m more (tables_of k.0.views) (tables_of next.0.views) k.1 next.1 (takes_all more next).1 (read_queue m.0 (reading_of m.1) k) (came_events more next) (λ e. read_tables m.0 e (reading_of m.1) k)

pub came_tables : (came : List (ℕ × List ℕ)) (k : Knows) (e : ℕ) → rows_at e (takes_all came k).0.views ≡ tables_behind came (tables_of k.0.views) e
came_tables [] k e = refl
came_tables (m ∷ more) k e =
    let next = takes_read m.0 (reading_of m.1) k in
    came_tables more next e ∙ same_behind more (tables_of next.0.views) (tables_read m.0 (reading_of m.1) (tables_of k.0.views)) (λ c. read_tables m.0 c (reading_of m.1) k) e

-- ---- Messages that are told, or were kept

with_list : (o : Option Event) (queue : List Event) → with_event o queue ≡ queue ++ event_list o
with_list None queue = sym (append-nil queue)
with_list (Some event) queue = refl

told_queue : (d : ℕ) (r : Result Envelope WireFault) (k : Knowledge) → (told_read d r k).queue ≡ k.queue ++ events_read d (rows_at d k.views) r
told_queue d (Ok e) k = with_list (event_of d k.views e.message) k.queue ∙ ap (λ (events : List Event). k.queue ++ events) (made_is d k.views e.message)
told_queue d (Err fault) k = sym (append-nil k.queue)

told_tables : (d e : ℕ) (r : Result Envelope WireFault) (k : Knowledge) → rows_at e (told_read d r k).views ≡ tables_read d r (tables_of k.views) e
told_tables d e (Ok x) k = left_is d e x.message k.views
told_tables d e (Err fault) k = refl

read_stays : (d e : ℕ) (r : Result Envelope WireFault) (k : Knowledge) → is_known e (told_read d r k) ≡ is_known e k
read_stays d e (Ok x) k = views_stay d e x.message k
read_stays d e (Err fault) k = refl

-- a message of a switch that is joined
pub record ToldMakes (m : ℕ × List ℕ) (k now_k : Knowledge) : Type 0 where
  pub queue_is : now_k.queue ≡ k.queue ++ events_read m.0 (rows_at m.0 k.views) (reading_of m.1)
  pub tables : (e : ℕ) → rows_at e now_k.views ≡ tables_read m.0 (reading_of m.1) (tables_of k.views) e
  pub known : (e : ℕ) → is_known e now_k ≡ is_known e k

pub from_makes : (m : ℕ × List ℕ) (k : Knowledge) → is_known m.0 k ≡ true → ToldMakes m k (handled (From m.0 m.1) k)
unfolding handled
from_makes m k is = rw is (record {
  queue_is = told_queue m.0 (reading_of m.1) k;
  tables = λ e. told_tables m.0 e (reading_of m.1) k;
  known = λ e. read_stays m.0 e (reading_of m.1) k;
})

-- those behind it are of switches that are joined still
others_known : (m : ℕ × List ℕ) (more : List (ℕ × List ℕ)) (k : Knowledge) → ToldMakes m k (handled (From m.0 m.1) k) → AllByRecursion (λ x. is_known x.0 k ≡ true) more → AllByRecursion (λ x. is_known x.0 (handled (From m.0 m.1) k) ≡ true) more
others_known m more k one all = all_weaker (λ x. is_known x.0 k ≡ true) (λ x. is_known x.0 (handled (From m.0 m.1) k) ≡ true) (λ x joined. one.known x.0 ∙ joined) more all

pub kept_events : (taken : List (ℕ × List ℕ)) (k : Knowledge) → AllByRecursion (λ m. is_known m.0 k ≡ true) taken → (handled_all (as_told taken) k).queue ≡ k.queue ++ all_events taken (tables_of k.views)
kept_events [] k all = sym (append-nil k.queue)
kept_events (m ∷ more) k all =
    let next = handled (From m.0 m.1) k in
    let one = from_makes m k all.0 in
    first_then m more (tables_of k.views) (tables_of next.views) k.queue next.queue (handled_all (as_told more) next).queue one.queue_is (kept_events more next (others_known m more k one all.1)) one.tables

pub kept_tables : (taken : List (ℕ × List ℕ)) (k : Knowledge) → AllByRecursion (λ m. is_known m.0 k ≡ true) taken → (e : ℕ) → rows_at e (handled_all (as_told taken) k).views ≡ tables_behind taken (tables_of k.views) e
kept_tables [] k all e = refl
kept_tables (m ∷ more) k all e =
    let next = handled (From m.0 m.1) k in
    let one = from_makes m k all.0 in
    kept_tables more next (others_known m more k one all.1) e ∙ same_behind more (tables_of next.views) (tables_read m.0 (reading_of m.1) (tables_of k.views)) one.tables e
