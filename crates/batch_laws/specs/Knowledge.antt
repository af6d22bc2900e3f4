-- What the engine knows of its network, and what each item that the outside tells makes of it: the events that wait then, and what is known
-- of tables, ports and the moment (OpenFlow 1.0.0, 5.4 Asynchronous Messages). All of this is our own.
use Rattle.std.specs.Prelude.{◌≡◌, ◌==◌, ℕ, Bool, true, false, not, List, [], ◌∷◌, ◌++◌, filter, map, Option, Some, None, Result, Ok, Err, is_some, if◌then◌else◌}
use Rattle.std.specs.List.{flat_map}
use Rattle.lego_model.specs.Echoes.{IsEchoRead}
use Rattle.lego_model.specs.RunReport.{lost_line}
use Rattle.of_wire.specs.declared.message.Message.{Message}
use Rattle.of_wire.specs.declared.message.Message.TheVariants.{FlowRemoved, PortStatus, FeaturesReply}
use Rattle.of_wire.specs.declared.message.Envelope.{Envelope}
use Rattle.of_wire.specs.declared.fault.WireFault.{WireFault}
use Rattle.of_wire.specs.Reading.{reading_of}
use Rattle.of_wire.specs.Spelling.{message_bytes}
use Rattle.flow_table.specs.declared.entry.Entry.{Entry}
use Rattle.flow_table.specs.View.{TableView}
use Rattle.app_frames.specs.declared.frame.Event.{Event}
use Rattle.app_frames.specs.declared.frame.EventKind.TheVariants as kinds
use Rattle.outside.specs.declared.step.WorldStep.{WorldStep}
use Rattle.outside.specs.declared.step.WorldStep.TheVariants.{From, Joined, Left, Moment}
use Rattle.net_txn.specs.declared.ports.KnownPorts.{KnownPorts}
use Rattle.net_txn.specs.Net.{NetState}
use Rattle.net_txn.specs.Views.{rows_at, with_rows}
use Rattle.net_txn.specs.Joining.{with_view}
use Rattle.net_txn.specs.Leaving.{ports_at, ports_text, left_event}
use Rattle.net_txn.specs.Arriving.{known_after, event_of}
use Rattle.flow_table.specs.Sorted.{without_key}
use Rattle.flow_table.specs.RowKeys.{key_removed}
use Rattle.switch_laws.specs.Shown.{corrections}

pub record Knowledge : Type 0 where
  pub views : List TableView
  pub ports : List KnownPorts
  pub moment : ℕ
  pub queue : List Event

-- an entry as its owner sees it, by what is known
abbrev pub known_by : Knowledge → ℕ → Entry → Entry
known_by k = corrections k.views

abbrev pub knowledge_of : NetState → List Event → Knowledge
knowledge_of net queue = record { views = net.views; ports = net.ports; moment = net.moment; queue = queue }

-- the switch has a view
abbrev pub is_known : ℕ → Knowledge → Bool
is_known d k = is_some (rows_at d k.views)

abbrev pub with_event : Option Event → List Event → List Event
with_event None queue = queue
with_event (Some event) queue = queue ++ event ∷ []

-- ---- A message came of itself

abbrev pub views_by : ℕ → Message → List TableView → List TableView
views_by d (FlowRemoved f) views = with_rows d (without_key (key_removed f)) views
views_by d other views = views

abbrev pub ports_by : ℕ → Message → List KnownPorts → List KnownPorts
ports_by d (PortStatus status) ports = known_after d status ports
ports_by d other ports = ports

abbrev pub told_message : ℕ → Message → Knowledge → Knowledge
told_message d m k = record {
  views = views_by d m k.views;
  ports = ports_by d m k.ports;
  moment = k.moment;
  queue = with_event (event_of d k.views m) k.queue;
}

abbrev pub told_read : ℕ → Result Envelope WireFault → Knowledge → Knowledge
told_read d (Ok e) k = told_message d e.message k
told_read d (Err fault) k = k

-- ---- A switch joins or leaves

abbrev pub joined_by : ℕ → Message → Knowledge → Knowledge
joined_by d (FeaturesReply features) k = record {
  views = with_view d k.views;
  ports = k.ports ++ record { dpid = d; ports = features.ports } ∷ [];
  moment = k.moment;
  queue = k.queue ++ record { kind = kinds.Join; dpid = d; body = message_bytes 0 (FeaturesReply features) } ∷ [];
}
joined_by d other k = k

abbrev pub joined_read : ℕ → Result Envelope WireFault → Knowledge → Knowledge
joined_read d (Ok e) k = joined_by d e.message k
joined_read d (Err fault) k = k

abbrev pub left_by : ℕ → Knowledge → Knowledge
left_by d k = record {
  views = filter (λ v. not (v.dpid == d)) k.views;
  ports = filter (λ p. not (p.dpid == d)) k.ports;
  moment = k.moment;
  queue = k.queue ++ record { kind = kinds.Leave; dpid = d; body = ports_text (ports_at d k.ports) } ∷ [];
}

-- ---- An item. One of a switch that is not joined is ignored, and so is the joining of one that is.

unfoldable pub handled : WorldStep → Knowledge → Knowledge
handled (From d bytes) k = if is_known d k then told_read d (reading_of bytes) k else k
handled (Joined d bytes) k = if is_known d k then k else joined_read d (reading_of bytes) k
handled (Left d) k = if is_known d k then left_by d k else k
handled (Moment t) k = record k { moment = t }
handled other k = k

-- items, one after the other
abbrev pub handled_all : List WorldStep → Knowledge → Knowledge
handled_all [] k = k
handled_all (item ∷ items) k = handled_all items (handled item k)

-- ---- A switch is lost: at its joining, which makes no event then; or where its ECHO_REQUEST could not be answered (5.5.2 Echo Request)

-- the switch of the number may be lost at this item
abbrev pub LosesAt : ℕ → WorldStep → Knowledge → Type 0
LosesAt d (From e bytes) k = (e ≡ d) × (is_known d k ≡ true) × IsEchoRead (reading_of bytes)
LosesAt d (Joined e bytes) k = (e ≡ d) × (is_known d k ≡ false)
LosesAt d other k = ⊥

-- the Leave events of switches that were lost, and their lines
abbrev pub left_events : List KnownPorts → List Event
left_events left = map left_event left

abbrev pub lost_text : List KnownPorts → List ℕ
lost_text left = flat_map (λ p. lost_line p.dpid) left

abbrev pub ports_lost : ℕ → List KnownPorts → List KnownPorts
ports_lost d ports = filter (λ p. p.dpid == d) ports

-- a switch that is known leaves
abbrev pub lost_by : ℕ → Knowledge → Knowledge
lost_by d k = record {
  views = filter (λ v. not (v.dpid == d)) k.views;
  ports = filter (λ p. not (p.dpid == d)) k.ports;
  moment = k.moment;
  queue = k.queue ++ left_events (ports_lost d k.ports);
}

-- what is known then, and the line of the loss
abbrev pub known_lost : ℕ → WorldStep → Knowledge → Knowledge
known_lost d (From e bytes) k = lost_by d k
known_lost d other k = k

abbrev pub text_lost : ℕ → WorldStep → Knowledge → List ℕ
text_lost d (From e bytes) k = lost_text (ports_lost d k.ports)
text_lost d other k = lost_line d
