-- What the host makes of a message that came of itself: an event, or none; and what it then knows (OpenFlow 1.0.0, 5.4 Asynchronous
-- Messages and 5.5.2 Echo Request). Which messages are events is our own choice.
use Rattle.std.specs.Prelude.{◌≡◌, ◌==◌, ◌⊎◌, ℕ, Bool, false, not, List, [], ◌∷◌, ◌++◌, filter, Option, None, Result, Ok, Err, IsErr, IsOkAnd, IfOk, IfErr, OnErr, if◌then◌else◌}
use Rattle.std.specs.List.{flat_map}
use Rattle.std.proofs.Common.{zero, suc}
use Rattle.of_types.specs.declared.port_desc.PortDesc.{PortDesc}
use Rattle.of_types.specs.declared.journal.Act.TheVariants.{Sent}
use Rattle.of_wire.specs.declared.bodies.FlowRemoved.{FlowRemoved as Removed}
use Rattle.of_wire.specs.declared.bodies.PortStatus.{PortStatus as Status}
use Rattle.of_wire.specs.declared.message.Message.{Message}
use Rattle.of_wire.specs.declared.message.Envelope.{Envelope}
use Rattle.of_wire.specs.declared.fault.WireFault.{WireFault}
use Rattle.of_wire.specs.declared.message.Message.TheVariants.{EchoRequest, EchoReply, FlowRemoved, PortStatus}
use Rattle.of_wire.specs.Reading.{reading_of}
use Rattle.of_wire.specs.Spelling.{message_bytes}
use Rattle.flow_table.specs.View.{TableView}
use Rattle.flow_table.specs.Sorted.{with_item, port_number, without_key}
use Rattle.app_frames.specs.declared.frame.Event.{Event}
use Rattle.app_frames.specs.declared.frame.EventKind.{EventKind}
use Rattle.app_frames.specs.declared.frame.EventKind.TheVariants as kinds
use Rattle.outside.specs.declared.step.WorldStep.{WorldStep}
use Rattle.outside.specs.declared.step.WorldStep.TheVariants.{Acted}
use Rattle.outside.specs.Seen.{Seen, Continues}
use Rattle.outside.specs.InOrder.{MessagesSince}
use Rattle.lego_model.specs.declared.fault.TxnFault.{TxnFault}
use Rattle.lego_model.specs.declared.fault.TxnFault.TheVariants.{SwitchBroke, Diverged, Flooded, NoMemory}
use Rattle.net_txn.specs.declared.ports.KnownPorts.{KnownPorts}
use Rattle.net_txn.specs.LinkSteps.{OnLinks, AsksWithoutStrays}
use Rattle.net_txn.specs.Views.{rows_at, with_rows}
use Rattle.net_txn.specs.Net.{NetState}
use Rattle.net_txn.specs.Losing.{IsLost, lost_net, SaysHalt}
use Rattle.net_txn.specs.OwnIds.{KeepsIds}
use Rattle.net_txn.specs.Said.{Speaks}
use Rattle.net_txn.specs.declared.halt.Halt.{Halt}
use Rattle.net_txn.specs.declared.halt.Halt.TheVariants.{Lost}
use Rattle.lego_model.specs.History.{lost_of}
use Rattle.flow_table.specs.RowKeys.{key_removed}
use Rattle.lego_model.specs.Events.{event_of_message}
use Rattle.lego_model.specs.ViewRows.{is_asked}

-- ---- Flows that were removed

abbrev pub is_told : ℕ → List TableView → Removed → Bool
is_told d views f = is_asked (key_removed f) (rows_at d views)

-- ---- Ports that changed: ADD 0, DELETE 1, MODIFY 2

-- a port in its place by number, in place of one with its number
abbrev pub with_port : PortDesc → List PortDesc → List PortDesc
with_port p ps = with_item port_number p ps

abbrev pub ports_after : Status → List PortDesc → List PortDesc
ports_after s ports = if s.reason == 1 then filter (λ p. not (p.port_no == s.port.port_no)) ports else with_port s.port ports

abbrev pub known_after : ℕ → Status → List KnownPorts → List KnownPorts
known_after d s [] = []
known_after d s (k ∷ ks) = if k.dpid == d then record k { ports = ports_after s k.ports } ∷ ks else k ∷ known_after d s ks

-- where the known ports of a switch stand, if they stand anywhere
abbrev pub IsKnownAt : ℕ → List KnownPorts → ℕ → Type 0
IsKnownAt d [] i = ⊥
IsKnownAt d (k ∷ ks) zero = k.dpid ≡ d
IsKnownAt d (k ∷ ks) (suc i) = ((k.dpid == d) ≡ false) × IsKnownAt d ks i

abbrev pub IsNoKnown : ℕ → List KnownPorts → Type 0
IsNoKnown d [] = Unit {0}
IsNoKnown d (k ∷ ks) = ((k.dpid == d) ≡ false) × IsNoKnown d ks

-- ---- The message

abbrev pub event_from : EventKind → ℕ → Message → Event
event_from kind d m = record { kind = kind; dpid = d; body = message_bytes 0 m }

abbrev pub event_of : ℕ → List TableView → Message → Option Event
event_of d views (FlowRemoved f) = if is_told d views f then event_of_message d (FlowRemoved f) else None
event_of d views other = event_of_message d other

-- the events of notices: of each entry whose owner asked for one

abbrev pub removal_told : ℕ → List TableView → Message → List Event
removal_told d views (FlowRemoved f) = if is_told d views f then event_from kinds.FlowRemoved d (FlowRemoved f) ∷ [] else []
removal_told d views other = []

abbrev pub notice_told : ℕ → List TableView → Result Envelope WireFault → List Event
notice_told d views (Ok e) = removal_told d views e.message
notice_told d views (Err fault) = []

abbrev pub notices_told : ℕ → List TableView → List (List ℕ) → List Event
notices_told d views notices = flat_map (λ b. notice_told d views (reading_of b)) notices

abbrev pub net_after : ℕ → Message → NetState → NetState
net_after d (FlowRemoved f) net = record net { views = with_rows d (without_key (key_removed f)) net.views }
net_after d (PortStatus status) net = record net { ports = known_after d status net.ports }
net_after d other net = net

-- an ECHO_REQUEST is answered at once, with its transaction id
abbrev pub arrival_steps : ℕ → ℕ → Message → List WorldStep
arrival_steps d xid (EchoRequest payload) = Acted (Sent d (message_bytes xid (EchoReply payload))) ∷ []
arrival_steps d xid other = []

-- ---- The whole

-- SwitchBroke comes exactly where the frame is no message, unless memory is wanting.
abbrev pub IsArrivalCause : {Own : Type 0} → ℕ → List ℕ → Seen Own → Seen Own → TxnFault → Type 0
IsArrivalCause d frame old new (SwitchBroke of bytes) = (of ≡ d) × (bytes ≡ frame) × IsErr (reading_of frame)
IsArrivalCause d frame old new (Diverged of sent got) = ⊥
IsArrivalCause d frame old new (Flooded of n) = ⊥
IsArrivalCause d frame old new NoMemory = Unit {0}

-- what a message that is read becomes
pub record Becomes {Own : Type 0} (Tells : Type 0) (d xid : ℕ) (m : Message) (old new : Seen Own) (net now_net : NetState) (event : Option Event) : Type 0 where
  pub event_is : event ≡ event_of d net.views m
  pub net_is : now_net ≡ net_after d m net
  pub told : Tells → new.history ≡ old.history ++ arrival_steps d xid m

-- it is an ECHO_REQUEST that could not be answered: its switch is lost
pub record ArrivesLost {Own : Type 0} (Tells : Type 0) (d : ℕ) (m : Message) (old new : Seen Own) (net now_net : NetState) (event : Option Event) : Type 0 where
  pub payload : List ℕ
  pub request : m ≡ EchoRequest payload
  pub is_lost : IsLost Tells d [] old new
  pub read : Tells → MessagesSince old new
  pub net_is : now_net ≡ lost_net d net
  pub no_event : event ≡ None

-- why it was not taken in: it is an ECHO_REQUEST that could not be answered, or memory ran out
pub record ArrivalHalts {Own : Type 0} (Tells : Type 0) (d : ℕ) (m : Message) (old new : Seen Own) (halt : Halt) : Type 0 where
  pub halts : SaysHalt Tells d old new halt
  pub request : halt ≡ Lost → (payload : List ℕ) × (m ≡ EchoRequest payload)

-- what a message that was read is taken in as
pub record TakesIn {Own : Type 0} (Tells : Type 0) (d xid : ℕ) (m : Message) (old new : Seen Own) (net now_net : NetState) (result : Result (Option Event) TxnFault) : Type 0 where
  pub speaks : Speaks Tells d 0 0 old new
  pub fault : IfErr result (λ f. f ≡ NoMemory)
  pub err : OnErr result (now_net ≡ net)
  pub losses : OnErr result (Tells → lost_of new ≡ lost_of old)
  pub taken : IfOk result (λ event. Becomes Tells d xid m old new net now_net event ⊎ ArrivesLost Tells d m old new net now_net event)

-- The calls are those of links alone, and in place where the world tells in order and the switch is joined; a fault loses no switch.
pub record Arrives {Own : Type 0} (Tells : Type 0) (d : ℕ) (frame : List ℕ) (old new : Seen Own) (net now_net : NetState) (result : Result (Option Event) TxnFault) : Type 0 where
  pub continues : Continues Tells old new
  pub links : OnLinks Tells old new
  pub no_strays : AsksWithoutStrays Tells d old new
  pub ids : KeepsIds Tells 0 old new net.xid now_net.xid result
  pub cause : IfErr result (IsArrivalCause d frame old new)
  pub err : OnErr result (now_net ≡ net)
  pub losses : OnErr result (Tells → lost_of new ≡ lost_of old)
  pub read : IfOk result (λ event. IsOkAnd (reading_of frame) (λ e. Becomes Tells d e.xid e.message old new net now_net event ⊎ ArrivesLost Tells d e.message old new net now_net event))
