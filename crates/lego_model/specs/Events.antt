-- The events of a run: what switches send becomes events (OpenFlow 1.0.0, 5.4 Asynchronous Messages), and so do their joins and leaves. Which
-- messages are events is our own choice.
use Rattle.std.specs.Prelude.{ℕ, List, [], ◌∷◌, ◌++◌, map, filter_map, Option, Some, None, Result, Ok, Err}
use Rattle.of_types.specs.declared.port_desc.PortDesc.{PortDesc}
use Rattle.of_wire.specs.declared.message.Message.{Message}
use Rattle.of_wire.specs.declared.message.Message.TheVariants.{Error, PacketIn, FlowRemoved, PortStatus}
use Rattle.of_wire.specs.declared.message.Envelope.{Envelope}
use Rattle.of_wire.specs.declared.fault.WireFault.{WireFault}
use Rattle.of_wire.specs.Reading.{reading_of}
use Rattle.of_wire.specs.Spelling.{message_bytes, ports_bytes}
use Rattle.flow_table.specs.declared.notice.Notice.{Notice}
use Rattle.flow_table.specs.Switch.{SwitchState, features_reply, port_desc}
use Rattle.flow_table.specs.Step.{flow_removed_bytes}
use Rattle.app_frames.specs.declared.frame.Event.{Event}
use Rattle.app_frames.specs.declared.frame.EventKind.TheVariants as events
use Rattle.of_types.specs.Fields.{number_bytes}

abbrev pub event_list : Option Event → List Event
event_list None = []
event_list (Some event) = event ∷ []

-- the known ports of a switch, as they stand, by number
abbrev pub ports_of : SwitchState → List PortDesc
ports_of s = map (port_desc s.declared.dpid) s.ports

abbrev pub event_of_message : ℕ → Message → Option Event
event_of_message dpid (PacketIn m) = Some (record { kind = events.PacketIn; dpid = dpid; body = message_bytes 0 (PacketIn m) })
event_of_message dpid (FlowRemoved m) = Some (record { kind = events.FlowRemoved; dpid = dpid; body = message_bytes 0 (FlowRemoved m) })
event_of_message dpid (PortStatus m) = Some (record { kind = events.PortStatus; dpid = dpid; body = message_bytes 0 (PortStatus m) })
event_of_message dpid (Error kind code payload) = Some (record { kind = events.SwitchError; dpid = dpid; body = number_bytes 2 kind ++ number_bytes 2 code })
event_of_message dpid other = None

abbrev pub event_of_read : ℕ → Result Envelope WireFault → Option Event
event_of_read dpid (Ok e) = event_of_message dpid e.message
event_of_read dpid (Err fault) = None

-- the events that messages of a switch become, in order
unfoldable pub events_of : ℕ → List (List ℕ) → List Event
events_of dpid messages = filter_map (λ bytes. event_of_read dpid (reading_of bytes)) messages

-- a notice of an entry that was removed (5.4.2 Flow Removed Message)
abbrev pub notice_event : ℕ → Notice → Event
notice_event dpid n = record { kind = events.FlowRemoved; dpid = dpid; body = flow_removed_bytes n }

abbrev pub join_event : SwitchState → Event
join_event s = record { kind = events.Join; dpid = s.declared.dpid; body = features_reply 0 s }

abbrev pub leave_event : SwitchState → Event
leave_event s = record { kind = events.Leave; dpid = s.declared.dpid; body = ports_bytes (ports_of s) }
