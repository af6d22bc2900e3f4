-- An application that deletes the flows to a port that went down, by the messages of OpenFlow 1.0.0 (5.3.3 Modify State Messages, 5.4.3 Port
-- Status Message). It keeps nothing, so its checkpoint is empty. Which events it looks at is our own choice.
use Rattle.std.specs.Prelude.{ℕ, false, List, [], ◌∷◌, ◌++◌, Option, Some, None, Result, Ok, Err, if◌then◌else◌}
use Rattle.of_match.specs.Fields.{bytes_of, any_fields}
use Rattle.of_match.specs.Match.{match_of}
use Rattle.of_wire.specs.declared.bodies.PortStatus.{PortStatus}
use Rattle.of_wire.specs.declared.message.Message.{Message}
use Rattle.of_wire.specs.declared.message.Message.TheVariants as messages
use Rattle.of_wire.specs.declared.message.Envelope.{Envelope}
use Rattle.of_wire.specs.declared.fault.WireFault.{WireFault}
use Rattle.of_wire.specs.Reading.{reading_of}
use Rattle.app_frames.specs.declared.frame.AppFrame.{AppFrame}
use Rattle.app_frames.specs.declared.frame.AppFrame.TheVariants.{Done}
use Rattle.app_frames.specs.declared.frame.Event.{Event}
use Rattle.app_frames.specs.declared.frame.EventKind.{EventKind}
use Rattle.app_frames.specs.declared.frame.EventKind.TheVariants as kinds
use Rattle.app_objects.specs.Machine.{Reaction}
use Rattle.app_objects.specs.ByEvents.{gives_from}
use Rattle.machine_apps.specs.Down.{is_down}
use Rattle.machine_apps.specs.Learn.{told}

-- all flows with an output to the port are deleted, whatever they match (command DELETE 3)
unfoldable pub deletion_to : ℕ → Message
deletion_to port = messages.FlowMod (record {
  matching = match_of (bytes_of any_fields);
  cookie = 0;
  command = 3;
  idle = 0;
  hard = 0;
  priority = 0;
  buffer_id = 0xffffffff;
  out_port = port;
  flags = 0;
  actions = [];
})

abbrev pub port_status : Message → Option PortStatus
port_status (messages.PortStatus status) = Some status
port_status other = None

abbrev pub status_read : Result Envelope WireFault → Option PortStatus
status_read (Ok envelope) = port_status envelope.message
status_read (Err fault) = None

abbrev pub status_if : EventKind → List ℕ → Option PortStatus
status_if kinds.PortStatus body = status_read (reading_of body)
status_if other body = None

-- what an event tells of a port, where it does
abbrev pub status_of : Event → Option PortStatus
status_of event = status_if event.kind event.body

abbrev pub deletions_by : ℕ → Option PortStatus → List AppFrame
deletions_by d None = []
deletions_by d (Some status) = if is_down status then told d (deletion_to status.port.port_no) ∷ [] else []

-- all frames for an event
abbrev pub clean_answers : Event → Unit {0} → List AppFrame
clean_answers event state = deletions_by event.dpid (status_of event) ++ Done false (Some []) ∷ []

-- what it gives at frames of the host to come, whatever it was restored to
abbrev pub clean_gives : List (List ℕ) → List Reaction
clean_gives frames = gives_from clean_answers (λ event state. state) tt frames
