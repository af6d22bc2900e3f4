-- An application that makes each switch that joins drop some packets (OpenFlow 1.0.0, 5.3.3 Modify State Messages: a flow without actions
-- drops). It keeps nothing, so its checkpoint is empty. The priority is our own choice.
use Rattle.std.specs.Prelude.{ℕ, false, List, [], ◌∷◌, ◌++◌, map, Some}
use Rattle.of_match.specs.declared.flow_match.Match.{Match}
use Rattle.of_wire.specs.declared.message.Message.{Message}
use Rattle.of_wire.specs.declared.message.Message.TheVariants as messages
use Rattle.app_frames.specs.declared.frame.AppFrame.{AppFrame}
use Rattle.app_frames.specs.declared.frame.AppFrame.TheVariants.{Done}
use Rattle.app_frames.specs.declared.frame.Event.{Event}
use Rattle.app_frames.specs.declared.frame.EventKind.{EventKind}
use Rattle.app_frames.specs.declared.frame.EventKind.TheVariants as kinds
use Rattle.app_objects.specs.Machine.{Reaction}
use Rattle.app_objects.specs.ByEvents.{gives_from}
use Rattle.machine_apps.specs.Learn.{told}

-- the flow that drops the packets of a match: priority 65,000, no timeouts, command ADD 0
unfoldable pub drop_of : Match → Message
drop_of matching = messages.FlowMod (record {
  matching = matching;
  cookie = 0;
  command = 0;
  idle = 0;
  hard = 0;
  priority = 65000;
  buffer_id = 0xffffffff;
  out_port = 0xffff;
  flags = 0;
  actions = [];
})

abbrev pub drops : ℕ → List Match → List AppFrame
drops d rows = map (λ matching. told d (drop_of matching)) rows

abbrev pub drops_at : EventKind → ℕ → List Match → List AppFrame
drops_at kinds.Join d rows = drops d rows
drops_at other d rows = []

-- all frames for an event
abbrev pub block_answers : List Match → Event → Unit {0} → List AppFrame
block_answers rows event state = drops_at event.kind event.dpid rows ++ Done false (Some []) ∷ []

-- what it gives at frames of the host to come, whatever it was restored to
abbrev pub block_gives : List Match → List (List ℕ) → List Reaction
block_gives rows frames = gives_from (block_answers rows) (λ event state. state) tt frames
