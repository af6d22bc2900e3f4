-- The turns of a session that is drawn: two changes of flows (OpenFlow 1.0.0, 5.3.3 Modify State Messages), and an end. Which numbers are drawn,
-- and in which order, is our own choice.
use Rattle.std.specs.Prelude.{ℕ, ◌+◌, ◌*◌, ◌==◌, false, List, [], ◌∷◌, Option, Some, None, if◌then◌else◌}
use Rattle.of_action.specs.declared.action.Action.TheVariants.{Output}
use Rattle.of_match.specs.Fields.{bytes_of, any_fields}
use Rattle.of_match.specs.Match.{match_of}
use Rattle.of_wire.specs.declared.message.Message.{Message}
use Rattle.of_wire.specs.declared.message.Message.TheVariants as messages
use Rattle.of_wire.specs.Spelling.{message_bytes}
use Rattle.app_frames.specs.declared.frame.AppFrame.{AppFrame}
use Rattle.app_frames.specs.declared.frame.AppFrame.TheVariants as frames
use Rattle.app_frames.specs.declared.script.ScriptStep.{ScriptStep}
use Rattle.app_frames.specs.declared.script.ScriptStep.TheVariants.{Closed}
use Rattle.lego_model.specs.SessionSteps.{gives}
use Rattle.session_gen.specs.declared.turns.Terms.{Terms}
use Rattle.session_gen.specs.Draws.{behind, drawn}

-- one of three matches is any, the others name one of four ports; the port is drawn first
abbrev pub in_port_drawn : ℕ → Option ℕ
in_port_drawn x = if drawn 1 3 x == 0 then None else Some (1 + drawn 0 4 x)

-- the numbers of a change, in the order in which they are drawn, behind a state: eight draws
unfoldable pub terms_drawn : ℕ → Terms
terms_drawn x = record {
  dpid = 1 + drawn 0 2 x;
  command = drawn 1 5 x;
  in_port = in_port_drawn (behind 2 x);
  priority = 1 + drawn 4 3 x;
  idle = 10 * drawn 5 3 x;
  hard = 20 * drawn 6 3 x;
  out = 1 + drawn 7 4 x;
}

-- the message of a change: one action, out by a port; a FLOW_REMOVED is wanted
unfoldable pub change_of : Terms → Message
change_of t = messages.FlowMod (record {
  matching = match_of (bytes_of (record any_fields { in_port = t.in_port }));
  cookie = 0;
  command = t.command;
  idle = t.idle;
  hard = t.hard;
  priority = t.priority;
  buffer_id = 0xffffffff;
  out_port = 0xffff;
  flags = 1;
  actions = Output t.out 0 ∷ [];
})

abbrev pub frame_of : Terms → AppFrame
frame_of t = frames.Message t.dpid (message_bytes 0 (change_of t))

-- the turn is done, without a checkpoint
abbrev pub plain_end : ScriptStep
plain_end = gives (frames.Done false None)

-- one turn in four is cut off
unfoldable pub end_drawn : ℕ → ScriptStep
end_drawn x = if drawn 0 4 x == 0 then Closed else plain_end

-- two changes and an end: seventeen draws
unfoldable pub turn_drawn : ℕ → List ScriptStep
turn_drawn x = gives (frame_of (terms_drawn x)) ∷ gives (frame_of (terms_drawn (behind 8 x))) ∷ end_drawn (behind 16 x) ∷ []
