-- The lines of a session, as text. This text form is our own.
use Rattle.std.specs.Prelude.{ℕ, List, [], ◌∷◌, ◌++◌, codes}
use Rattle.std.specs.List.{flat_map}
use Rattle.std.specs.Fmt.{decimal}
use Rattle.hex.specs.Hex.{encode_lower}
use Rattle.of_types.specs.declared.journal.PortChange.{PortChange}
use Rattle.of_types.specs.declared.journal.PortChange.TheVariants.{Up, Down, Add, Delete}
use Rattle.of_types.specs.declared.journal.Stimulus.{Stimulus}
use Rattle.of_types.specs.declared.journal.Stimulus.TheVariants.{Frame, Advance, Port, Counts, Raw}
use Rattle.of_types.specs.declared.journal.WorldStim.{WorldStim}
use Rattle.of_types.specs.declared.journal.WorldStim.TheVariants.{Join, Leave, At, Of}
use Rattle.app_frames.specs.declared.cause.Tried.{Tried}
use Rattle.app_frames.specs.declared.script.ScriptStep.{ScriptStep}
use Rattle.app_frames.specs.declared.script.ScriptStep.TheVariants.{Bytes, Closed, Silent}
use Rattle.flow_table.specs.Switch.{Declared}
use Rattle.lego_model.specs.RunReport.{line_of, start_line}

-- a line that a recording may have
pub data SessionLine : Type 0 where
  SwitchLine : Declared → SessionLine
  StartLine : List ℕ → Tried → SessionLine
  ReplyLine : List ℕ → List ScriptStep → SessionLine
  FaultLine : ℕ → ℕ → SessionLine
  StimulusLine : WorldStim → SessionLine

-- ---- Switches: `switch DPID CAP PORTS`, with `-` for no ports

abbrev pub ports_behind : List ℕ → List ℕ
ports_behind [] = []
ports_behind (port ∷ ports) = codes "," ++ decimal port ++ ports_behind ports

unfoldable pub ports_text : List ℕ → List ℕ
ports_text [] = codes "-"
ports_text (port ∷ ports) = decimal port ++ ports_behind ports

unfoldable pub switch_text : Declared → List ℕ
switch_text d = line_of (codes "switch " ++ decimal d.dpid ++ codes " " ++ decimal d.cap ++ codes " " ++ ports_text d.ports)

-- ---- Applications: `reply APP STEP ..`; `start APP WORD` is the line of a report

-- a step, behind a space
unfoldable pub step_text : ScriptStep → List ℕ
step_text (Bytes bytes) = codes " x:" ++ encode_lower bytes
step_text Closed = codes " closed"
step_text Silent = codes " silent"

abbrev pub steps_text : List ScriptStep → List ℕ
steps_text steps = flat_map step_text steps

unfoldable pub reply_text : List ℕ → List ScriptStep → List ℕ
reply_text app steps = line_of (codes "reply " ++ app ++ steps_text steps)

-- ---- Links: `fault link DPID N`

unfoldable pub fault_text : ℕ → ℕ → List ℕ
fault_text dpid call = line_of (codes "fault link " ++ decimal dpid ++ codes " " ++ decimal call)

-- ---- Stimuli

abbrev pub change_word : PortChange → List ℕ
change_word Up = codes "up"
change_word Down = codes "down"
change_word Add = codes "add"
change_word Delete = codes "delete"

-- what happens to a switch: of an `Advance` of one switch there is no line, and none comes
unfoldable pub happened_text : ℕ → Stimulus → List ℕ
happened_text dpid (Frame port bytes) = line_of (codes "frame " ++ decimal dpid ++ codes " " ++ decimal port ++ codes " " ++ encode_lower bytes)
happened_text dpid (Advance moment) = []
happened_text dpid (Port port change) = line_of (codes "port " ++ decimal dpid ++ codes " " ++ decimal port ++ codes " " ++ change_word change)
happened_text dpid (Counts priority packets bytes) =
    line_of (codes "count " ++ decimal dpid ++ codes " " ++ decimal priority ++ codes " " ++ decimal packets ++ codes " " ++ decimal bytes)
happened_text dpid (Raw bytes) = line_of (codes "raw " ++ decimal dpid ++ codes " " ++ encode_lower bytes)

unfoldable pub stimulus_text : WorldStim → List ℕ
stimulus_text (Join dpid) = line_of (codes "join " ++ decimal dpid)
stimulus_text (Leave dpid) = line_of (codes "leave " ++ decimal dpid)
stimulus_text (At moment) = line_of (codes "at " ++ decimal moment)
stimulus_text (Of dpid what) = happened_text dpid what

-- ---- All lines

abbrev pub line_text : SessionLine → List ℕ
line_text (SwitchLine d) = switch_text d
line_text (StartLine app how) = start_line app how
line_text (ReplyLine app steps) = reply_text app steps
line_text (FaultLine dpid call) = fault_text dpid call
line_text (StimulusLine stimulus) = stimulus_text stimulus

abbrev pub lines_text : List SessionLine → List ℕ
lines_text lines = flat_map line_text lines

-- `session 1`, and the lines
unfoldable pub session_spelled : List SessionLine → List ℕ
session_spelled lines = line_of (codes "session 1") ++ lines_text lines
