-- What reading a session makes of lines as a recording writes them: each adds to the session so far what it was written for. This text
-- form is our own.
use Rattle.std.specs.Prelude.{◌≡◌, ◌==◌, ℕ, ◌≤◌, true, false, List, [], ◌∷◌, ◌++◌, length, All, codes, Ok, nat_le}
use Rattle.std.specs.List.{list_all}
use Rattle.std.specs.Fmt.{decimal}
use Rattle.hex.specs.Hex.{encode_lower, IsBytes}
use Rattle.of_types.specs.declared.journal.Stimulus.TheVariants.{Frame, Port, Counts, Raw}
use Rattle.of_types.specs.declared.journal.PortChange.{PortChange}
use Rattle.of_types.specs.declared.journal.WorldStim.TheVariants.{Join, Leave, At, Of}
use Rattle.app_frames.specs.declared.cause.Tried.{Tried}
use Rattle.app_frames.specs.declared.cause.Tried.TheVariants as tried
use Rattle.app_frames.specs.declared.script.ScriptStep.{ScriptStep}
use Rattle.app_frames.specs.declared.script.ScriptStep.TheVariants.{Bytes}
use Rattle.app_frames.specs.declared.script.StartScript.{StartScript}
use Rattle.app_frames.specs.declared.script.StartScript.TheVariants as scripts
use Rattle.of_wire.specs.Reading.{reading_of}
use Rattle.outside.specs.Conforming.{may_be_raw}
use Rattle.lego_model.specs.Words.{words_of}
use Rattle.lego_model.specs.SessionWords.{last_number, an_app, are_ports}
use Rattle.lego_model.specs.RunReport.{tried_word}
use Rattle.lego_io.specs.Lines.{most_line}
use Rattle.lego_model.specs.SessionLines.{SoFar, no_session, is_declared, with_switch, with_stimulus, with_fault, with_start, with_reply, most_stimuli, line_of}
use Rattle.lego_model.specs.SessionText.{is_skipped, is_printable, is_opening, session_text}
use Rattle.flow_table.specs.Switch.{Declared}
use Rattle.session_record.specs.Lines.{change_word, ports_text, steps_text, SessionLine, line_text, session_spelled}

-- one more stimulus may come
abbrev pub HasRoom : SoFar → Type 0
HasRoom s = nat_le most_stimuli (length s.session.stimuli) ≡ false

-- a switch joins
abbrev pub JoinIsRead : Type 0
JoinIsRead = (names : List (List ℕ)) (s : SoFar) (d : ℕ) → 1 ≤ d → d ≤ last_number → is_declared s d ≡ true → HasRoom s
    → line_of names s (words_of (codes "join " ++ decimal d)) ≡ Ok (with_stimulus s (Join d))

-- it leaves
abbrev pub LeaveIsRead : Type 0
LeaveIsRead = (names : List (List ℕ)) (s : SoFar) (d : ℕ) → 1 ≤ d → d ≤ last_number → is_declared s d ≡ true → HasRoom s
    → line_of names s (words_of (codes "leave " ++ decimal d)) ≡ Ok (with_stimulus s (Leave d))

-- a moment that is not below the last one
abbrev pub MomentIsRead : Type 0
MomentIsRead = (names : List (List ℕ)) (s : SoFar) (moment : ℕ) → moment ≤ 4294967295 → s.moment ≤ moment → HasRoom s
    → line_of names s (words_of (codes "at " ++ decimal moment)) ≡ Ok (record (with_stimulus s (At moment)) { moment = moment })

-- a frame arrives
abbrev pub FrameIsRead : Type 0
FrameIsRead = (names : List (List ℕ)) (s : SoFar) (d port : ℕ) (bytes : List ℕ) → 1 ≤ d → d ≤ last_number → is_declared s d ≡ true → HasRoom s → port ≤ 65535
    → IsBytes bytes → 14 ≤ length bytes → length bytes ≤ 9216
    → line_of names s (words_of (codes "frame " ++ decimal d ++ codes " " ++ decimal port ++ codes " " ++ encode_lower bytes)) ≡ Ok (with_stimulus s (Of d (Frame port bytes)))

-- bytes that a switch may send unasked
abbrev pub RawIsRead : Type 0
RawIsRead = (names : List (List ℕ)) (s : SoFar) (d : ℕ) (bytes : List ℕ) → 1 ≤ d → d ≤ last_number → is_declared s d ≡ true → HasRoom s
    → IsBytes bytes → 1 ≤ length bytes → length bytes ≤ 65535 → may_be_raw (reading_of bytes) ≡ true
    → line_of names s (words_of (codes "raw " ++ decimal d ++ codes " " ++ encode_lower bytes)) ≡ Ok (with_stimulus s (Of d (Raw bytes)))

-- a loss, at the call with its number
abbrev pub LossIsRead : Type 0
LossIsRead = (names : List (List ℕ)) (s : SoFar) (d call : ℕ) → 1 ≤ d → d ≤ last_number → is_declared s d ≡ true → 1 ≤ call → call ≤ last_number
    → line_of names s (words_of (codes "fault link " ++ decimal d ++ codes " " ++ decimal call)) ≡ Ok (with_fault s (d, call))

-- a port comes, goes, or its link does
abbrev pub PortIsRead : Type 0
PortIsRead = (names : List (List ℕ)) (s : SoFar) (d port : ℕ) (change : PortChange) → 1 ≤ d → d ≤ last_number → is_declared s d ≡ true → HasRoom s → 1 ≤ port → port ≤ 65280
    → line_of names s (words_of (codes "port " ++ decimal d ++ codes " " ++ decimal port ++ codes " " ++ change_word change)) ≡ Ok (with_stimulus s (Of d (Port port change)))

-- the entries of a priority count more
abbrev pub CountIsRead : Type 0
CountIsRead = (names : List (List ℕ)) (s : SoFar) (d priority packets bytes : ℕ) → 1 ≤ d → d ≤ last_number → is_declared s d ≡ true → HasRoom s
    → priority ≤ 65535 → packets ≤ last_number → bytes ≤ last_number
    → line_of names s (words_of (codes "count " ++ decimal d ++ codes " " ++ decimal priority ++ codes " " ++ decimal packets ++ codes " " ++ decimal bytes)) ≡ Ok (with_stimulus s (Of d (Counts priority packets bytes)))

-- a byte that is no space
abbrev pub IsInk : ℕ → Type 0
IsInk b = (b == 32) ≡ false

-- how a session says that a start ended so
abbrev pub script_of : Tried → StartScript
script_of tried.Ready = scripts.Ready
script_of tried.Refused = scripts.Refused
script_of tried.Closed = scripts.Closed
script_of tried.Silent = scripts.Silent
script_of tried.Garbled = scripts.Garbled

-- how an attempt ended to start the application of a name without a space
abbrev pub StartIsRead : Type 0
StartIsRead = (names : List (List ℕ)) (s : SoFar) (app : List ℕ) (i : ℕ) (how : Tried) → All IsInk app → an_app names app ≡ Ok i
    → line_of names s (words_of (codes "start " ++ app ++ codes " " ++ tried_word how)) ≡ Ok (with_start s (i, script_of how))

-- a step of bytes has some
abbrev pub IsOneStep : ScriptStep → Type 0
IsOneStep (Bytes bytes) = IsBytes bytes × (1 ≤ length bytes) × (length bytes ≤ last_number)
IsOneStep other = Unit {0}

-- of steps none stands behind an end
abbrev pub AreSteps : List ScriptStep → Type 0
AreSteps [] = Unit {0}
AreSteps (step ∷ []) = IsOneStep step
AreSteps (Bytes bytes ∷ next ∷ steps) = IsOneStep (Bytes bytes) × AreSteps (next ∷ steps)
AreSteps (end ∷ next ∷ steps) = ⊥

-- what the application of such a name gives in a turn
abbrev pub ReplyIsRead : Type 0
ReplyIsRead = (names : List (List ℕ)) (s : SoFar) (app : List ℕ) (i : ℕ) (step : ScriptStep) (steps : List ScriptStep) → All IsInk app → an_app names app ≡ Ok i → AreSteps (step ∷ steps)
    → line_of names s (words_of (codes "reply " ++ app ++ steps_text (step ∷ steps))) ≡ Ok (with_reply s (i, step ∷ steps))

-- a switch that is not declared yet
abbrev pub SwitchIsRead : Type 0
SwitchIsRead = (names : List (List ℕ)) (s : SoFar) (d : Declared) → 1 ≤ d.dpid → d.dpid ≤ last_number → is_declared s d.dpid ≡ false → nat_le 64 (length s.session.switches) ≡ false
    → 1 ≤ d.cap → d.cap ≤ 4096 → are_ports d.ports ≡ true
    → line_of names s (words_of (codes "switch " ++ decimal d.dpid ++ codes " " ++ decimal d.cap ++ codes " " ++ ports_text d.ports)) ≡ Ok (with_switch s (d.dpid, d.cap, d.ports))

-- ---- A whole text

-- nothing was read but the line `session 1`
abbrev pub nothing_read : SoFar
nothing_read = record { session = no_session; moment = 0 }

-- a line that is neither passed over, nor too long, nor `session 1` once more
pub record IsPlain (line : List ℕ) : Type 0 where
  pub few : length line ≤ most_line
  pub seen : is_skipped line ≡ false
  pub printable : list_all is_printable line ≡ true
  pub other : is_opening line ≡ false

-- a line of a recording is written as one line, whose words make this of the session so far
pub record IsReadAs (names : List (List ℕ)) (s : SoFar) (l : SessionLine) (t : SoFar) : Type 0 where
  pub line : List ℕ
  pub spelled : line_text l ≡ line ++ 10 ∷ []
  pub plain : IsPlain line
  pub read : line_of names s (words_of line) ≡ Ok t

-- one after the other they make this of it
abbrev pub AreRead : List (List ℕ) → SoFar → List SessionLine → SoFar → Type 0
AreRead names s [] t = s ≡ t
AreRead names s (l ∷ lines) t = (next : SoFar) × IsReadAs names s l next × AreRead names next lines t

-- then the text of all of them is read as the session that they make
abbrev pub TextIsRead : Type 0
TextIsRead = (names : List (List ℕ)) (n : ℕ) (lines : List SessionLine) (t : SoFar) → AreRead names nothing_read lines t
    → session_text names n (session_spelled lines) ≡ Ok t.session
