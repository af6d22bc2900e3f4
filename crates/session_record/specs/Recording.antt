-- The session that does a run again, as the deeds of its applications give it. A life of an application is what it gave between two
-- starts: the start, and a turn for each Event. All of this is our own choice.
use Rattle.std.specs.Prelude.{◌==◌, ℕ, ◌+◌, ◌-◌, Bool, true, false, List, [], ◌∷◌, ◌++◌, length, take, drop, map, if◌then◌else◌, nat_lt, min}
use Rattle.std.specs.List.{list_any, flat_map, concat}
use Rattle.of_types.specs.Fields.{number_at}
use Rattle.of_types.specs.declared.journal.WorldStim.{WorldStim}
use Rattle.app_frames.specs.declared.cause.Tried.{Tried}
use Rattle.app_frames.specs.declared.cause.Tried.TheVariants as tried
use Rattle.app_frames.specs.declared.script.ScriptStep.{ScriptStep}
use Rattle.app_frames.specs.declared.script.ScriptStep.TheVariants.{Bytes, Closed, Silent}
use Rattle.flow_table.specs.Switch.{Declared}
use Rattle.lego_model.specs.Journal.{End, Closes, Stalls, Untold}
use Rattle.lego_model.specs.Turns.{next_of, first_frame}
use Rattle.session_record.specs.Deeds.{Deed, is_refused, is_lost, is_unasked, is_given, of_app, attempts, parts, pieces, end_from}
use Rattle.session_record.specs.Lines.{SessionLine, SwitchLine, StartLine, ReplyLine, FaultLine, StimulusLine, session_spelled}

abbrev pub bytes_of : List Deed → List ℕ
bytes_of deeds = concat (pieces deeds)

-- ---- A start

-- how it ended, and the bytes behind the frame Ready, which begin the next reply
unfoldable pub start_told : List Deed → Tried × List ℕ
start_told deeds =
    if list_any (λ d. is_refused d.kind) deeds then (tried.Refused, [])
    else if list_any (λ d. is_lost d.kind) deeds then (tried.Closed, [])
    else first_frame (end_from Untold deeds) (next_of (bytes_of deeds) [])

-- ---- How much of a life's bytes was played: where a frame could not be given, what stands behind the last frame that was played is
-- cut off, since a scripted application can always be given one.

-- the frame at the front: four bytes of length, and as many as they say; all, where they are fewer
abbrev pub frame_size : List ℕ → ℕ
frame_size bytes = if nat_lt (length bytes) 4 then length bytes else min (4 + number_at 4 0 bytes) (length bytes)

abbrev pub behind_frame : List ℕ → ℕ → ℕ
behind_frame bytes at = at + frame_size (drop at bytes)

-- behind one frame for each Answer that was given
unfoldable pub behind_answered : List ℕ → ℕ → List Deed → ℕ
behind_answered bytes at [] = at
behind_answered bytes at (d ∷ deeds) = behind_answered bytes (if is_given d.kind then behind_frame bytes at else at) deeds

-- and one for the last frame of the turn: it was done, or its Answer could not be given
unfoldable pub behind_turn : List ℕ → ℕ → List Deed → ℕ
behind_turn bytes at deeds =
    if list_any (λ d. is_unasked d.kind) deeds then at else behind_answered bytes (behind_frame bytes at) deeds

abbrev pub behind_turns : List ℕ → ℕ → List (List Deed) → ℕ
behind_turns bytes at [] = at
behind_turns bytes at (turn ∷ turns) = behind_turns bytes (behind_turn bytes at turn) turns

-- more than any life has
abbrev pub no_end : ℕ
no_end = 18446744073709551615

-- the life's bytes from behind the frame Ready on
abbrev pub life_bytes : List ℕ → List (List Deed) → List ℕ
life_bytes rest turns = rest ++ flat_map bytes_of turns

unfoldable pub played_size : List ℕ → List (List Deed) → ℕ
played_size rest turns =
    if list_any (λ turn. list_any (λ d. is_lost d.kind) turn) turns then behind_turns (life_bytes rest turns) 0 turns else no_end

-- ---- A turn: a step for each piece that it took, as far as so many bytes go, and then how it ended

abbrev pub bytes_step : List ℕ → List ScriptStep
bytes_step [] = []
bytes_step (byte ∷ bytes) = Bytes (byte ∷ bytes) ∷ []

unfoldable pub steps_within : ℕ → List (List ℕ) → List ScriptStep
steps_within left [] = []
steps_within left (piece ∷ pieces) = bytes_step (take left piece) ++ steps_within (left - length piece) pieces

-- closed also where there is no piece
abbrev pub end_steps : Bool → End → List ScriptStep
end_steps bare Closes = Closed ∷ []
end_steps bare Stalls = Silent ∷ []
end_steps true Untold = Closed ∷ []
end_steps false Untold = []

abbrev pub turn_pieces : List ℕ → List Deed → List (List ℕ)
turn_pieces front turn = front ∷ pieces turn

abbrev pub left_behind : ℕ → List (List ℕ) → ℕ
left_behind left all = left - length (concat all)

unfoldable pub turn_steps : List ℕ → ℕ → List Deed → List ScriptStep
turn_steps front left turn =
    steps_within left (turn_pieces front turn) ++ end_steps (left_behind left (turn_pieces front turn) == left) (end_from Untold turn)

-- ---- A life, an application, the whole

-- the first of these turns begins with the bytes in front
abbrev pub turn_lines : List ℕ → List ℕ → ℕ → List (List Deed) → List SessionLine
turn_lines app front left [] = []
turn_lines app front left (turn ∷ turns) = ReplyLine app (turn_steps front left turn) ∷ turn_lines app [] (left_behind left (turn_pieces front turn)) turns

abbrev pub part_lines : List ℕ → List (List Deed) → List SessionLine
part_lines app [] = []
part_lines app (start ∷ turns) =
    let told = start_told start in StartLine app told.0 ∷ turn_lines app told.1 (played_size told.1 turns) turns

-- nothing is said of an attempt of which nothing is told
unfoldable pub attempt_lines : List ℕ → List Deed → List SessionLine
attempt_lines app deeds = if length deeds == 0 then [] else part_lines app (parts deeds)

unfoldable pub app_lines : List ℕ → List Deed → List SessionLine
app_lines app deeds = flat_map (attempt_lines app) (attempts deeds)

-- by the names, the first of which is that of the application with index i
unfoldable pub lines_by_name : ℕ → List (List ℕ) → List Deed → List SessionLine
lines_by_name i [] deeds = []
lines_by_name i (name ∷ names) deeds = app_lines name (of_app i deeds) ++ lines_by_name (i + 1) names deeds

-- a switch that was lost, and the number of the call of its link at which it was
abbrev pub fault_line : ℕ × ℕ → SessionLine
fault_line loss = FaultLine loss.0 loss.1

-- all lines of a run: its switches, what its applications did, which switches were lost, and what happened
unfoldable pub lines_recorded : List (List ℕ) → List Declared → List WorldStim → List Deed → List (ℕ × ℕ) → List SessionLine
lines_recorded names switches stimuli deeds losses =
    map SwitchLine switches ++ lines_by_name 0 names deeds ++ map fault_line losses ++ map StimulusLine stimuli

unfoldable pub recording : List (List ℕ) → List Declared → List WorldStim → List Deed → List (ℕ × ℕ) → List ℕ
recording names switches stimuli deeds losses = session_spelled (lines_recorded names switches stimuli deeds losses)
