-- The lines of applications as they are written, piece by piece. `specs/laws/SpelledLaws.antt` shows that they spell the lines of
-- `Recording.antt`. This text form is our own.
use Rattle.std.specs.Prelude.{◌==◌, ℕ, ◌+◌, ◌-◌, List, [], ◌∷◌, ◌++◌, length, take, codes, if◌then◌else◌}
use Rattle.lego_model.specs.Journal.{Untold}
use Rattle.lego_model.specs.RunReport.{start_line}
use Rattle.session_record.specs.Deeds.{Deed, of_app, attempts, parts, pieces, end_from}
use Rattle.session_record.specs.Lines.{steps_text}
use Rattle.session_record.specs.Recording.{start_told, played_size, bytes_step, end_steps, turn_pieces, left_behind}

-- ---- A turn

abbrev pub piece_text : List ℕ → List ℕ
piece_text piece = steps_text (bytes_step piece)

-- as far as so many bytes go
unfoldable pub pieces_text : ℕ → List Deed → List ℕ
pieces_text left [] = []
pieces_text left (d ∷ deeds) = piece_text (take left d.bytes) ++ pieces_text (left - length d.bytes) deeds

unfoldable pub rest_behind : ℕ → List Deed → ℕ
rest_behind left [] = left
rest_behind left (d ∷ deeds) = rest_behind (left - length d.bytes) deeds

abbrev pub turn_rest : List ℕ → ℕ → List Deed → ℕ
turn_rest front left turn = rest_behind (left - length front) turn

unfoldable pub turn_text : List ℕ → List ℕ → ℕ → List Deed → List ℕ
turn_text app front left turn =
    codes "reply " ++ app ++ piece_text (take left front) ++ pieces_text (left - length front) turn
    ++ steps_text (end_steps (turn_rest front left turn == left) (end_from Untold turn)) ++ codes "\n"

-- ---- A life

unfoldable pub turns_text : List ℕ → ℕ → List (List Deed) → List ℕ
turns_text app left [] = []
turns_text app left (turn ∷ turns) = turn_text app [] left turn ++ turns_text app (turn_rest [] left turn) turns

unfoldable pub life_text : List ℕ → List ℕ → ℕ → List (List Deed) → List ℕ
life_text app front left [] = []
life_text app front left (turn ∷ turns) = turn_text app front left turn ++ turns_text app (turn_rest front left turn) turns

unfoldable pub told_text : List ℕ → List Deed → List (List Deed) → List ℕ
told_text app start turns =
    let told = start_told start in start_line app told.0 ++ life_text app told.1 (played_size told.1 turns) turns

abbrev pub parts_text : List ℕ → List (List Deed) → List ℕ
parts_text app [] = []
parts_text app (start ∷ turns) = told_text app start turns

unfoldable pub attempt_text : List ℕ → List Deed → List ℕ
attempt_text app deeds = if length deeds == 0 then [] else parts_text app (parts deeds)

-- ---- All lives

unfoldable pub attempts_text : List ℕ → List (List Deed) → List ℕ
attempts_text app [] = []
attempts_text app (attempt ∷ more) = attempt_text app attempt ++ attempts_text app more

unfoldable pub apps_text : ℕ → List (List ℕ) → List Deed → List ℕ
apps_text i [] deeds = []
apps_text i (name ∷ names) deeds = attempts_text name (attempts (of_app i deeds)) ++ apps_text (i + 1) names deeds
