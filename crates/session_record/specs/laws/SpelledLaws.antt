-- What is written piece by piece is the text of the lines.
use Rattle.std.specs.Prelude.{◌≡◌, ◌==◌, ℕ, ◌+◌, ◌-◌, Bool, true, false, cond, List, Option, [], ◌∷◌, ◌++◌, length, take, codes, refl, if◌then◌else◌}
use Rattle.std.specs.List.{flat_map, concat}
use Rattle.std.proofs.lemmas.Bool.{false≢true}
use Rattle.std.proofs.Common.{sym, ap, ◌∙◌, arith, append_assoc, length-append}
use Rattle.app_frames.specs.declared.cause.Tried.{Tried}
use Rattle.app_frames.specs.declared.script.ScriptStep.{ScriptStep}
use Rattle.lego_model.specs.Journal.{Untold}
use Rattle.lego_model.specs.RunReport.{line_of, start_line}
use Rattle.outside.specs.Seen.{Seen, Shown}
use Rattle.session_record.specs.Texts.{IsText}
use Rattle.session_record.specs.Deeds.{Deed, of_app, attempts, parts, pieces, end_from}
use Rattle.session_record.specs.Lines.{SessionLine, step_text, steps_text, reply_text, line_text, lines_text}
use Rattle.session_record.specs.Recording.{start_told, played_size, bytes_step, steps_within, end_steps, turn_pieces, left_behind, turn_steps, turn_lines, part_lines, attempt_lines, app_lines, lines_by_name}
use Rattle.session_record.specs.Spelled.{piece_text, pieces_text, rest_behind, turn_rest, turn_text, turns_text, life_text, told_text, parts_text, attempt_text, attempts_text, apps_text}

flat_joined : {X : Type 0} (f : X → List ℕ) (xs ys : List X) → flat_map f (xs ++ ys) ≡ flat_map f xs ++ flat_map f ys
flat_joined f [] ys = refl
flat_joined f (x ∷ xs) ys = ap (λ (r : List ℕ). f x ++ r) (flat_joined f xs ys) ∙ sym (append_assoc (f x) (flat_map f xs) (flat_map f ys))

pub lines_joined : (xs ys : List SessionLine) → lines_text (xs ++ ys) ≡ lines_text xs ++ lines_text ys
lines_joined xs ys = flat_joined line_text xs ys

-- ---- A turn

pieces_is : (left : ℕ) (deeds : List Deed) → steps_text (steps_within left (pieces deeds)) ≡ pieces_text left deeds
unfolding steps_within pieces_text
pieces_is left [] = refl
pieces_is left (d ∷ deeds) =
    flat_joined step_text (bytes_step (take left d.bytes)) (steps_within (left - length d.bytes) (pieces deeds))
    ∙ ap (λ (r : List ℕ). piece_text (take left d.bytes) ++ r) (pieces_is (left - length d.bytes) deeds)

rest_is : (left : ℕ) (deeds : List Deed) → rest_behind left deeds ≡ left_behind left (pieces deeds)
unfolding rest_behind
rest_is left [] = omega arith
rest_is left (d ∷ deeds) = rest_is (left - length d.bytes) deeds ∙ omega (arith, length-append d.bytes (concat (pieces deeds)))

turn_rest_is : (front : List ℕ) (left : ℕ) (turn : List Deed) → left_behind left (turn_pieces front turn) ≡ turn_rest front left turn
turn_rest_is front left turn = omega (arith, rest_is (left - length front) turn, length-append front (concat (pieces turn)))

four : (a p q e : List ℕ) → a ++ ((p ++ q) ++ e) ≡ ((a ++ p) ++ q) ++ e
four a p q e = sym (append_assoc a (p ++ q) e) ∙ ap (λ (r : List ℕ). r ++ e) (sym (append_assoc a p q))

abbrev ending_text : ℕ → ℕ → List Deed → List ℕ
ending_text rest left turn = steps_text (end_steps (rest == left) (end_from Untold turn))

first_steps : (front : List ℕ) (left : ℕ) (turn : List Deed) → steps_text (steps_within left (turn_pieces front turn)) ≡ piece_text (take left front) ++ pieces_text (left - length front) turn
unfolding steps_within
first_steps front left turn =
    flat_joined step_text (bytes_step (take left front)) (steps_within (left - length front) (pieces turn))
    ∙ ap (λ (r : List ℕ). piece_text (take left front) ++ r) (pieces_is (left - length front) turn)

all_steps : (front : List ℕ) (left : ℕ) (turn : List Deed)
    → steps_text (turn_steps front left turn) ≡ (piece_text (take left front) ++ pieces_text (left - length front) turn) ++ ending_text (turn_rest front left turn) left turn
unfolding turn_steps
all_steps front left turn =
    flat_joined step_text (steps_within left (turn_pieces front turn)) (end_steps (left_behind left (turn_pieces front turn) == left) (end_from Untold turn))
    ∙ ap (λ (r : List ℕ). r ++ ending_text (left_behind left (turn_pieces front turn)) left turn) (first_steps front left turn)
    ∙ ap (λ (n : ℕ). (piece_text (take left front) ++ pieces_text (left - length front) turn) ++ ending_text n left turn) (turn_rest_is front left turn)

pub turn_is : (app front : List ℕ) (left : ℕ) (turn : List Deed) → reply_text app (turn_steps front left turn) ≡ turn_text app front left turn
unfolding reply_text turn_text line_of
turn_is app front left turn =
    ap (λ (r : List ℕ). (codes "reply " ++ app ++ r) ++ 10 ∷ []) (all_steps front left turn)
    ∙ ap (λ (r : List ℕ). r ++ 10 ∷ []) (four (codes "reply " ++ app) (piece_text (take left front)) (pieces_text (left - length front) turn) (ending_text (turn_rest front left turn) left turn))

-- ---- A life

turns_is : (app : List ℕ) (left : ℕ) (turns : List (List Deed)) → lines_text (turn_lines app [] left turns) ≡ turns_text app left turns
unfolding turns_text
turns_is app left [] = refl
turns_is app left (turn ∷ turns) =
    ap (λ (r : List ℕ). r ++ lines_text (turn_lines app [] (left_behind left (turn_pieces [] turn)) turns)) (turn_is app [] left turn)
    ∙ ap (λ (n : ℕ). turn_text app [] left turn ++ lines_text (turn_lines app [] n turns)) (turn_rest_is [] left turn)
    ∙ ap (λ (r : List ℕ). turn_text app [] left turn ++ r) (turns_is app (turn_rest [] left turn) turns)

life_is : (app front : List ℕ) (left : ℕ) (turns : List (List Deed)) → lines_text (turn_lines app front left turns) ≡ life_text app front left turns
unfolding life_text
life_is app front left [] = refl
life_is app front left (turn ∷ turns) =
    ap (λ (r : List ℕ). r ++ lines_text (turn_lines app [] (left_behind left (turn_pieces front turn)) turns)) (turn_is app front left turn)
    ∙ ap (λ (n : ℕ). turn_text app front left turn ++ lines_text (turn_lines app [] n turns)) (turn_rest_is front left turn)
    ∙ ap (λ (r : List ℕ). turn_text app front left turn ++ r) (turns_is app (turn_rest front left turn) turns)

parts_is : (app : List ℕ) (all : List (List Deed)) → lines_text (part_lines app all) ≡ parts_text app all
unfolding told_text
parts_is app [] = refl
parts_is app (start ∷ turns) =
    let told = start_told start in
    ap (λ (r : List ℕ). start_line app told.0 ++ r) (life_is app told.1 (played_size told.1 turns) turns)

-- ---- All lives

attempt_is : (app : List ℕ) (deeds : List Deed) → lines_text (attempt_lines app deeds) ≡ attempt_text app deeds
unfolding attempt_lines attempt_text
attempt_is app deeds = elim (length deeds == 0) as (λ b. lines_text (cond b [] (part_lines app (parts deeds))) ≡ cond b [] (parts_text app (parts deeds))) [
  | true ↦ refl
  | false ↦ parts_is app (parts deeds)
]

attempts_are : (app : List ℕ) (all : List (List Deed)) → lines_text (flat_map (attempt_lines app) all) ≡ attempts_text app all
unfolding attempts_text
attempts_are app [] = refl
attempts_are app (attempt ∷ more) =
    lines_joined (attempt_lines app attempt) (flat_map (attempt_lines app) more)
    ∙ ap (λ (r : List ℕ). r ++ lines_text (flat_map (attempt_lines app) more)) (attempt_is app attempt)
    ∙ ap (λ (r : List ℕ). attempt_text app attempt ++ r) (attempts_are app more)

pub apps_are : (i : ℕ) (names : List (List ℕ)) (deeds : List Deed) → lines_text (lines_by_name i names deeds) ≡ apps_text i names deeds
unfolding lines_by_name apps_text app_lines
apps_are i [] deeds = refl
apps_are i (name ∷ names) deeds =
    lines_joined (app_lines name (of_app i deeds)) (lines_by_name (i + 1) names deeds)
    ∙ ap (λ (r : List ℕ). r ++ lines_text (lines_by_name (i + 1) names deeds)) (attempts_are name (attempts (of_app i deeds)))
    ∙ ap (λ (r : List ℕ). attempts_text name (attempts (of_app i deeds)) ++ r) (apps_are (i + 1) names deeds)

-- ---- The whole

pub whole_pushed : (a b c d : List SessionLine) → lines_text (a ++ b ++ c ++ d) ≡ ((lines_text a ++ lines_text b) ++ lines_text c) ++ lines_text d
whole_pushed a b c d =
    lines_joined (a ++ b ++ c) d
    ∙ ap (λ (r : List ℕ). r ++ lines_text d) (lines_joined (a ++ b) c)
    ∙ ap (λ (r : List ℕ). (r ++ lines_text c) ++ lines_text d) (lines_joined a b)

-- ---- A world that shows nothing

-- a text that another world within it spells is one of such a world
pub text_unshown : {Own Other : Type 0} {A : Type 0} (Tells : Type 0) (seen : Seen Own) (other : Seen Other) (names : List (List ℕ)) (log : Option (List Deed)) (losses : List (ℕ × ℕ)) (text : List ℕ)
    → seen.given.shows ≡ false → IsText A other names log losses text → IsText (Shown Tells seen) seen names log losses text
text_unshown Tells seen other names log losses text unshown is = record {
  deeds = is.deeds;
  kept = is.kept;
  spelled = record {
    switches = is.spelled.switches;
    stimuli = is.spelled.stimuli;
    own_switches = λ shown. absurd (false≢true (sym unshown ∙ shown.1));
    own_stimuli = λ shown. absurd (false≢true (sym unshown ∙ shown.1));
    spelled = is.spelled.spelled;
  };
}
