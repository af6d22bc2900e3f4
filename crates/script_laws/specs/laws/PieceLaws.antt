-- Laws of pieces: what was taken of a start or a turn up to now is the front of what its steps say.
use Rattle.std.proofs.Common.{◌≡◌, ℕ, zero, suc, true, false, List, [], ◌∷◌, ◌++◌, length, take, drop, refl, sym, ap, ◌∙◌, inl, inr, subst, if◌then◌else◌}
use Rattle.of_types.specs.declared.journal.Act.{Act}
use Rattle.of_types.specs.declared.journal.Act.TheVariants.{Took}
use Rattle.app_frames.specs.declared.script.ScriptStep.{ScriptStep}
use Rattle.app_frames.specs.declared.script.ScriptStep.TheVariants.{Bytes, Closed, Silent}
use Rattle.app_frames.specs.declared.script.StartScript.{StartScript}
use Rattle.app_frames.specs.declared.script.StartScript.TheVariants as start
use Rattle.app_frames.specs.declared.frame.AppFrame.TheVariants.{Ready}
use Rattle.app_frames.specs.Spelling.{app_bytes}
use Rattle.lego_model.specs.Journal.{End, Closes, Stalls, Untold, pieces, end_from, any_gone}
use Rattle.lego_model.specs.Scripted.{cut_from, pieces_of, pieces_said, start_said, IsLookedAt, IsStartFront}
use Rattle.sim_world.specs.Scripts.{ready_bytes, steps_of_start, is_refused, given_of, left_of, taken_bytes}
use Rattle.sim_world.specs.laws.ScriptLaws.{ready_bytes-spelled}
use Rattle.script_laws.specs.Ahead.{is_end}
use Rattle.script_laws.specs.Looks.{TakesNothing, LooksAt, Looks}

-- ---- Bytes in pieces

cut_rest : (n : ℕ) (bytes : List ℕ) → cut_from n bytes ≡ (take n bytes, pieces_of (drop n bytes))
unfolding pieces_of
cut_rest zero [] = refl
cut_rest (suc n) [] = refl
cut_rest zero (b ∷ bytes) = refl
cut_rest (suc n) (b ∷ bytes) = ap (λ (r : List ℕ × List (List ℕ)). (b ∷ r.0, r.1)) (cut_rest n bytes)

first_piece : (b : ℕ) (bytes : List ℕ) → pieces_of (b ∷ bytes) ≡ take 65536 (b ∷ bytes) ∷ pieces_of (drop 65536 (b ∷ bytes))
unfolding pieces_of
first_piece b bytes = ap (λ (r : List ℕ × List (List ℕ)). (b ∷ r.0) ∷ r.1) (cut_rest 65535 bytes)

drop_taken : (n : ℕ) (bytes : List ℕ) → drop (length (take n bytes)) bytes ≡ drop n bytes
drop_taken zero [] = refl
drop_taken (suc n) [] = refl
drop_taken zero (b ∷ bytes) = refl
drop_taken (suc n) (b ∷ bytes) = drop_taken n bytes

-- ---- Acts that take

pub looks_none : (left : List ScriptStep) (acts : List Act) → TakesNothing acts → LooksAt left acts
looks_none left acts q = (pieces_said left, sym (ap (λ (ps : List (List ℕ)). ps ++ pieces_said left) q.pieces_is), inl (q.end_is Untold))

ends_here : (end : End) (acts : List Act) → TakesNothing acts → IsLookedAt (pieces acts) (end_from end acts) [] end
ends_here end acts q = ([], sym (ap (λ (ps : List (List ℕ)). ps ++ []) q.pieces_is), inr (refl, sym (q.end_is end)))

-- a step of no bytes says nothing
none_said : (of : ℕ) (steps : List ScriptStep) (acts : List Act) → LooksAt steps (Took of (given_of 65536 steps) ∷ acts) → LooksAt (Bytes [] ∷ steps) (Took of (given_of 65536 (Bytes [] ∷ steps)) ∷ acts)
unfolding pieces_of given_of
none_said of steps acts looked = looked

-- a take gives the next piece, or the end
pub looks_took : (of : ℕ) (left : List ScriptStep) (acts : List Act)
    → Looks (is_end (given_of 65536 left)) (left_of (length (taken_bytes (given_of 65536 left))) left) acts → LooksAt left (Took of (given_of 65536 left) ∷ acts)
unfolding given_of left_of
looks_took of [] acts looks = ends_here Closes acts (looks.quiet refl)
looks_took of (Bytes [] ∷ steps) acts looks = none_said of steps acts (looks_took of steps acts looks)
looks_took of (Bytes (b ∷ bs) ∷ steps) acts looks =
    let rest = looks.looked refl in
    let one : List ℕ = take 65536 (b ∷ bs) in (
      rest.0,
      ap (λ (ps : List (List ℕ)). ps ++ pieces_said steps) (first_piece b bs)
          ∙ ap (λ (ps : List (List ℕ)). one ∷ ps) (ap (λ (bytes : List ℕ). pieces_of bytes ++ pieces_said steps) (sym (drop_taken 65536 (b ∷ bs))) ∙ rest.1),
      rest.2,
    )
looks_took of (Closed ∷ steps) acts looks = ends_here Closes acts (looks.quiet refl)
looks_took of (Silent ∷ steps) acts looks = ends_here Stalls acts (looks.quiet refl)

-- ---- Starts

ready_front : (acts : List Act) → LooksAt (steps_of_start start.Ready) acts → IsLookedAt (pieces acts) (end_from Untold acts) (app_bytes Ready ∷ []) Closes
unfolding steps_of_start pieces_of ready_bytes
ready_front acts looked = subst (λ (bytes : List ℕ). IsLookedAt (pieces acts) (end_from Untold acts) (bytes ∷ []) Closes) (sym ready_bytes-spelled) looked

-- what a start gave is the front of what its line says
pub start_front : (s : StartScript) (acts : List Act) → is_refused s ≡ false → any_gone acts ≡ false → LooksAt (steps_of_start s) acts
    → IsStartFront (record { stands = true; restored = if any_gone acts then false else true; pieces = pieces acts; end = end_from Untold acts }) (start_said s)
unfolding start_said steps_of_start pieces_of
start_front start.Ready acts stands none looked = record { stands = refl; restored = rw none refl; front = ready_front acts looked }
start_front start.Refused acts stands none looked = absurd cc
start_front start.Closed acts stands none looked = record { stands = refl; restored = rw none refl; front = looked }
start_front start.Silent acts stands none looked = record { stands = refl; restored = rw none refl; front = looked }
start_front start.Garbled acts stands none looked = record { stands = refl; restored = rw none refl; front = looked }
